use Rattle.std.proofs.Common.{sym, ap, ◌∙◌}
use Rattle.tcp_segment.specs.Segments.{segment_view}
use Rattle.tcp_connections.specs.Connections.{State, flow_at, is_first_payload}
use Rattle.tcp_connections.proofs.Cases.{payload_first, payload_nothing}
use Rattle.tcp_connections.proofs.States.{moved, moved_ok}
use Rattle.tcp_connections.proofs.connections.Connections.take_first_payload.Goals as goal

pub returns-then-not-is_first_payload-clause-does :
    goal.returns-then-not-is_first_payload-clause-does
returns-then-not-is_first_payload-clause-does g c w h =
    moved _ _ _ _ _ (payload_nothing g.L.Listener.reader w c.args.id (segment_view c.args.segment)
    (sym (ap (λ (u : State). flow_at u c.args.id) h.same) ∙ c.requires.vacant)
    (sym (ap (λ (u : State). is_first_payload u.ports (segment_view c.args.segment)) h.same)
    ∙ sym c.is_first_payload.ensures ∙ c.if-not-is_first_payload.true))
    (c.tell_looked_through.ensures w h)

pub returns-clause-does : goal.returns-clause-does
returns-clause-does g c w h =
    moved_ok c.begin_flow.result _ _ _ _ _
    (payload_first g.L.Listener.reader w c.args.id (segment_view c.args.segment)
    (sym (ap (λ (u : State). flow_at u c.args.id) h.same) ∙ c.requires.vacant)
    (sym (ap (λ (u : State). is_first_payload u.ports (segment_view c.args.segment)) h.same)
    ∙ sym c.is_first_payload.ensures ∙ c.if-not-is_first_payload.false))
    (c.begin_flow.ensures.does w h)
