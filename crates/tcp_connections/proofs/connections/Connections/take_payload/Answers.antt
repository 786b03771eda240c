use Rattle.std.proofs.Common.{sym, ap, ◌∙◌}
use Rattle.tcp_segment.specs.Segments.{segment_view}
use Rattle.tcp_connections.specs.Connections.{State, flow_at}
use Rattle.tcp_connections.proofs.Cases.{payload_reset, payload_later}
use Rattle.tcp_connections.proofs.States.{moved, moved_ok}
use Rattle.tcp_connections.proofs.connections.Connections.take_payload.Goals as goal

pub returns-then-segment-clause-does : goal.returns-then-segment-clause-does
returns-then-segment-clause-does g c w h =
    moved _ _ _ _ _ (payload_reset g.L.Listener.reader w c.args.id (segment_view c.args.segment)
    c.in-Some.flow (sym (ap (λ (u : State). flow_at u c.args.id) h.same) ∙ sym c.flow.ensures
    ∙ c.in-Some.is) c.if-segment.true) h

pub take_later_payload-requires-clause-flow : goal.take_later_payload-requires-clause-flow
take_later_payload-requires-clause-flow g c = sym c.flow.ensures ∙ c.in-Some.is

pub relieve-requires : goal.relieve-requires
relieve-requires g c = record {
  state = (_, c.in_ok-take_later_payload.ensures.does c.requires.state.0 c.requires.state.1);
}

pub returns-clause-does : goal.returns-clause-does
returns-clause-does g c w h =
    moved_ok c.relieve.result _ _ _ _ _
    (payload_later g.L.Listener.reader w c.args.id (segment_view c.args.segment) c.in-Some.flow
    (sym (ap (λ (u : State). flow_at u c.args.id) h.same) ∙ sym c.flow.ensures ∙ c.in-Some.is)
    c.if-segment.false)
    (c.relieve.ensures.does _ (c.in_ok-take_later_payload.ensures.does w h))
