use Rattle.std.proofs.Common.{◌≡◌, ℕ, ◌&&◌, Bool, true, false, Option, get_or, sym, ap, ◌∙◌, arith}
use Rattle.tcp_segment.specs.Segments.{segment_view}
use Rattle.tcp_flow.specs.declared.flow.CloseCause.TheVariants.{Reset}
use Rattle.tcp_flow.specs.declared.flow.FlowState.{FlowState}
use Rattle.tcp_streams.specs.Pairs.{flow_id}
use Rattle.tcp_connections.specs.Connections.{State, ended_by, flow_at, flow_of_side, is_near_due, is_reset, slot_at}
use Rattle.tcp_connections.proofs.Cases.{no_reset, a_reset}
use Rattle.tcp_connections.proofs.Slots.{same_index}
use Rattle.tcp_connections.proofs.States.{small_slot, sound_of, moved, moved_ok}
use Rattle.tcp_connections.proofs.connections.Connections.take_reset.Goals as goal

pub flow_id-requires : goal.flow_id-requires
flow_id-requires g c =
    let k = c.requires.known in
    let b = small_slot _ _ _ _ k.0 c.requires.state.1 k.1.within in omega (arith, k.1.slot_is, b)

pub index_of-requires : goal.index_of-requires
index_of-requires g c =
    let k = c.requires.known in
    record { sound = sound_of _ _ _ _ c.requires.state.1; known = (k.0, k.1.found) }

pub returns-then-not-segment-clause-does : goal.returns-then-not-segment-clause-does
returns-then-not-segment-clause-does g c index k w h =
    moved _ _ _ _ _ (no_reset g.L.Listener.reader w index c.args.side
    (segment_view c.args.segment)
    (ap (λ (b : Bool). b && is_near_due (flow_of_side w index c.args.side)
    c.args.segment.sequence) c.if-not-segment.true)) h

pub returns-then-not-is_near_due-clause-does : goal.returns-then-not-is_near_due-clause-does
returns-then-not-is_near_due-clause-does g c index k w h =
    let S = segment_view c.args.segment in
    let at = sym k.slot_is ∙ ap (λ (u : State). get_or u.slots index 0) h.same in
    let id : c.flow_id.result ≡ flow_id (slot_at w index) c.args.side =
    c.flow_id.ensures.id ∙ ap (λ r. flow_id r c.args.side) at in
    let flow = ap (λ (u : State). flow_at u c.flow_id.result) h.same ∙ ap (flow_at w) id in
    let near : is_near_due (flow_of_side w index c.args.side) S.sequence ≡ false =
    ap (λ (o : Option FlowState). is_near_due o S.sequence) (sym flow)
    ∙ sym c.is_near_due.ensures ∙ c.if-not-is_near_due.true in
    let counts : is_reset (flow_of_side w index c.args.side) S ≡ false =
    ap (λ (b : Bool). b && is_near_due (flow_of_side w index c.args.side) S.sequence)
    c.if-not-segment.false ∙ near in
    moved _ _ _ _ _ (no_reset g.L.Listener.reader w index c.args.side S counts) h

pub returns-clause-does : goal.returns-clause-does
returns-clause-does g c index k w h =
    let S = segment_view c.args.segment in
    let at = sym k.slot_is ∙ ap (λ (u : State). get_or u.slots index 0) h.same in
    let id : c.flow_id.result ≡ flow_id (slot_at w index) c.args.side =
    c.flow_id.ensures.id ∙ ap (λ r. flow_id r c.args.side) at in
    let flow = ap (λ (u : State). flow_at u c.flow_id.result) h.same ∙ ap (flow_at w) id in
    let near : is_near_due (flow_of_side w index c.args.side) S.sequence ≡ true =
    ap (λ (o : Option FlowState). is_near_due o S.sequence) (sym flow)
    ∙ sym c.is_near_due.ensures ∙ c.if-not-is_near_due.false in
    let counts : is_reset (flow_of_side w index c.args.side) S ≡ true =
    ap (λ (b : Bool). b && is_near_due (flow_of_side w index c.args.side) S.sequence)
    c.if-not-segment.false ∙ near in
    moved_ok c.end_connection.result _ _ _ _ _
    (a_reset g.L.Listener.reader w index c.args.side S counts
    ∙ ap (λ (n : ℕ). ended_by g.L.Listener.reader w n c.args.side Reset)
    (same_index index c.index_of.result (sym k.found ∙ c.index_of.ensures.index)))
    (c.end_connection.ensures.does w h)
