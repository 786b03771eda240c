use Rattle.std.proofs.Common.{◌≡◌, ◌<◌, ℕ, [], ◌∷◌, ◌++◌, length, get_or, refl, sym, ap, ◌∙◌, arith}
use Rattle.tcp_streams.specs.Pairs.{flow_id, opposite}
use Rattle.tcp_connections.specs.Connections.{State, slot_at, flow_forgotten}
use Rattle.tcp_connections.proofs.Changes.{entered}
use Rattle.tcp_connections.proofs.Forgotten.{forgot_known}
use Rattle.tcp_connections.proofs.Sound.{slot_below}
use Rattle.tcp_connections.proofs.States.{small_slot, known_of, forgot_at, connection_forgotten, some_known}
use Rattle.tcp_connections.proofs.connections.Connections.forget_connection.Goals as goal

pub flow_id-requires : goal.flow_id-requires
flow_id-requires g c =
    let b = small_slot _ _ _ _ c.args.index c.requires.state.1
    (omega (arith, c.requires.index)) in
    omega (arith, c.slot-slot.ensures, b)

pub forget_flow-requires-2 : goal.forget_flow-requires-2
forget_flow-requires-2 g c = record {
  state =
      (_, c.in_ok-forget_flow.ensures.does c.requires.state.0 c.requires.state.1);
}

pub forget-requires : goal.forget-requires
forget-requires g c =
    let n = c.in_ok-forget_flow-2.ensures.does _
    (c.in_ok-forget_flow.ensures.does c.requires.state.0 c.requires.state.1) in
    let w = c.requires.state.0 in
    let k = known_of _ _ _ _ n ∙ forgot_known (flow_forgotten w c.flow_id.result c.args.cause)
    c.flow_id-2.result c.args.cause ∙ forgot_known w c.flow_id.result c.args.cause
    ∙ sym (known_of _ _ _ _ c.requires.state.1) in
    omega (
      arith,
      c.requires.index,
      ap length k,
    )

pub give_back-requires : goal.give_back-requires
give_back-requires g c =
    let n = c.in_ok-forget_flow-2.ensures.does _
    (c.in_ok-forget_flow.ensures.does c.requires.state.0 c.requires.state.1) in
    let w = c.requires.state.0 in
    let k = forgot_known (flow_forgotten w c.flow_id.result c.args.cause) c.flow_id-2.result
    c.args.cause ∙ forgot_known w c.flow_id.result c.args.cause
    ∙ sym (known_of _ _ _ _ c.requires.state.1) in
    let less = some_known _ _ _ _ c.args.index n
    (omega (arith, c.requires.index, ap length k)) in
    omega (arith, less, c.forget_flow-2.new.self.free.free.ok.0)

pub returns-clause-does : goal.returns-clause-does
returns-clause-does g c w h =
    let index = c.args.index in
    let side = c.args.side in
    let cause = c.args.cause in
    let at = c.slot-slot.ensures ∙ ap (λ (u : State). get_or u.slots index 0) h.same in
    let own : c.flow_id.result ≡ flow_id (slot_at w index) side =
    c.flow_id.ensures.id ∙ ap (λ (r : ℕ). flow_id r side) at in
    let other : c.flow_id-2.result ≡ flow_id (slot_at w index) (opposite side) =
    c.flow_id-2.ensures.id ∙ ap (λ (r : ℕ). flow_id r c.opposite_side.result) at
    ∙ ap (flow_id (slot_at w index)) c.opposite_side.ensures in
    let l : index < length w.known = omega (
      arith,
      c.requires.index,
      ap length (known_of _ _ _ _ h),
    ) in
    let below = slot_below w index h.sound l in
    let first = forgot_at _ _ _ w _ _ cause own (c.in_ok-forget_flow.ensures.does w h) in
    let both = forgot_at _ _ _ _ _ _ cause other (c.in_ok-forget_flow-2.ensures.does _ first) in
    connection_forgotten (g.L.Listener.observed c.forget_flow-2.new.to.listener)
    c.forget_flow-2.new.to.live.items c.forget_flow-2.new.self
    (record c.forget_flow-2.new.self { table = c.forget.new.self; free = c.give_back.new.self })
    w index side cause h.sound both l (omega (arith, below, h.sound.flows))
    (λ es. entered c.forget_flow-2.new.self
    (record c.forget_flow-2.new.self { table = c.forget.new.self; free = c.give_back.new.self })
    es (λ es. refl) _ _ _ _ _ _ c.forget.ensures.keys c.forget.ensures.slots
    (c.give_back.ensures.free ∙ ap (λ (r : ℕ). c.forget_flow-2.new.self.free.free.items ++ r ∷ [])
    at) refl refl refl)
    c.give_back.ensures.most c.forget.ensures.most refl
