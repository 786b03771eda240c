use Rattle.std.proofs.Common.{◌≡◌, ℕ, length, get_or, sym, ap, ◌∙◌, arith}
use Rattle.tcp_flow.specs.declared.flow.CloseCause.TheVariants.{Room}
use Rattle.tcp_streams.specs.declared.pair.Side.{Side}
use Rattle.tcp_streams.specs.Lives.{lives, elder_side}
use Rattle.tcp_connections.specs.Connections.{State, slot_at, shown, shown_by_age, forgotten}
use Rattle.tcp_connections.proofs.Shown.{shown_kept}
use Rattle.tcp_connections.proofs.States.{small_slot, known_of, moved_ok}
use Rattle.tcp_connections.proofs.connections.Connections.clear_connection.Goals as goal

pub elder_side-requires : goal.elder_side-requires
elder_side-requires g c =
    let b = small_slot _ _ _ _ c.args.index c.requires.state.1
    (omega (arith, c.requires.index)) in
    omega (arith, c.slot-slot.ensures, b)

pub show_held-requires-clause-slot : goal.show_held-requires-clause-slot
show_held-requires-clause-slot g c =
    let b = small_slot _ _ _ _ c.args.index c.requires.state.1
    (omega (arith, c.requires.index)) in
    omega (arith, c.slot-slot.ensures, b)

pub elder_side-requires-2 : goal.elder_side-requires-2
elder_side-requires-2 g c =
    let b = small_slot _ _ _ _ c.args.index c.requires.state.1
    (omega (arith, c.requires.index)) in
    omega (arith, c.slot-slot.ensures, b)

pub forget_connection-requires-clause-state : goal.forget_connection-requires-clause-state
forget_connection-requires-clause-state g c = (
  _,
  c.in_ok-show_held.ensures.does c.requires.state.0 c.requires.state.1,
)

pub forget_connection-requires-clause-index : goal.forget_connection-requires-clause-index
forget_connection-requires-clause-index g c =
    let w = c.requires.state.0 in
    let n = c.in_ok-show_held.ensures.does w c.requires.state.1 in
    omega (
      arith,
      c.requires.index,
      ap length (known_of _ _ _ _ n),
      ap length (shown_kept g.L.Listener.reader w c.slot-slot.result c.elder_side.result).known,
      ap length (known_of _ _ _ _ c.requires.state.1),
    )

pub returns-clause-does : goal.returns-clause-does
returns-clause-does g c w h =
    let F = g.L.Listener.reader in
    let index = c.args.index in
    let n = c.in_ok-show_held.ensures.does w h in
    let at : c.slot-slot.result ≡ slot_at w index =
    c.slot-slot.ensures ∙ ap (λ (u : State). get_or u.slots index 0) h.same in
    let first : c.elder_side.result ≡ elder_side c.slot-slot.result (lives w.events) =
    c.elder_side.ensures ∙ ap (elder_side c.slot-slot.result) h.live in
    let v : State = shown F w c.slot-slot.result c.elder_side.result in
    let second : c.elder_side-2.result ≡ elder_side c.slot-slot.result (lives v.events) =
    c.elder_side-2.ensures ∙ ap (elder_side c.slot-slot.result) n.live in
    moved_ok c.forget_connection.result _ _ _ _ _
    (ap (λ (r : ℕ). forgotten (shown_by_age F w r) index
    (elder_side r (lives (shown_by_age F w r).events)) Room) (sym at)
    ∙ ap (λ (d : Side). forgotten (shown F w c.slot-slot.result d) index
    (elder_side c.slot-slot.result (lives (shown F w c.slot-slot.result d).events)) Room)
    (sym first)
    ∙ ap (λ (d : Side). forgotten v index d Room) (sym second))
    (c.forget_connection.ensures.does _ n)
