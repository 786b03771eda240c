use Rattle.std.proofs.Common.{◌≡◌, ℕ, length, get_or, sym, ap, ◌∙◌, arith}
use Rattle.tcp_connections.specs.Connections.{State, slot_at, shown, forgotten}
use Rattle.tcp_connections.proofs.Shown.{shown_kept}
use Rattle.tcp_connections.proofs.States.{small_slot, known_of, moved_ok}
use Rattle.tcp_connections.proofs.connections.Connections.end_connection.Goals as goal

pub show_held-requires-clause-slot : goal.show_held-requires-clause-slot
show_held-requires-clause-slot g c =
    let b = small_slot _ _ _ _ c.args.index c.requires.state.1
    (omega (arith, c.requires.index)) in
    omega (arith, c.slot-slot.ensures, b)

pub forget_connection-requires-clause-state : goal.forget_connection-requires-clause-state
forget_connection-requires-clause-state g c = (
  _,
  c.in_ok-show_held.ensures.does c.requires.state.0 c.requires.state.1,
)

pub forget_connection-requires-clause-index : goal.forget_connection-requires-clause-index
forget_connection-requires-clause-index g c =
    let w = c.requires.state.0 in
    let n = c.in_ok-show_held.ensures.does w c.requires.state.1 in
    omega (
      arith,
      c.requires.index,
      ap length (known_of _ _ _ _ n),
      ap length (shown_kept g.L.Listener.reader w c.slot-slot.result c.args.side).known,
      ap length (known_of _ _ _ _ c.requires.state.1),
    )

pub returns-clause-does : goal.returns-clause-does
returns-clause-does g c w h =
    let F = g.L.Listener.reader in
    let at : c.slot-slot.result ≡ slot_at w c.args.index =
    c.slot-slot.ensures ∙ ap (λ (u : State). get_or u.slots c.args.index 0) h.same in
    moved_ok c.forget_connection.result _ _ _ _ _
    (ap (λ (r : ℕ). forgotten (shown F w r c.args.side) c.args.index c.args.side c.args.cause)
    (sym at))
    (c.forget_connection.ensures.does _ (c.in_ok-show_held.ensures.does w h))
