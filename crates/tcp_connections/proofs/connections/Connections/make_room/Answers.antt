use Rattle.std.proofs.Common.{◌≡◌, [], length, sym, ap, ◌∙◌, arith}
use Rattle.std.proofs.lemmas.Bool.{leb-true, leb-false}
use Rattle.tcp_connections.specs.Connections.{State, cleared, eldest}
use Rattle.tcp_connections.specs.State.{state_of}
use Rattle.tcp_connections.proofs.Cases.{room_there, room_made}
use Rattle.tcp_connections.proofs.States.{kept, known_of, moved, moved_ok, eldest_any}
use Rattle.tcp_connections.proofs.connections.Connections.make_room.Goals as goal

pub returns-then-not-is_full-clause-does : goal.returns-then-not-is_full-clause-does
returns-then-not-is_full-clause-does g c w h =
    let less = leb-false _ _ (sym c.is_full.ensures ∙ c.if-not-is_full.true) in
    moved _ _ _ _ _ (room_there g.L.Listener.reader w (omega (
      arith,
      less,
      h.room,
      ap length (known_of _ _ _ _ h),
    ))) h

pub clear_connection-requires-clause-state : goal.clear_connection-requires-clause-state
clear_connection-requires-clause-state g c =
    let h = c.requires.state in (
      h.0,
      kept _ _ c.args.self.now c.find_eldest-index.new.self h.0 c.find_eldest-index.ensures.same
          c.find_eldest-index.ensures.free c.find_eldest-index.ensures.room
          c.find_eldest-index.ensures.givers h.1,
    )

pub returns-clause-does : goal.returns-clause-does
returns-clause-does g c w h =
    let F = g.L.Listener.reader in
    let known = known_of _ _ _ _ h in
    let full = leb-true _ _ (sym c.is_full.ensures ∙ c.if-not-is_full.false) in
    let n : c.find_eldest-index.result ≡ eldest w (length w.known) =
    c.find_eldest-index.ensures.index ∙ ap (eldest (state_of c.args.self.now []))
    (ap length known)
    ∙ eldest_any c.args.self.now [] w.events (length w.known)
    ∙ ap (λ (u : State). eldest u (length w.known)) h.same in
    moved_ok c.clear_connection.result _ _ _ _ _
    (room_made F w (omega (arith, full, h.room, ap length known))
    ∙ ap (cleared F w) (sym n))
    (c.clear_connection.ensures.does w (kept _ _ c.args.self.now c.find_eldest-index.new.self w
    c.find_eldest-index.ensures.same c.find_eldest-index.ensures.free
    c.find_eldest-index.ensures.room
    c.find_eldest-index.ensures.givers h))
