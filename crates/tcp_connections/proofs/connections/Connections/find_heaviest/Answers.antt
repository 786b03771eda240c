use Rattle.std.proofs.Common.{◌<◌, ◌≡◌, ℕ, List, get_or, sym, ap, ◌∙◌, arith}
use Rattle.tcp_waiting.specs.Payload.{Payload, load_of}
use Rattle.tcp_streams.specs.Lives.{lives}
use Rattle.tcp_connections.specs.Connections.{State, heaviest_from}
use Rattle.tcp_connections.proofs.Heavier.{first_gives_up}
use Rattle.tcp_connections.proofs.connections.Connections.find_heaviest.Goals as goal

pub returns-clause-is : goal.returns-clause-is
returns-clause-is g c =
    let w : State = c.requires.state.0 in
    let h = c.requires.state.1 in
    let held : c.args.self.now.pool.held ≡ w.held = ap (λ (u : State). u.held) h.same in
    let some : 0 < load_of c.in-Some.id w.held =
    omega (arith, c.if-load-gt0.true, c.load.ensures, ap (load_of c.in-Some.id) held) in
    first_gives_up c.args.self.now.givers w c.in-Some.id h.sound h.told h.ranked
    c.in-Some.ensures.first c.unique_least.ensures.small some
    ∙ ap (λ (ps : List Payload). heaviest_from ps (get_or (lives w.events) 0 0) (lives w.events))
    (sym held)
    ∙ ap (λ (xs : List ℕ). heaviest_from c.args.self.now.pool.held (get_or xs 0 0) xs) (sym h.live)
