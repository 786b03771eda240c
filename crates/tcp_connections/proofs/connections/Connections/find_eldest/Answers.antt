use Rattle.std.proofs.Common.{◌≡◌, ◌<◌, ℕ, [], length, sym, ap, subst, ◌∙◌, arith}
use Rattle.tcp_connections.specs.Connections.{State, eldest}
use Rattle.tcp_connections.specs.Ranks.{IsBeforeAll}
use Rattle.tcp_connections.specs.State.{state_of}
use Rattle.tcp_connections.proofs.Eldest.{only_eldest}
use Rattle.tcp_connections.proofs.connections.Connections.find_eldest.Goals as goal

pub returns-clause-index : goal.returns-clause-index
returns-clause-index c =
    let w : State = state_of c.args.self.now [] in
    let index : ℕ = c.in-Some-index_of_slot.index in
    let within : index < length w.known = omega (
      arith,
      c.in-Some-index_of_slot.ensures.some.0,
      c.requires.sound.pairs,
    ) in
    let many : length w.known ≡ length c.args.self.now.table.keys =
    omega (arith) in
    only_eldest w index c.requires.sound within
    (subst (λ (r : ℕ). IsBeforeAll w.flows w.came w.lasts r)
    (sym c.in-Some-index_of_slot.ensures.some.1) c.in-Some.ensures.some)
    ∙ ap (eldest w) many
