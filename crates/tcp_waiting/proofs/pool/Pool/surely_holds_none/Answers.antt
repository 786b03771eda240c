use Rattle.std.proofs.Common.{◌≡◌, rules, sym, ◌∙◌}
use Rattle.std.proofs.lemmas.Bool.{eqb-true}
use Rattle.tcp_waiting.specs.Payload.{load_of}
use Rattle.tcp_waiting.proofs.Counts.{none_loaded}
use Rattle.tcp_waiting.proofs.pool.Pool.surely_holds_none.Goals as goal

pub returns-then-flow-len : goal.returns-then-flow-len
returns-then-flow-len c h =
    let none : c.index.result.now ≡ 0 = eqb-true c.index.result.now 0 h in
    let own : c.index.result.now ≡ load_of c.args.flow c.args.self.now.held = search rules in
    none_loaded c.args.flow c.args.self.now.held
    (rw (← c.self.view_is) c.self.invariant.small) (sym own ∙ none)
