use Rattle.std.proofs.Common.{◌≡◌, ℕ, ◌+◌, ◌/◌, cond, nat_eq, ap, ◌∙◌, refl, arith}
use Rattle.std.proofs.lemmas.Bool.{eq-eqb, ne_eqb}
use Rattle.tcp_waiting.specs.Layout.{held_in}
use Rattle.tcp_waiting.proofs.Counts.{load_most}
use Rattle.tcp_waiting.proofs.Queries.{here, load_turn, load_end}
use Rattle.tcp_waiting.proofs.pool.Pool.load_by_walk.Goals.{then-here-flow, else-here-flow}
use Rattle.tcp_waiting.proofs.pool.Pool.load_by_walk.Goals as goal

pub overflow_add-load : goal.overflow_add-load
overflow_add-load c =
    let a = c.self.inside in
    let w = c.at-here.result in
    let h = here a.octets.items a.waiting.items c.loop-index.index w c.self.invariant.within
    (omega arith) c.at-here.ensures in
    let turn = load_turn a.octets.items a.waiting.items c.loop-index.index w c.args.flow h in
    let own : ◌≡◌ {A = ℕ} (cond (nat_eq w.flow c.args.flow) ((w.count + 1023) / 1024) 0)
    ((w.count + 1023) / 1024) = rw (eq-eqb w.flow c.args.flow c.if-here-flow.true) refl in
    omega (arith, load_most c.args.flow (held_in a.octets.items a.waiting.items))

pub loop-index-preserved : goal.loop-index-preserved
loop-index-preserved c =
    let a = c.self.inside in
    let w = c.at-here.result in
    let h = here a.octets.items a.waiting.items c.loop-index.index w c.self.invariant.within
    (omega arith) c.at-here.ensures in
    let turn = load_turn a.octets.items a.waiting.items c.loop-index.index w c.args.flow h in
    let more : c.if-here-flow.load ≡ c.loop-index.load
    + cond (nat_eq w.flow c.args.flow) ((w.count + 1023) / 1024) 0 =
    elim c.if-here-flow.branch [
      | then-here-flow b ↦ b.load-is ∙ rw (eq-eqb w.flow c.args.flow b.if-here-flow.true)
          (ap (λ n. c.loop-index.load + n) b.blocks_for-load.ensures)
      | else-here-flow b ↦ b.load-is ∙ rw (ne_eqb w.flow c.args.flow b.if-here-flow.false)
          (omega arith)
    ] in
    (omega arith, omega arith)

pub returns : goal.returns
returns c =
    let a = c.self.inside in
    rw (← c.self.view_is) (omega (
      arith,
      load_end a.octets.items a.waiting.items c.loop-index.index c.args.flow (omega arith),
    ))
