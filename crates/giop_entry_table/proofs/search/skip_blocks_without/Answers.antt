use Rattle.std.proofs.Common.{arith, ◌==◌, ◌∙◌, sym}
use Rattle.giop_entry_table.proofs.SearchLemmas.{position-block}
use Rattle.giop_entry_table.proofs.search.skip_blocks_without.Goals as goal

pub loop-at-preserved : goal.loop-at-preserved
loop-at-preserved c = (
  omega (arith, c.loop-at-test.true),
  c.loop-at.invariant.1 ∙ position-block (λ k. k == c.args.key) c.args.keys.now c.loop-at.at 64
      (omega (arith, c.loop-at-test.true)) (sym c.is_among.ensures ∙ c.if-not-is_among.true),
)
