use Rattle.std.proofs.Common.{sym, ◌∙◌, arith}
use Rattle.giop_sig_files.proofs.WordLaws.{breaks, goes_on}
use Rattle.giop_sig_files.proofs.earlier.word_before.Goals as goal
use Rattle.giop_sig_files.proofs.earlier.word_before.Goals.{then-text-end-eq32, else-text-end-eq32}

pub loop-end-preserved : goal.loop-end-preserved
loop-end-preserved c =
    let i = c.loop-end.invariant in
    elim c.if-text-end-eq32.branch [
      | then-text-end-eq32 w ↦ rw w.start-is record {
        order = omega arith;
        word = sym (breaks _ _ _ _ i.order c.loop-end-test.true
            (search (arith, c.if-text-end.false))
            (search (arith, w.if-text-end-eq32.true))) ∙ i.word;
      }
      | else-text-end-eq32 w ↦ rw w.start-is record {
        order = omega (arith, i.order);
        word = sym (goes_on _ _ _ _ i.order c.loop-end-test.true
            (search (arith, c.if-text-end.false))
            (search (arith, w.if-text-end-eq32.false))) ∙ i.word;
      }
    ]
