use Rattle.std.proofs.Common.{◌∙◌, ap, take-add, length-drop, arith}
use Rattle.std.proofs.KnownBytes.{Appends-trans}
use Rattle.giop_print.specs.Output.{saturating_next}
use Rattle.giop_print.proofs.Writing.{rest_from}
use Rattle.giop_conversation.proofs.tagged.put_pieces_until_failure.Goals as goal

pub loop-at-preserved : goal.loop-at-preserved
loop-at-preserved g c =
    let put = rw (rest_from c.loop-at.at c.args.octets.now) at c.in-Ok.ensures in
    let l = length-drop c.loop-at.at c.args.octets.now in
    record {
      within = omega (arith, l, put.within, c.loop-at-test.true);
      written = rw (take-add c.loop-at.at c.in-Ok.taken c.args.octets.now)
          (Appends-trans _ _ _ _ _ c.loop-at.invariant.written put.written);
      none = put.failures ∙ c.loop-at.invariant.none;
    }

pub returns-in-Err-clause-cause : goal.returns-in-Err-clause-cause
returns-in-Err-clause-cause g c = λ less.
    c.in-Err.ensures.failures ∙ ap saturating_next c.loop-at.invariant.none
