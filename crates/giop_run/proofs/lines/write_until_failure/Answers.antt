use Rattle.std.proofs.Common.{take-add, length-drop, arith}
use Rattle.std.proofs.KnownBytes.{Appends-trans}
use Rattle.giop_print.proofs.Writing.{rest_from}
use Rattle.giop_run.proofs.lines.write_until_failure.Goals as goal

pub loop-taken-preserved : goal.loop-taken-preserved
loop-taken-preserved g c =
    let taken = c.loop-taken.taken in
    let octets = c.args.octets.now in
    record {
      within = omega (
        arith,
        length-drop taken octets,
        c.in-Ok.ensures.bound,
        c.loop-taken-test.true,
      );
      written = rw (take-add taken c.in-Ok.some octets)
          (Appends-trans _ _ _ _ _ c.loop-taken.invariant.written
          (rw (rest_from taken octets) at c.in-Ok.ensures.bytes));
    }
