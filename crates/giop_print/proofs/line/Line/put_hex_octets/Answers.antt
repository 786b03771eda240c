use Rattle.std.proofs.Common.{arith}
use Rattle.giop_print.specs.Line.{line_text}
use Rattle.giop_print.proofs.Spelling.{hex_before}
use Rattle.giop_print.proofs.line.Line.put_hex_octets.Goals as goal

pub loop-left-preserved : goal.loop-left-preserved
loop-left-preserved c =
    let before = c.loop-left.invariant in
    record {
      text = rw c.put_octet.ensures.text
          (hex_before (line_text c.args.self.now) (line_text c.loop-left.self) c.args.octets.now
          c.loop-left.left
          c.loop-left-test.true before.within before.text);
      room = omega (
        arith,
        c.put_octet.ensures.room,
        before.room,
        before.within,
        c.loop-left-test.true,
      );
      within = omega (arith, before.within);
    }
