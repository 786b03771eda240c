use Rattle.std.proofs.Common.{◌<◌, ◌++◌, length, arith, length-append}
use Rattle.giop_print.proofs.Spelling.{spaced_before}
use Rattle.giop_print.proofs.line.Line.put_spaced_hex.Goals as goal

pub returns-then-size-gt0-clause-text : goal.returns-then-size-gt0-clause-text
returns-then-size-gt0-clause-text c =
    let held = c.args.octets.now in
    let some : 0 < length (held ++ c.args.next.now) =
    omega (arith, length-append held c.args.next.now, c.if-size-gt0.true) in
    rw (
      c.put.ensures.text,
      c.put_hex-then-size-gt0.ensures.text,
      c.put_hex.ensures.text,
    )
    (spaced_before held c.args.next.now _ some)
