use Rattle.std.proofs.Common.{refl}
use Rattle.giop_print.proofs.Spelling.{pair_at}
use Rattle.giop_print.proofs.line.Line.put_octet.Goals as goal

pub returns-clause-text : goal.returns-clause-text
returns-clause-text c =
    let pair = pair_at c.args.octet c.ranges.octet.fits in
    rw (c.put-2.ensures.text, c.put.ensures.text, pair.0, pair.1) refl
