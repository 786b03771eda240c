use Rattle.std.proofs.Common.{◌∙◌, arith}
use Rattle.giop_print.specs.Line.{line_text}
use Rattle.giop_print.proofs.Blocks.{last_half}
use Rattle.giop_print.proofs.line.Line.put_front.Goals as goal

pub returns-then-count-clause-text : goal.returns-then-count-clause-text
returns-then-count-clause-text c =
    let front = c.args.front.now in
    c.put_blocks.ensures.text
    ∙ last_half c.last_octets.result.now (line_text front) (line_text c.args.self.now) front.at
    c.last_octets.ensures.size c.if-count.true front.within
    (c.last_octets.ensures.text (omega (arith, c.if-count.true, front.within)))
