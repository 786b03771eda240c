use Rattle.giop_print.proofs.Spelling.{quoted_before}
use Rattle.giop_print.proofs.line.Line.put_piece.Goals as goal

pub returns-in-Text-clause-text : goal.returns-in-Text-clause-text
returns-in-Text-clause-text c =
    rw (
      c.in-Text.is,
      c.put-in-Text-2.ensures.text,
      c.put-in-Text.ensures.text,
      c.put_escaped-in-Text.ensures.text,
      c.put_escaped.ensures.text,
      c.put.ensures.text,
    )
    (quoted_before c.in-Text.octets.now c.args.next.now _)
