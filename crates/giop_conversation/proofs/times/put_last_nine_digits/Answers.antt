use Rattle.giop_print.specs.Line.{line_text}
use Rattle.giop_conversation.proofs.TimeLemmas.{nine_digits}
use Rattle.giop_conversation.proofs.times.put_last_nine_digits.Goals as goal

pub returns-clause-text : goal.returns-clause-text
returns-clause-text c =
    rw (
      c.put.ensures.text,
      c.put_two_digits-4.ensures.text,
      c.put_two_digits-3.ensures.text,
      c.put_two_digits-2.ensures.text,
      c.put_two_digits.ensures.text,
    )
    (nine_digits c.args.n (line_text c.args.line.now))
