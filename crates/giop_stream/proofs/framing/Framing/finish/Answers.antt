use Rattle.giop_print.proofs.Writing.{writes_then, writes_err}
use Rattle.giop_stream.proofs.StreamLines.FinishByFields.{finish_text}
use Rattle.giop_stream.proofs.framing.Framing.finish.Goals as goal

pub returns-in_err-write_truncated_line : goal.returns-in_err-write_truncated_line
returns-in_err-write_truncated_line g c = λ C l s h.
    rw (finish_text s) (writes_err _ _ _ _ _ c.from_residual.ensures.0
    (c.in_err-write_truncated_line.ensures C l s h))

pub returns : goal.returns
returns g c = λ C l s h. rw (finish_text s)
    (writes_then _ _ _ _ _ _ (c.in_ok-write_truncated_line.ensures C l s h)
    (c.write_unfinished_and_totals.ensures C l s h))
