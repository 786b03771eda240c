use Rattle.giop_print.proofs.Writing.{writes_then, writes_err}
use Rattle.giop_stream.specs.OpenSlots.{slots_at}
use Rattle.giop_stream.proofs.StreamLines.FinishByFields.{left_text}
use Rattle.giop_stream.proofs.framing.Framing.write_unfinished.Goals as goal

pub returns-in_err-write_unfinished : goal.returns-in_err-write_unfinished
returns-in_err-write_unfinished g c = λ C l s h.
    rw (left_text s) (writes_err _ _ _ _ _ c.from_residual.ensures.0
    (c.in_err-write_unfinished.ensures C l (slots_at s.tracked) h.slots.slots))

pub returns : goal.returns
returns g c = λ C l s h. rw (left_text s)
    (writes_then _ _ _ _ _ _ (c.in_ok-write_unfinished.ensures C l
    (slots_at s.tracked) h.slots.slots)
    (c.write_current_unfinished.ensures C l s h))
