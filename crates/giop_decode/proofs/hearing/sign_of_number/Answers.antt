use Rattle.std.proofs.Common.{refl, sym, ◌∙◌}
use Rattle.giop_decode.proofs.MarkedNumbers.{marked_sign}
use Rattle.giop_decode.proofs.hearing.sign_of_number.Goals as goal

pub returns-in-Marked-Unsigned : goal.returns-in-Marked-Unsigned
returns-in-Marked-Unsigned c n at path is = (
  _,
  refl,
  marked_sign is.scalar is.n c.in-Marked-Unsigned.n c.in-Marked-Unsigned.mark
      (sym is.is ∙ c.in-Marked-Unsigned.ensures.shapes n)
      (rw c.in-Marked-Unsigned.is-1 at is.taken),
)
