-- If there is room for a part when few interfaces may be added, there is room when more may be
-- added.
use Rattle.std.proofs.Common.{ℕ, ◌≤◌, arith}
use Rattle.capture_file.specs.declared.part.Outcome.{Outcome}
use Rattle.capture_file.specs.declared.part.Outcome.TheVariants.{Continues, EndsPacket, Fails}
use Rattle.capture_file.specs.Fits.{Fits}

pub fits_more : (few many : ℕ) (o : Outcome) → Fits few o → few ≤ many → Fits many o
fits_more few many (Continues part) fits less = (fits.0, omega arith)
fits_more few many (EndsPacket info part) fits less = (fits.0, omega arith)
fits_more few many (Fails kind) fits less = tt
