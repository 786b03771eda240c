-- The reading after a transition of an innermost part, inside the frames around it.
use Rattle.std.proofs.Common.{arith, ◌≡◌, ℕ, zero, suc, pred, ◌<◌, List, [], sym, ◌∙◌, ap, append-nil}
use Rattle.giop_decode.specs.ReadResult.{Coding, PathSegment, ValueAt, OpenPart, Done, with_front}
use Rattle.giop_decode.specs.ReadingSteps.{resume_outer, parts_after_lines}
use Rattle.giop_decode.specs.Fits.{HasParts, HasCase, IsEncapsulation}
use Rattle.giop_decode.proofs.Around.{fit_part, around-front}
use Rattle.giop_decode.proofs.Leaving.{fit_case, fit_held}
use Rattle.giop_sig.specs.Types.{Ty, part_of}
use Rattle.giop_sig.specs.Fits.{IsFit}

pub fit_first : (d : ℕ) (T : Ty) (count : ℕ) → IsFit d T → HasParts T count → 0 < count →
    IsFit (pred d) (part_of T 0)
unfolding IsFit
fit_first zero T count fit kind pos = absurd fit
fit_first (suc d) T count fit kind pos = search (arith, fit_part)

pub fit_selected : (d : ℕ) (T : Ty) (i : ℕ) → IsFit d T → HasCase T i → IsFit (pred d) (part_of T i)
unfolding IsFit
fit_selected zero T i fit kind = absurd fit
fit_selected (suc d) T i fit kind = fit_case d T i fit kind

pub fit_inside : (d : ℕ) (T : Ty) → IsFit d T → IsEncapsulation T → IsFit (pred d) (part_of T 0)
unfolding IsFit
fit_inside zero T fit kind = absurd fit
fit_inside (suc d) T fit kind = fit_held d T fit kind

module _ (coding : Coding) (path : List PathSegment) (ps : List OpenPart) (lines : List ValueAt)
    (at : ℕ) where
  pub around_done : resume_outer coding path ps (Done lines at [])
      ≡ with_front lines (resume_outer coding path (parts_after_lines lines ps) (Done [] at []))
  around_done = ap (λ ls. resume_outer coding path ps (Done ls at [])) (sym (append-nil lines))
      ∙ around-front coding path ps lines (Done [] at [])
