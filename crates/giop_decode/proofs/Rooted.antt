-- The laws of reading a whole. A whole ends at the offset from which octets of no type follow.
use Rattle.std.proofs.Common.{◌≡◌, ℕ, ◌+◌, List, [], ◌∷◌, ◌++◌, length, refl, sym, ◌∙◌, ap, append_assoc, append-nil, arith}
use Rattle.giop_decode.specs.declared.progress.ValueFault.TheVariants as kinds
use Rattle.giop_decode.specs.ReadResult.{Coding, PathSegment, ValueAt, OpenPart, Leaf, Read, Done, Short, Fault, lines_of}
use Rattle.giop_decode.specs.Reading.{left_after, none_left, read, reading, done_if_untyped}
use Rattle.giop_decode.specs.ReadingSteps.{IsEmptyResult, IsOctetResult, root_after_octets, root_step}
use Rattle.giop_decode.specs.Begins.{start_outer, start_leaf}
use Rattle.giop_decode.specs.Fits.{FitsIn, IsSoundReading, AllHoldOffset}
use Rattle.giop_sig.specs.Fits.{IsFit}
use Rattle.giop_sig.specs.Types.{Ty}
use Rattle.giop_decode.proofs.Around.{read_none}
use Rattle.giop_decode.proofs.Enclosing.{read_ends, reading_goes}
use Rattle.giop_decode.proofs.Leaving.{step_keeps}
use Rattle.giop_decode.proofs.OctetResults.{read_quiet, step_now}
use Rattle.giop_decode.proofs.Resuming.{lines_begin}
use Rattle.giop_decode.proofs.Sound.{LeftEndsAt, ends_leave, now_leaves, read_keeps}

pub rooted_lines : (left : ℕ → List ℕ) (r : Read) → lines_of (done_if_untyped left r) ≡ lines_of r
rooted_lines left (Fault lines at kinds.Untyped S) = refl
rooted_lines left (Fault lines at kind S) = refl
rooted_lines left (Done lines at rest) = refl
rooted_lines left (Short lines at outer leaf) = refl

pub whole_resumes : (coding : Coding) (path : List PathSegment) (T : Ty) (at : ℕ) (s t : List ℕ) →
    reading coding path T at (s ++ t) ≡ root_after_octets coding path (reading coding path T at s) t
whole_resumes coding path T at s [] = ap (reading coding path T at) (append-nil s)
whole_resumes coding path T at s (b ∷ t) =
    ap (reading coding path T at) (sym (append_assoc s (b ∷ []) t))
    ∙ (whole_resumes coding path T at (s ++ b ∷ []) t
    ∙ ap (λ r. root_after_octets coding path r t) (reading_goes coding path T at s b))

pub whole_lines : (coding : Coding) (path : List PathSegment) (T : Ty) (at : ℕ) (s t : List ℕ) →
    (more : List ValueAt) × (lines_of (reading coding path T at (s ++ t))
    ≡ lines_of (reading coding path T at s) ++ more)
whole_lines coding path T at s t =
    let l = lines_begin coding path T at s t in (
      l.0,
      rooted_lines (left_after at (s ++ t)) (read coding path T at (s ++ t))
          ∙ (l.1 ∙ ap (λ ls. ls ++ l.0)
          (sym (rooted_lines (left_after at s) (read coding path T at s)))),
    )

rooted_now : (n : ℕ) (r : Read) → IsOctetResult n r → IsOctetResult n (done_if_untyped none_left r)
rooted_now n (Fault lines at kinds.Untyped S) h = (h.0, h.1, refl)
rooted_now n (Fault lines at kind S) h = h
rooted_now n (Done lines at rest) h = h
rooted_now n (Short lines at outer leaf) h = h

pub whole_now : (coding : Coding) (path : List PathSegment) (outer : List OpenPart) (leaf : Leaf)
    (at b : ℕ) → IsOctetResult (at + 1) (root_step coding path outer leaf at b)
whole_now coding path outer leaf at b = search (arith, rooted_now, step_now)

pub whole_none : (d : ℕ) (coding : Coding) (path : List PathSegment) (T : Ty) (at : ℕ) → IsFit d T →
    reading coding path T at [] ≡ Short [] at (start_outer T) (start_leaf T)
whole_none d coding path T at fit = search (arith, read_none)

rooted_sound : (T : Ty) (end : ℕ) (left : ℕ → List ℕ) (r : Read) → IsSoundReading T end r →
    LeftEndsAt end left r → IsSoundReading T end (done_if_untyped left r)
rooted_sound T end left (Fault lines at kinds.Untyped S) h leaves = leaves
rooted_sound T end left (Fault lines at kind S) h leaves = h
rooted_sound T end left (Done lines at rest) h leaves = h
rooted_sound T end left (Short lines at outer leaf) h leaves = h

pub whole_keeps : (d : ℕ) (coding : Coding) (path : List PathSegment) (T : Ty) (at : ℕ)
    (s : List ℕ) → IsFit d T → IsSoundReading T (at + length s) (reading coding path T at s)
whole_keeps d coding path T at s fit = search
    (arith, rooted_sound, read_keeps, ends_leave, read_ends)

pub whole_step_keeps : (d : ℕ) (coding : Coding) (path : List PathSegment) (T : Ty)
    (outer : List OpenPart) (leaf : Leaf) (at b : ℕ) → IsFit d T → FitsIn T outer leaf →
    AllHoldOffset at outer → IsSoundReading T (at + 1) (root_step coding path outer leaf at b)
whole_step_keeps d coding path T outer leaf at b fit fits around = search
    (arith, rooted_sound, step_keeps, now_leaves, step_now)

rooted_quiet : (n : ℕ) (left : ℕ → List ℕ) (r : Read) → IsEmptyResult n r →
    IsEmptyResult n (done_if_untyped left r)
rooted_quiet n left (Done lines at rest) h = h
rooted_quiet n left (Short lines at outer leaf) h = h
rooted_quiet n left (Fault lines at kind S) h = absurd h

pub whole_quiet : (coding : Coding) (path : List PathSegment) (T : Ty) (n : ℕ) →
    IsEmptyResult n (reading coding path T n [])
whole_quiet coding path T n = search (arith, rooted_quiet, read_quiet)
