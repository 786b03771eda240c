-- An octet's step in the parts around the innermost part: before the first octet, and when a part
-- ends.
use Rattle.std.proofs.Common.{◌≡◌, ℕ, zero, suc, ◌-◌, ◌<◌, ◌≤◌, List, [], ◌∷◌, ◌++◌, refl, ap, arith, add-zero, lt-ltb}
use Rattle.giop_decode.specs.Begins.{start_leaf, start_outer}
use Rattle.giop_decode.specs.Fits.{HasParts, AllHoldOffset}
use Rattle.giop_decode.specs.Pieces.{Partial, block}
use Rattle.giop_decode.specs.Reading.{enclosed, led_segment, none_left, parts_from, read}
use Rattle.giop_decode.specs.ReadResult.{Coding, Done, Fault, Index, Leaf, ValueAt, Member, Name, Part, OpenPart, Read, PathSegment, Short, with_front, within, Held, Inside, Telling}
use Rattle.giop_decode.specs.ReadingSteps.{inner_path, resume_outer, part_at, path_in, resume_part, segment_in, segment_of, coding_at, coding_in, after_told, parts_after_lines, BreaksRule}
use Rattle.giop_sig.specs.Hearings.{inference_in}
use Rattle.giop_decode.specs.declared.progress.ValueFault.{ValueFault}
use Rattle.giop_decode.specs.declared.progress.ValueFault.TheVariants as kinds
use Rattle.giop_sig.specs.Fits.{IsFit}
use Rattle.giop_sig.specs.Types.{Array, Sequence, Single, Struct, Ty, Union, part_of, Led, Recursive}
use Rattle.giop_decode.proofs.Law.{with_front-followed, with_front-led, with_front-within, block_waits, number_none}
use Rattle.giop_decode.proofs.Enclosing.{with_front-enclosed}

pub around-append : (coding : Coding) (path : List PathSegment) (outer : List OpenPart)
    (place : OpenPart)
    (r : Read) → resume_outer coding path (outer ++ place ∷ []) r
    ≡ resume_outer coding path outer (resume_part (coding_in coding outer) (path_in path outer)
    place r)
around-append coding path [] place r = refl
around-append coding path (p ∷ outer) place r =
    ap (resume_part coding path p) (around-append (coding_at coding p) (path ++ segment_in p ∷ [])
    outer place r)

pub path_in-append : (path : List PathSegment) (outer : List OpenPart) (place : OpenPart) →
    path_in path (outer ++ place ∷ []) ≡ path_in path outer ++ segment_in place ∷ []
path_in-append path [] place = refl
path_in-append path (p ∷ outer) place = path_in-append (path ++ segment_in p ∷ []) outer place

pub around-short : (coding : Coding) (path : List PathSegment) (outer : List OpenPart)
    (lines : List ValueAt)
    (at : ℕ) (inner : List OpenPart) (leaf : Leaf) → AllHoldOffset at outer →
    resume_outer coding path outer (Short lines at inner leaf)
    ≡ Short lines at (parts_after_lines lines outer ++ inner) leaf
around-short coding path [] lines at inner leaf h = refl
around-short coding path (Part T i count ∷ outer) lines at inner leaf h =
    rw (around-short coding (path ++ segment_of T i ∷ []) outer lines at inner leaf h.1) refl
around-short coding path (Member T i ∷ outer) lines at inner leaf h =
    rw (around-short coding (path ++ segment_of T i ∷ []) outer lines at inner leaf h.1) refl
around-short coding path (Inside T c end ∷ outer) lines at inner leaf h = search (
  arith,
  lt-ltb,
  around-short c (path ++ Held ∷ []) outer lines at inner leaf h.1,
)
around-short coding path (Telling T told ∷ outer) lines at inner leaf h =
    rw (around-short coding (path ++ segment_of T 0 ∷ []) outer lines at inner leaf h.1) refl

-- if there are no lines, the open parts hear nothing and stay the same
pub heard_none : (outer : List OpenPart) → parts_after_lines [] outer ≡ outer
heard_none [] = refl
heard_none (Telling T told ∷ outer) = ap (λ ps. Telling T told ∷ ps) (heard_none outer)
heard_none (place ∷ outer) = ap (λ ps. place ∷ ps) (heard_none outer)

enclosed_fault : (path : List PathSegment) (T : Ty) (inner : Coding) (end : ℕ) (lines : List
    ValueAt)
    (at : ℕ) (kind : ValueFault) (S : Ty) → BreaksRule kind →
    enclosed path T inner end none_left (Fault lines at kind S) [] ≡ Fault lines at kind S
enclosed_fault path T inner end lines at kinds.Untyped S rule = absurd rule
enclosed_fault path T inner end lines at kind S rule = refl

pub around-fault : (coding : Coding) (path : List PathSegment) (outer : List OpenPart)
    (lines : List ValueAt)
    (at : ℕ) (kind : ValueFault) (S : Ty) → BreaksRule kind →
    resume_outer coding path outer (Fault lines at kind S) ≡ Fault lines at kind S
around-fault coding path [] lines at kind S rule = refl
around-fault coding path (Part T i count ∷ outer) lines at kind S rule =
    rw (around-fault coding (path ++ segment_of T i ∷ []) outer lines at kind S rule) refl
around-fault coding path (Member T i ∷ outer) lines at kind S rule =
    rw (around-fault coding (path ++ segment_of T i ∷ []) outer lines at kind S rule) refl
around-fault coding path (Inside T c end ∷ outer) lines at kind S rule =
    rw (around-fault c (path ++ Held ∷ []) outer lines at kind S rule)
    (enclosed_fault path T c end lines at kind S rule)
around-fault coding path (Telling T told ∷ outer) lines at kind S rule =
    rw (around-fault coding (path ++ segment_of T 0 ∷ []) outer lines at kind S rule) refl

pub around-front : (coding : Coding) (path : List PathSegment) (outer : List OpenPart)
    (front : List ValueAt)
    (r : Read) → resume_outer coding path outer (with_front front r)
    ≡ with_front front (resume_outer coding path (parts_after_lines front outer) r)
around-front coding path [] front r = refl
around-front coding path (Part T i count ∷ outer) front r =
    let inner = resume_outer coding (path ++ segment_of T i ∷ []) (parts_after_lines front outer) r
    in
    let next = parts_from (part_at coding path T count) (count - suc i) (suc i) in
    rw (
      around-front coding (path ++ segment_of T i ∷ []) outer front r,
      with_front-within front (Part T i count) inner,
    )
    (with_front-followed front (within (Part T i count) inner) next)
around-front coding path (Member T i ∷ outer) front r =
    rw (around-front coding (path ++ segment_of T i ∷ []) outer front r)
    (with_front-within front (Member T i) (resume_outer coding (path ++ segment_of T i ∷ [])
    (parts_after_lines front outer) r))
around-front coding path (Inside T c end ∷ outer) front r =
    rw (around-front c (path ++ Held ∷ []) outer front r)
    (with_front-enclosed front path T c end none_left
    (resume_outer c (path ++ Held ∷ []) (parts_after_lines front outer) r) [])
around-front coding path (Telling T told ∷ outer) front r =
    rw (around-front coding (path ++ segment_of T 0 ∷ []) outer front r)
    (with_front-led front T (inference_in T) told (after_told coding path T)
    (resume_outer coding (path ++ segment_of T 0 ∷ []) (parts_after_lines front outer) r))

-- What readings are before their first octet.
pub block_none : (n at : ℕ) → 0 < n → block n at [] ≡ Partial [] at
block_none n at pos = search (arith, block_waits, add-zero)

-- several parts, before the first octet, are at the first of them
pub first_part : (coding : Coding) (path : List PathSegment) (T : Ty) (count more i : ℕ) (at : ℕ) →
    (read coding (inner_path path T i) (part_of T i) at []
    ≡ Short [] at (start_outer (part_of T i)) (start_leaf (part_of T i))) →
    parts_from (part_at coding path T count) (suc more) i at []
    ≡ Short [] at (Part T i count ∷ start_outer (part_of T i)) (start_leaf (part_of T i))
first_part coding path T count more i at e = rw e refl

pub read_none : (coding : Coding) (path : List PathSegment) (d : ℕ) (T : Ty) (at : ℕ) → IsFit d T →
    read coding path T at [] ≡ Short [] at (start_outer T) (start_leaf T)
unfolding IsFit
read_none coding path zero T at h = absurd h
read_none coding path (suc d) (Single scalar) at h = search (arith, number_none)
read_none coding path (suc d) (Union choice scalar select names cases) at h =
    search (arith, number_none)
read_none coding path (suc d) (Struct zero names parts) at h = absurd (omega (arith, h.0))
read_none coding path (suc d) (Struct (suc more) names parts) at h = search (
  arith,
  first_part,
  read_none coding (path ++ Name (names 0) ∷ []) d (parts 0) at (h.1 0 h.0),
)
read_none coding path (suc d) (Array zero T) at h = absurd (omega (arith, h.0))
read_none coding path (suc d) (Array (suc more) T) at h = search (
  arith,
  first_part,
  read_none
      coding (path ++ Index 0 ∷ []) d T at h.1,
)
read_none coding path (suc d) (Led k F parts) at h = search (
  arith,
  read_none coding (path ++ led_segment 0 ∷ []) d F at h.0,
)
read_none coding path (suc d) T at h = search (arith, number_none)

-- When a part ends, its whole goes on with the next part, or ends too.
pub fit_part : (d : ℕ) (T : Ty) (i count : ℕ) → IsFit (suc d) T → HasParts T count → i < count →
    IsFit d (part_of T i)
unfolding IsFit
fit_part d (Struct n names parts) i count fit kind below = fit.1 i (rw kind at below)
fit_part d (Array n T) i count fit kind below = fit.1
fit_part d (Sequence bound T) i count fit kind below = fit
fit_part d (Recursive bound fits T) i count fit kind below = fit kind
fit_part d T i count fit kind below = absurd kind

pub next_part : (coding : Coding) (path : List PathSegment) (d : ℕ) (T : Ty) (i count at : ℕ) →
    IsFit (suc d) T → HasParts T count → suc i < count →
    resume_part coding path (Part T i count) (Done [] at [])
    ≡ Short [] at (Part T (suc i) count ∷ start_outer (part_of T (suc i)))
    (start_leaf (part_of T (suc i)))
next_part coding path d T i count at fit kind below = go (count - suc i) refl
  where
    go : (more : ℕ) → count - suc i ≡ more →
        with_front [] (parts_from (part_at coding path T count) more (suc i) at [])
        ≡ Short [] at (Part T (suc i) count ∷ start_outer (part_of T (suc i)))
        (start_leaf (part_of T (suc i)))
    go zero e = absurd (omega arith)
    go (suc more) e =
        ap (with_front []) (first_part coding path T count more (suc i) at
        (read_none coding (inner_path path T (suc i)) d (part_of T (suc i))
        at (fit_part d T (suc i) count fit kind below)))

pub last_part : (coding : Coding) (path : List PathSegment) (T : Ty) (i count at : ℕ) →
    count ≤ suc i →
    resume_part coding path (Part T i count) (Done [] at []) ≡ Done [] at []
last_part coding path T i count at h = search (arith)

-- no type fits into depth 0
pub fit_none : (T : Ty) → IsFit zero T → ⊥
unfolding IsFit
fit_none T fit = fit

pub fit_room : (d : ℕ) (T : Ty) → IsFit d T → 0 < d
unfolding IsFit
fit_room zero T fit = absurd fit
fit_room (suc d) T fit = omega arith
