-- If a line ends a string, as the line of an operation does, no other string has begun.
use Rattle.std.proofs.Common.{◌≡◌, ℕ, zero, suc, ◌+◌, ◌-◌, ◌⊎◌, inl, inr, false, List, [], ◌∷◌, ◌++◌, refl, sym, subst, ◌∙◌, arith, lit<}
use Rattle.std.specs.List.{AllByRecursion as Each}
use Rattle.giop_sig.specs.Types.{Encapsulation, Ty, Single, Struct, Union, Array, part_of, Led, TypeInference, InferredType, Untold, Sequel, Then}
use Rattle.giop_decode.specs.declared.progress.ValueFault.TheVariants as kinds
use Rattle.giop_decode.specs.ReadResult.{Coding, PathSegment, Name, Index, Held, OpenPart, Part, Member, Inside, Leaf, Read, Done, Short, Fault, read_then, within, Telling}
use Rattle.giop_decode.specs.Pieces.{content, full_pieces}
use Rattle.giop_decode.specs.Reading.{read, parts_from, enclosed, encapsulation_rest, read_sequel, led, led_segment, none_left, done_if_untyped}
use Rattle.giop_decode.specs.ReadingSteps.{IsEmptyResult, IsOctetResult, part_at, segment_of, step, after_told}
use Rattle.giop_sig.specs.Hearings.{inference_in}
use Rattle.giop_decode.specs.Fits.{FitsIn, IsEncapsulation}
use Rattle.giop_decode.specs.Noted.{ends_in_string}
use Rattle.giop_decode.proofs.ReadingLaws.{read_quiet, cut_inside, front_inside, now_within, block_waits, width_pos, number_none, part_quiet, step_now}
use Rattle.giop_message.proofs.StepLines.{EndsNoText, EndsNoTextOrGoesOn, leaf_says}

-- ---- if there are no octets, no string begins

mute_within : (place : OpenPart) (r : Read) → ends_in_string (within place r) ≡ ends_in_string r
mute_within place (Done lines at rest) = refl
mute_within place r = refl

mute_followed : (n : ℕ) (r : Read) (next : ℕ → List ℕ → Read) → IsEmptyResult n r →
    ends_in_string r ≡ false →
    ends_in_string (next n []) ≡ false → ends_in_string (read_then r next) ≡ false
mute_followed n (Done lines at rest) next quiet h k = search (arith, front_inside)
mute_followed n r next quiet h k = h

mute_parts : (n : ℕ) (part : ℕ → ℕ → List ℕ → Read) → ((i : ℕ) → IsEmptyResult n (part i n [])) →
    ((i : ℕ) → ends_in_string (part i n []) ≡ false) → (more i : ℕ) →
    ends_in_string (parts_from part more i n []) ≡ false
mute_parts n part quiet h zero i = refl
mute_parts n part quiet h (suc more) i = search (
  arith,
  mute_followed,
  mute_parts n part quiet h
      more (suc i),
)

mute_led : (n : ℕ) (T : Ty) (g : TypeInference) (part : ℕ → ℕ → List ℕ → Read) (r : Read) →
    IsEmptyResult n r → ends_in_string r ≡ false → ends_in_string (led T g Untold part r) ≡ false
mute_led n T g part (Done lines at rest) quiet h = rw quiet.0 refl
mute_led n T g part (Short lines at outer leaf) quiet h = h
mute_led n T g part (Fault lines at why S) quiet h = absurd quiet

pub read_mute : (coding : Coding) (path : List PathSegment) (T : Ty) (n : ℕ) →
    ends_in_string (read coding path T n []) ≡ false
read_mute coding path (Single scalar) n = search (arith, number_none, width_pos)
read_mute coding path (Struct count names parts) n =
    mute_parts n (part_at coding path (Struct count names parts) count)
    (part_quiet coding path (Struct count names parts) count n)
    (λ i. mute_within (Part (Struct count names parts) i count)
    (read coding (path ++ Name (names i) ∷ []) (parts i) n [])
    ∙ read_mute coding (path ++ Name (names i) ∷ []) (parts i) n) count 0
read_mute coding path (Array count T) n =
    mute_parts n (part_at coding path (Array count T) count)
    (part_quiet coding path (Array count T) count n)
    (λ i. mute_within (Part (Array count T) i count) (read coding (path ++ Index i ∷ []) T n [])
    ∙ read_mute coding (path ++ Index i ∷ []) T n) count 0
read_mute coding path (Union choice scalar select names cases) n = search (
  arith,
  number_none,
  width_pos,
)
read_mute coding path (Led g F parts) n = search (
  arith,
  mute_led,
  read_quiet,
  read_mute coding (path ++ led_segment 0 ∷ []) F n,
)
read_mute coding path _ n = search (arith, number_none, lit<)

part_mute : (coding : Coding) (path : List PathSegment) (T : Ty) (count n i : ℕ) →
    ends_in_string (part_at coding path T count i n []) ≡ false
part_mute coding path T count n i = search (arith, mute_within, read_mute)

-- ---- no line ends a string, or no string has begun

abbrev pub EndsNoString : (reading : Read) → Type 0
EndsNoString r = EndsNoText r ⊎ (ends_in_string r ≡ false)

closed_firm : (r : Read) → EndsNoTextOrGoesOn r → EndsNoString r
closed_firm r (inl h) = inl h
closed_firm r (inr h) = inr h.0

-- ---- the parts around the innermost one

closed_within : (place : OpenPart) (r : Read) → EndsNoString r → EndsNoString (within place r)
closed_within place (Done lines at rest) h = h
closed_within place r h = h

closed_followed : (n : ℕ) (r : Read) (next : ℕ → List ℕ → Read) → IsOctetResult n r →
    ends_in_string (next n []) ≡ false → EndsNoString r → EndsNoString (read_then r next)
closed_followed n (Done lines at rest) next now mute h = search (arith, front_inside)
closed_followed n r next now mute h = h

-- an encapsulation that has begun is one by its type
abbrev pub IsEncapsulationIfInside : (place : OpenPart) → Type 0
IsEncapsulationIfInside (Inside T inner end) = IsEncapsulation T
IsEncapsulationIfInside place = Unit {0}

abbrev pub AreEncapsulationsIfInside : (outer : List OpenPart) → Type 0
AreEncapsulationsIfInside outer = Each IsEncapsulationIfInside outer

pub fits_hold : (outer : List OpenPart) (T : Ty) (leaf : Leaf) → FitsIn T outer leaf →
    AreEncapsulationsIfInside outer
fits_hold [] T leaf fits = tt
fits_hold (Part U i count ∷ outer) T leaf fits = (tt, fits_hold outer (part_of T i) leaf fits.1)
fits_hold (Member U i ∷ outer) T leaf fits = (tt, fits_hold outer (part_of T i) leaf fits.1)
fits_hold (Telling U told ∷ outer) T leaf fits = (tt, fits_hold outer (part_of T 0) leaf fits.1)
fits_hold (Inside U inner end ∷ outer) T leaf fits =
    (subst IsEncapsulation (sym fits.0.same) fits.0.kind, fits_hold outer (part_of T 0) leaf fits.1)

-- what is left of an encapsulation begins no string
rest_mute : (path : List PathSegment) (T : Ty) (k n : ℕ) → IsEncapsulation T →
    ends_in_string (encapsulation_rest path T k n []) ≡ false
rest_mute path (Encapsulation T) zero n is = refl
rest_mute path (Encapsulation T) (suc k) n is = go (full_pieces (suc k))
  where
    go : (full : ℕ) → ends_in_string (content (Encapsulation T) path (suc k) full 0 n []) ≡ false
    go zero = search (arith, block_waits)
    go (suc full) = search (arith, block_waits, lit<)
rest_mute path T k n is = absurd is

closed_enclosed : (n : ℕ) (path : List PathSegment) (T : Ty) (inner : Coding) (end : ℕ) (r : Read) →
    IsEncapsulation T → IsOctetResult n r → EndsNoString r →
    EndsNoString (enclosed path T inner end none_left r [])
closed_enclosed n path T inner end (Done lines at rest) is now h = search (
  arith,
  front_inside,
  rest_mute,
)
closed_enclosed n path T inner end (Short lines at outer leaf) is now h = search (arith, cut_inside)
closed_enclosed n path T inner end (Fault lines at kinds.Untyped S) is now h = search (
  arith,
  front_inside,
  rest_mute,
)
closed_enclosed n path T inner end (Fault lines at why S) is now h = h

following_mute : (n : ℕ) (T : Ty) (what : Sequel) (part : ℕ → ℕ → List ℕ → Read) →
    ((i : ℕ) → ends_in_string (part i n []) ≡ false) →
    ends_in_string (read_sequel T what part n []) ≡ false
following_mute n T (Then i) part each = each i
following_mute n T what part each = refl

closed_led : (n : ℕ) (T : Ty) (g : TypeInference) (told : InferredType)
    (part : ℕ → ℕ → List ℕ → Read)
    (r : Read) →
    ((i : ℕ) → ends_in_string (part i n []) ≡ false) → IsOctetResult n r → EndsNoString r →
    EndsNoString (led T g told part r)
closed_led n T g told part (Done lines at rest) each now h = search (
  arith,
  front_inside,
  following_mute,
)
closed_led n T g told part (Short lines at outer leaf) each now h = search (arith)
closed_led n T g told part (Fault lines at why S) each now h = h

-- If a line ends a string, no other string has begun.
pub step_closed : (coding : Coding) (path : List PathSegment) (outer : List OpenPart) (leaf : Leaf)
    (at b : ℕ) → AreEncapsulationsIfInside outer → EndsNoString (step coding path outer leaf at b)
step_closed coding path [] leaf at b hold = search (arith, closed_firm, leaf_says)
step_closed coding path (Inside T inner end ∷ outer) leaf at b hold =
    let r = step inner (path ++ Held ∷ []) outer leaf at b in
    closed_enclosed (at + 1) path T inner end r hold.0
    (step_now inner (path ++ Held ∷ []) outer leaf at b)
    (step_closed inner (path ++ Held ∷ []) outer leaf at b hold.1)
step_closed coding path (Telling T told ∷ outer) leaf at b hold =
    let inner = step coding (path ++ segment_of T 0 ∷ []) outer leaf at b in
    closed_led (at + 1) T (inference_in T) told (after_told coding path T) inner
    (λ i. mute_within (Member T (suc i)) _
    ∙ read_mute coding (path ++ segment_of T (suc i) ∷ []) (part_of T (suc i)) (at + 1))
    (step_now coding (path ++ segment_of T 0 ∷ []) outer leaf at b)
    (step_closed coding (path ++ segment_of T 0 ∷ []) outer leaf at b hold.1)
step_closed coding path (Part T i count ∷ outer) leaf at b hold =
    let inner = step coding (path ++ segment_of T i ∷ []) outer leaf at b in
    closed_followed (at + 1) (within (Part T i count) inner)
    (parts_from (part_at coding path T count) (count - suc i) (suc i))
    (now_within (at + 1) (Part T i count) inner
    (step_now coding (path ++ segment_of T i ∷ []) outer leaf at b))
    (mute_parts (at + 1) (part_at coding path T count) (part_quiet coding path T count (at + 1))
    (part_mute coding path T count (at + 1)) (count - suc i)
    (suc i))
    (closed_within (Part T i count) inner (step_closed coding (path ++ segment_of T i ∷ []) outer
    leaf at b hold.1))
step_closed coding path (Member T i ∷ outer) leaf at b hold =
    closed_within (Member T i) (step coding (path ++ segment_of T i ∷ []) outer leaf at b)
    (step_closed coding (path ++ segment_of T i ∷ []) outer leaf at b hold.1)

pub closed_root : (r : Read) → EndsNoString r → EndsNoString (done_if_untyped none_left r)
closed_root (Fault lines at kinds.Untyped S) (inl h) = inl h
closed_root (Fault lines at kinds.Untyped S) (inr h) = inr refl
closed_root (Fault lines at why S) h = h
closed_root (Done lines at rest) h = h
closed_root (Short lines at outer leaf) h = h
