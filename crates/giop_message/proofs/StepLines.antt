-- The lines of a step: they have the path of the innermost part, and when one of them ends a
-- string.
use Rattle.std.proofs.Common.{arith, ◌≡◌, ℕ, zero, suc, ◌+◌, ◌-◌, ◌⊎◌, inl, Bool, true, false, List, [], ◌∷◌, ◌++◌, take, get_or, Option, Some, None, refl, ◌∙◌, append-nil}
use Rattle.std.specs.List.{AllByRecursion as Each}
use Rattle.giop_cdr.specs.Numbers.{num}
use Rattle.giop_sig.specs.Types.{Encapsulation, Recursive, Ty, Single, Text, Octets, Struct, Union, Sequence, Array, Led, TypeInference, InferredType, Sequel, Then, Ends, Stops, part_of}
use Rattle.giop_decode.specs.declared.progress.ValueFault.{ValueFault}
use Rattle.giop_decode.specs.declared.progress.ValueFault.TheVariants as kinds
use Rattle.giop_decode.specs.ReadResult
use Rattle.giop_decode.specs.ReadResult.{Coding, PathSegment, Switch, Held, ValueAt, Piece, line, OpenPart, Part, Member, Inside, Leaf, LeadingNumber, Opening, Content, Read, Done, Short, Fault, lines_of, with_front, read_then, within, Telling}
use Rattle.giop_decode.specs.Pieces.{Block, Partial, Complete, fault_or, content, full_piece, last_piece}
use Rattle.giop_decode.specs.Reading.{after_leading_number, parts_from, enclosed, from_order_octet, read_sequel, led, none_left}
use Rattle.giop_decode.specs.ReadingSteps.{coding_in, encapsulated_value, AreFaultLines, AtMostOneAt, IsEmptyResult, IsOctetResult, after_number, leaf_step, part_at, path_in, segment_of, step, after_told}
use Rattle.giop_sig.specs.Hearings.{inference_in}
use Rattle.giop_decode.specs.Noted.{ends_text, ends_in_string}
use Rattle.giop_decode.proofs.ReadingLaws.{quiet_within, read_quiet, now_within, rest_quiet, parts_quiet, step_now, lines_front}

-- a line of the part with this path
pub record IsLineAtPath (path : List PathSegment) (l : ValueAt) : Type 0 where
  pub stands : (l.path ≡ path) ⊎ ((tag : Option (List ℕ)) × (l.path ≡ path ++ Switch tag ∷ []))

abbrev pub AreLinesAtPath : (path : List PathSegment) (reading : Read) → Type 0
AreLinesAtPath path r = Each (IsLineAtPath path) (lines_of r)

-- no line ends a string
abbrev pub EndsNoText : (reading : Read) → Type 0
EndsNoText r = Each (λ l. ends_text l.value ≡ false) (lines_of r)

-- whether a reading is faulted
abbrev pub is_faulted : (reading : Read) → Bool
is_faulted (Fault lines at why T) = true
is_faulted r = false

-- no line ends a string; or no string has begun, and there is no fault
abbrev pub EndsNoTextOrGoesOn : (reading : Read) → Type 0
EndsNoTextOrGoesOn r = EndsNoText r ⊎ ((ends_in_string r ≡ false) × (is_faulted r ≡ false))

-- there is at most one line before a fault
pub one_faulted : (n : ℕ) (why : ValueFault) (lines : List ValueAt) → AreFaultLines n why lines →
    AtMostOneAt n lines
one_faulted n kinds.EncapShort lines h = h
one_faulted n kinds.Untyped lines h = h
one_faulted n why lines h = rw h tt

pub one_of : (n : ℕ) (st : Read) → IsOctetResult n st → AtMostOneAt n (lines_of st)
one_of n (Fault lines at why T) now = one_faulted n why lines now.0
one_of n _ now = now.0

-- ---- the innermost part

pub record AreLinesOfStep (path : List PathSegment) (reading : Read) : Type 0 where
  pub are : AreLinesAtPath path reading
  pub firm : EndsNoTextOrGoesOn reading

more_no_end : (T : Ty) (offset : ℕ) (xs : List ℕ) → ends_text (Piece T offset xs true) ≡ false
more_no_end (Text bound) offset xs = refl
more_no_end T offset xs = refl

at_path : (path : List PathSegment) (at : ℕ) (v : ReadResult.Value) →
    IsLineAtPath path (line at path v)
at_path path at v = record { stands = inl refl }

-- A reading at one octet has at most one line.
module _ (n : ℕ) (path : List PathSegment) where
  abbrev OneSays : (reading : Read) → Type 0
  OneSays r = AtMostOneAt n (lines_of r) → AreLinesOfStep path r

  bare : (r : Read) → lines_of r ≡ [] → OneSays r
  bare r e one = search (arith)

  done_says : (v : ReadResult.Value) (at : ℕ) (rest : List ℕ) →
      OneSays (Done (line at path v ∷ []) at rest)
  done_says v at rest one = search (arith, at_path)

  -- a line that ends no string, and what comes after it
  front_says : (l : ValueAt) (r : Read) → IsLineAtPath path l → ends_text l.value ≡ false →
      OneSays (with_front (l ∷ []) r)
  front_says l r of no_end one = search (arith, lines_front)

  unless_says : (T : Ty) (why : Option ValueFault) (at : ℕ) (r : Read) → OneSays r →
      OneSays (fault_or T why at r)
  unless_says T None at r h = h
  unless_says T (Some kind) at r h = search (arith, bare)

  last_says : (T : Ty) (total offset : ℕ) (g : Block) → OneSays (last_piece T path total offset g)
  last_says T total offset (Partial piece at) = bare _ refl
  last_says T total offset (Complete xs at rest) = search (arith, take, unless_says, done_says)

  full_says : (T : Ty) (total offset : ℕ) (next : ℕ → List ℕ → Read) (g : Block) →
      OneSays (full_piece T path total offset next g)
  full_says T total offset next (Partial piece at) = bare _ refl
  full_says T total offset next (Complete xs at rest) = search (
    arith,
    front_says,
    at_path,
    more_no_end,
  )

  content_says : (T : Ty) (total full offset at : ℕ) (s : List ℕ) →
      OneSays (content T path total full offset at s)
  content_says T total zero offset at s = search (arith, last_says)
  content_says T total (suc full) offset at s = search (arith, full_says)

  -- what follows a number
  after_says : (coding : Coding) (T : Ty) (k at : ℕ) (s : List ℕ) →
      OneSays (after_number coding path T k at s)
  after_says coding (Single scalar) k at s = search (arith, unless_says, done_says)
  after_says coding (Text bound) zero at s = search (arith, done_says)
  after_says coding (Text bound) (suc k) at s = search (arith, unless_says, content_says)
  after_says coding (Octets bound) k at s = search (arith, unless_says, content_says)
  after_says coding (Struct count names parts) k at s = bare _ refl
  after_says coding (Array count T) k at s = bare _ refl
  after_says coding (Led g F parts) k at s = bare _ refl
  after_says coding (Sequence bound T) k at s = search (arith, unless_says, front_says, at_path)
  after_says coding (Recursive bound fits T) k at s = search (
    arith,
    unless_says,
    front_says,
    at_path,
  )
  after_says coding (Union choice scalar select names cases) k at s = search (
    arith,
    front_says,
    unless_says,
  )
  after_says coding (Encapsulation T) k at s = search (arith, front_says, at_path)

  headed_says : (coding : Coding) (T : Ty) (g : Block) →
      OneSays (after_leading_number T (λ xs at rest.
      after_number coding path T (num coding.order xs) at rest) g)
  headed_says coding T (Partial carry at) = bare _ refl
  headed_says coding T (Complete xs at rest) = search (arith, after_says)

  -- the octet that holds a byte order
  opening_says : (T : Ty) (origin k : ℕ) (g : Block) →
      OneSays (from_order_octet path T (encapsulated_value path T) origin k g)
  opening_says T origin k (Partial none at) = bare _ refl
  opening_says T origin k (Complete xs at rest) = search (arith, get_or, bare, front_says, at_path)

  leaf_one : (coding : Coding) (leaf : Leaf) (at b : ℕ) → OneSays (leaf_step coding path leaf at b)
  leaf_one coding (LeadingNumber T carry) at b = search (arith, headed_says)
  leaf_one coding (Opening T k) at b = search (arith, opening_says)
  leaf_one coding (Content T total offset piece) at b = search (arith, full_says, last_says)

pub leaf_says : (coding : Coding) (path : List PathSegment) (leaf : Leaf) (at b : ℕ) →
    AreLinesOfStep path (leaf_step coding path leaf at b)
leaf_says coding path leaf at b =
    leaf_one (at + 1) path coding leaf at b
    (one_of (at + 1) (leaf_step coding path leaf at b) (step_now coding path [] leaf at b))

-- ---- the parts around it have no line

quiet_bare : (n : ℕ) (r : Read) → IsEmptyResult n r → lines_of r ≡ []
quiet_bare n (Fault lines at why S) k = absurd k
quiet_bare n _ k = k.0

-- the lines before a reading that has none are all lines
lines_alone : (n : ℕ) (lines : List ValueAt) (r : Read) → IsEmptyResult n r →
    lines_of (with_front lines r) ≡ lines
lines_alone n lines r k = search (arith, lines_front, quiet_bare, append-nil)

lines_followed : (n : ℕ) (r : Read) (next : ℕ → List ℕ → Read) → IsOctetResult n r →
    IsEmptyResult n (next n []) →
    lines_of (read_then r next) ≡ lines_of r
lines_followed n (Done lines at rest) next h k = search (arith, lines_alone)
lines_followed n r next h k = refl

lines_within : (place : OpenPart) (r : Read) → lines_of (within place r) ≡ lines_of r
lines_within place (Done lines at rest) = refl
lines_within place r = refl

lines_enclosed : (n : ℕ) (path : List PathSegment) (T : Ty) (inner : Coding) (end : ℕ) (r : Read) →
    IsOctetResult n r → lines_of (enclosed path T inner end none_left r []) ≡ lines_of r
lines_enclosed n path T inner end (Done lines at rest) h = search (arith, lines_alone, rest_quiet)
lines_enclosed n path T inner end (Short lines at outer leaf) h = search (arith)
lines_enclosed n path T inner end (Fault lines at kinds.Untyped S) h = search
    (arith, lines_alone, rest_quiet)
lines_enclosed n path T inner end (Fault lines at why S) h = refl

-- if a part tells what follows it, what follows has no line yet
lines_following : (n : ℕ) (T : Ty) (what : Sequel) (part : ℕ → ℕ → List ℕ → Read)
    (lines : List ValueAt) → ((i : ℕ) → IsEmptyResult n (part i n [])) →
    lines_of (with_front lines (read_sequel T what part n [])) ≡ lines
lines_following n T (Then i) part lines each = lines_alone n lines (part i n []) (each i)
lines_following n T Ends part lines each = append-nil lines
lines_following n T Stops part lines each = append-nil lines

lines_led : (n : ℕ) (T : Ty) (g : TypeInference) (told : InferredType)
    (part : ℕ → ℕ → List ℕ → Read) (r : Read) →
    ((i : ℕ) → IsEmptyResult n (part i n [])) → IsOctetResult n r →
    lines_of (led T g told part r) ≡ lines_of r
lines_led n T g told part (Done lines at rest) each h = search (arith, lines_following)
lines_led n T g told part (Short lines at outer leaf) each h = refl
lines_led n T g told part (Fault lines at why S) each h = refl

lines_step : (coding : Coding) (path : List PathSegment) (outer : List OpenPart) (leaf : Leaf)
    (at b : ℕ) →
    lines_of (step coding path outer leaf at b)
    ≡ lines_of (leaf_step (coding_in coding outer) (path_in path outer) leaf at b)
lines_step coding path [] leaf at b = refl
lines_step coding path (Part T i count ∷ outer) leaf at b =
    let inner = step coding (path ++ segment_of T i ∷ []) outer leaf at b in
    lines_followed (at + 1) (within (Part T i count) inner)
    (parts_from (part_at coding path T count) (count - suc i) (suc i))
    (now_within (at + 1) (Part T i count) inner
    (step_now coding (path ++ segment_of T i ∷ []) outer leaf at b))
    (parts_quiet coding path T count (at + 1) (count - suc i) (suc i))
    ∙ (lines_within (Part T i count) inner
    ∙ lines_step coding (path ++ segment_of T i ∷ []) outer leaf at b)
lines_step coding path (Member T i ∷ outer) leaf at b =
    lines_within (Member T i) (step coding (path ++ segment_of T i ∷ []) outer leaf at b)
    ∙ lines_step coding (path ++ segment_of T i ∷ []) outer leaf at b
lines_step coding path (Telling T told ∷ outer) leaf at b =
    let inner = step coding (path ++ segment_of T 0 ∷ []) outer leaf at b in
    lines_led (at + 1) T (inference_in T) told (after_told coding path T) inner
    (λ i. quiet_within (at + 1) (Member T (suc i)) _
    (read_quiet coding (path ++ segment_of T (suc i) ∷ []) (part_of T (suc i)) (at + 1)))
    (step_now coding (path ++ segment_of T 0 ∷ []) outer leaf at b)
    ∙ lines_step coding (path ++ segment_of T 0 ∷ []) outer leaf at b
lines_step coding path (Inside T inner end ∷ outer) leaf at b = search (
  arith,
  lines_enclosed,
  step_now,
  lines_step inner (path ++ Held ∷ []) outer leaf at b,
)

-- The lines of a step are those of its innermost part.
pub step_of : (coding : Coding) (path : List PathSegment) (outer : List OpenPart) (leaf : Leaf)
    (at b : ℕ) →
    AreLinesAtPath (path_in path outer) (step coding path outer leaf at b)
step_of coding path outer leaf at b = search (arith, lines_step, leaf_says)
