-- Reading a list with one more octet is one step on the parts that reading the list has begun.
use Rattle.std.proofs.Common.{◌≡◌, ℕ, zero, suc, ◌+◌, ◌-◌, ◌<◌, ◌≤◌, List, [], ◌∷◌, ◌++◌, length, take, drop, Bool, true, false, Option, Some, None, refl, sym, ◌∙◌, ap, append_assoc, arith, length-append, ◌⊎◌, inl, inr, add_assoc, add-zero, lt-ltb, le-ltb, le_of_eq, lit<}
use Rattle.std.proofs.Math.Seq.{take-length, drop-length}
use Rattle.std.proofs.lemmas.List.{take-append-le, drop-append-le}
use Rattle.std.proofs.lemmas.Bool.{cases_lt}
use Rattle.std.specs.Prelude.{cond, ltb}
use Rattle.giop_cdr.specs.Alignment.{padding}
use Rattle.giop_cdr.specs.Numbers.{num}
use Rattle.giop_cdr.specs.Primitives.{size_of}
use Rattle.giop_cdr.specs.declared.prim.Primitive.{Primitive}
use Rattle.giop_decode.specs.Pieces.{Complete, Block, bound_fault, Partial, block, content, full_piece, full_pieces, last_piece, number, octets, terminator_size, text, fault_or}
use Rattle.giop_decode.specs.Reading.{after_leading_number, selected_case, parts_from, read, read_single, recursive_elements, read_sequel, told_after_sign, led, sign_of, told_after}
use Rattle.giop_decode.specs.ReadResult.{Coding, Done, Fault, ValueAt, Member, Name, Part, OpenPart, Read, PathSegment, Short, read_then, with_front, within, Count, line}
use Rattle.giop_decode.specs.ReadingSteps.{read_after_octet, after_number, block_step, leading_width, inner_path, number_step, part_at, after_told}
use Rattle.giop_sig.specs.Hearings.{inference_in}
use Rattle.giop_decode.specs.declared.progress.ValueFault.{ValueFault}
use Rattle.giop_sig.specs.Types.{Choice, Enum, OctetKind, Plain, Recursive, Scalar, Sequence, Ty, Union, part_of, width, TypeInference, InferredType, Sequel, Then, Marked}
use Rattle.giop_sig.specs.declared.types.Selected.{Selected}
use Rattle.giop_sig.specs.declared.types.Selected.TheVariants.{Case}
use Rattle.giop_cdr.specs.declared.prim.Primitive.TheVariants as prims

-- a reader for which one more octet is one step
abbrev pub StepsByOctet : (coding : Coding) (path : List PathSegment) (reader : ℕ → List ℕ → Read) →
    Type 0
StepsByOctet coding path reader = (at : ℕ) (s : List ℕ) (b : ℕ) →
    reader at (s ++ b ∷ []) ≡ read_after_octet coding path (reader at s) b

-- lines in front of a reading

pub with_front_twice : (front mid : List ValueAt) (r : Read) →
    with_front front (with_front mid r) ≡ with_front (front ++ mid) r
with_front_twice front mid (Done lines at rest) = search (arith, append_assoc)
with_front_twice front mid (Short lines at outer leaf) = search (arith, append_assoc)
with_front_twice front mid (Fault lines at kind S) = search (arith, append_assoc)

pub with_front_none : (r : Read) → with_front [] r ≡ r
with_front_none (Done lines at rest) = refl
with_front_none r = refl

pub with_front-advance : (coding : Coding) (path : List PathSegment) (front : List ValueAt) (r :
    Read)
    (b : ℕ) → with_front front (read_after_octet coding path r b)
    ≡ read_after_octet coding path (with_front front r) b
with_front-advance coding path front (Short lines at outer leaf) b = search (
  arith,
  with_front_twice,
)
with_front-advance coding path front r b = refl

pub with_front-followed : (front : List ValueAt) (r : Read) (next : ℕ → List ℕ → Read) →
    read_then (with_front front r) next ≡ with_front front (read_then r next)
with_front-followed front (Done lines at rest) next = search (arith, with_front_twice)
with_front-followed front r next = refl

pub with_front-within : (front : List ValueAt) (place : OpenPart) (r : Read) →
    within place (with_front front r) ≡ with_front front (within place r)
with_front-within front place (Done lines at rest) = refl
with_front-within front place r = refl

-- a part and what comes after it

module _ (coding : Coding) (path : List PathSegment) (T : Ty) (count : ℕ) where
  abbrev parts : (more i : ℕ) → ℕ → List ℕ → Read
  parts more i = parts_from (part_at coding path T count) more i

  pub part_goes : (i more : ℕ) → more ≡ count - suc i →
      StepsByOctet coding path (parts more (suc i)) →
      (r : Read) (b : ℕ) → read_then (within (Part T i count)
      (read_after_octet coding (inner_path path T i) r b)) (parts more (suc i))
      ≡ read_after_octet coding path (read_then (within (Part T i count) r) (parts more (suc i))) b
  part_goes i more is goes (Done lines at rest) b = search (arith, with_front-advance)
  part_goes i more is goes (Short lines at outer leaf) b = search (
    arith,
    with_front-within,
    with_front-followed,
  )
  part_goes i more is goes (Fault lines at kind S) b = refl

  -- parts that are read one after the other
  pub parts_go : ((i : ℕ) → StepsByOctet coding (inner_path path T i)
      (read coding (inner_path path T i) (part_of T i))) → (more i : ℕ) → more ≡ count - i →
      StepsByOctet coding path (parts more i)
  parts_go each zero i is at s b = refl
  parts_go each (suc more) i is at s b =
      let is_next : more ≡ count - suc i = omega arith in
      ap (λ r. read_then (within (Part T i count) r) (parts more (suc i))) (each i at s b)
      ∙ part_goes i more is_next (parts_go each more (suc i) is_next)
      (read coding (inner_path path T i) (part_of T i) at s) b

-- the member of a union, after which no other part comes
pub member_goes : (coding : Coding) (path : List PathSegment) (T : Ty) (i : ℕ) (r : Read) (b : ℕ) →
    within (Member T i) (read_after_octet coding (inner_path path T i) r b)
    ≡ read_after_octet coding path (within (Member T i) r) b
member_goes coding path T i (Short lines at outer leaf) b = search (arith, with_front-within)
member_goes coding path T i r b = refl

-- blocks of octets

-- a block after one more octet, where `on` takes the octet if the block is incomplete
abbrev pub block_after_octet : (on : ℕ → List ℕ → ℕ → Block) (block : Block) (b : ℕ) → Block
block_after_octet on (Partial held at) b = on at held b
block_after_octet on (Complete octets at rest) b = Complete octets at (rest ++ b ∷ [])

pub block_waits : (n at : ℕ) (s : List ℕ) → length s < n → block n at s ≡ Partial s (at + length s)
unfolding block
block_waits n at s h = rw lt-ltb refl

pub block_got : (n at : ℕ) (s : List ℕ) → n ≤ length s →
    block n at s ≡ Complete (take n s) (at + n) (drop n s)
unfolding block
block_got n at s h = rw le-ltb refl

pub block_step_waits : (n at : ℕ) (held : List ℕ) (b : ℕ) → length held + 1 < n →
    block_step n at held b ≡ Partial (held ++ b ∷ []) (at + 1)
unfolding block_step
block_step_waits n at held b h = rw lt-ltb refl

pub block_step_got : (n at : ℕ) (held : List ℕ) (b : ℕ) → n ≤ length held + 1 →
    block_step n at held b ≡ Complete (held ++ b ∷ []) (at + 1) []
unfolding block_step
block_step_got n at held b h = rw le-ltb refl

pub length_one_more : (s : List ℕ) (b : ℕ) → length (s ++ b ∷ []) ≡ length s + 1
length_one_more s b = length-append s (b ∷ [])

pub block_goes : (n at : ℕ) (s : List ℕ) (b : ℕ) →
    block n at (s ++ b ∷ []) ≡ block_after_octet (block_step n) (block n at s) b
block_goes n at s b = go (cases_lt (length s) n) (cases_lt (length s + 1) n)
  where
    go : (length s < n) ⊎ (n ≤ length s) → (length s + 1 < n) ⊎ (n ≤ length s + 1) →
        block n at (s ++ b ∷ []) ≡ block_after_octet (block_step n) (block n at s) b
    go (inl h) (inl k) = search (arith, length_one_more, block_waits, block_step_waits)
    go (inl h) (inr k) =
        let l : n ≡ length (s ++ b ∷ []) = omega (arith, length_one_more s b) in
        block_got n at (s ++ b ∷ []) (le_of_eq l)
        ∙ (rw (l, take-length, drop-length, length_one_more, ← add_assoc) refl
        ∙ (sym (block_step_got n (at + length s) s b k)
        ∙ ap (λ g. block_after_octet (block_step n) g b) (sym (block_waits n at s h))))
    go (inr h) _ = search (arith, length_one_more, block_got, take-append-le, drop-append-le)

-- a number after its padding

pub number_pads : (phase : ℕ → ℕ) (n at b : ℕ) (s : List ℕ) → 0 < padding (phase at) n →
    number phase n at (b ∷ s) ≡ number phase n (at + 1) s
unfolding number
number_pads phase n at b s h = rw lt-ltb refl

pub number_blocks : (phase : ℕ → ℕ) (n at b : ℕ) (s : List ℕ) → padding (phase at) n ≡ 0 →
    number phase n at (b ∷ s) ≡ block n at (b ∷ s)
unfolding number
number_blocks phase n at b s h = rw h refl

pub number_none : (phase : ℕ → ℕ) (n at : ℕ) → number phase n at [] ≡ Partial [] at
unfolding number
number_none phase n at = refl

pub number_step_pads : (phase : ℕ → ℕ) (n at b : ℕ) → 0 < padding (phase at) n →
    number_step phase n at [] b ≡ Partial [] (at + 1)
unfolding number_step
number_step_pads phase n at b h = rw lt-ltb refl

pub number_step_blocks : (phase : ℕ → ℕ) (n at : ℕ) (carry : List ℕ) (b : ℕ) →
    (0 < length carry) ⊎ (padding (phase at) n ≡ 0) →
    number_step phase n at carry b ≡ block_step n at carry b
unfolding number_step
number_step_blocks phase n at [] b (inl h) = absurd (omega arith)
number_step_blocks phase n at (x ∷ xs) b (inl h) = refl
number_step_blocks phase n at [] b (inr h) = rw h refl
number_step_blocks phase n at (x ∷ xs) b (inr h) = refl

-- the octet at this offset is padding, or there is no padding
pub padding_or : (at n : ℕ) → (0 < padding at n) ⊎ (padding at n ≡ 0)
padding_or at n = search (arith, cases_lt)

-- once some octet of a number has come, one more octet of the number is one more of its block
block_more : (phase : ℕ → ℕ) (n at x b : ℕ) (s : List ℕ) →
    block_after_octet (block_step n) (block n at (x ∷ s)) b
    ≡ block_after_octet (number_step phase n) (block n at (x ∷ s)) b
block_more phase n at x b s = search (
  arith,
  cases_lt,
  block_waits,
  block_got,
  number_step_blocks,
)

block_first : (n at b : ℕ) → 0 < n → block n at (b ∷ []) ≡ block_step n at [] b
block_first n at b pos =
    block_goes n at [] b
    ∙ (ap (λ g. block_after_octet (block_step n) g b) (block_waits n at [] pos)
    ∙ ap (λ k. block_step n k [] b) (add-zero at))

either_goes : (on : ℕ → List ℕ → ℕ → Block) (padded : Bool) (f g f' g' : Block) (b : ℕ) →
    f ≡ block_after_octet on f' b → g ≡ block_after_octet on g' b →
    cond padded f g ≡ block_after_octet on (cond padded f' g') b
either_goes on true f g f' g' b h k = h
either_goes on false f g f' g' b h k = k

pub number_goes : (phase : ℕ → ℕ) (n at : ℕ) (s : List ℕ) (b : ℕ) → 0 < n →
    number phase n at (s ++ b ∷ []) ≡ block_after_octet (number_step phase n) (number phase n at s)
    b
unfolding number number_step
number_goes phase n at [] b pos =
    ap (cond (ltb 0 (padding (phase at) n)) (Partial [] (at + 1))) (block_first n at b pos)
number_goes phase n at (x ∷ s) b pos =
    either_goes (number_step phase n) (ltb 0 (padding (phase at) n)) _ _
    (number phase n (at + 1) s) (block n at (x ∷ s)) b
    (number_goes phase n (at + 1) s b pos)
    (block_goes n at (x ∷ s) b ∙ block_more phase n at x b s)

-- contents

module _ (coding : Coding) (path : List PathSegment) where
  pub unless_goes : (T : Ty) (why : Option ValueFault) (at : ℕ) (r : Read) (b : ℕ) →
      fault_or T why at (read_after_octet coding path r b)
      ≡ read_after_octet coding path (fault_or T why at r) b
  unless_goes T None at r b = refl
  unless_goes T (Some kind) at r b = refl

  last_piece_goes : (T : Ty) (total offset : ℕ) → total - offset ≤ 32 → (g : Block) (b : ℕ) →
      last_piece T path total offset (block_after_octet
      (block_step (total - offset + terminator_size T)) g b)
      ≡ read_after_octet coding path (last_piece T path total offset g) b
  last_piece_goes T total offset h (Partial piece at) b = search (arith, le-ltb, with_front_none)
  last_piece_goes T total offset h (Complete xs at rest) b = search (arith, unless_goes, take)

  full_piece_goes : (T : Ty) (total offset full : ℕ) → suc full ≡ full_pieces (total - offset) →
      StepsByOctet coding path (content T path total full (offset + 32)) → (g : Block) (b : ℕ) →
      full_piece T path total offset (content T path total full (offset + 32))
      (block_after_octet (block_step 32) g b) ≡ read_after_octet coding path
      (full_piece T path total offset (content T path total full (offset + 32)) g) b
  full_piece_goes T total offset full is goes (Partial piece at) b = search (
    arith,
    lt-ltb,
    with_front_none,
  )
  full_piece_goes T total offset full is goes (Complete xs at rest) b = search (
    arith,
    with_front-advance,
  )

  pub content_goes : (T : Ty) (total full offset : ℕ) → full ≡ full_pieces (total - offset) →
      StepsByOctet coding path (content T path total full offset)
  content_goes T total zero offset is at s b = search (arith, block_goes, last_piece_goes)
  content_goes T total (suc full) offset is at s b =
      ap (full_piece T path total offset (content T path total full (offset + 32)))
      (block_goes 32 at s b)
      ∙ full_piece_goes T total offset full is
      (content_goes T total full (offset + 32) (omega arith)) (block 32 at s) b

  pub text_goes : (bound : Option ℕ) (n : ℕ) → StepsByOctet coding path (text bound path n)
  text_goes bound zero at s b = refl
  text_goes bound (suc n) at s b = search (arith, content_goes, unless_goes)

  pub octets_goes : (kind : OctetKind) (n : ℕ) → StepsByOctet coding path (octets kind path n)
  octets_goes kind n at s b = search (arith, content_goes, unless_goes)

-- types that begin with a number

-- what comes after the leading number, once the number is complete
abbrev pub read_after_leading_number : (coding : Coding) (path : List PathSegment) (T : Ty) (g :
    Block) →
    Read
read_after_leading_number coding path T g =
    after_leading_number T (λ xs at rest. after_number coding path T (num coding.order xs) at rest)
    g

pub headed_goes : (coding : Coding) (path : List PathSegment) (T : Ty) → 0 < leading_width T →
    ((n : ℕ) → StepsByOctet coding path (after_number coding path T n)) →
    StepsByOctet coding path (λ at s. read_after_leading_number coding path T
    (number coding.phase (leading_width T) at s))
headed_goes coding path T pos goes at s b = search (arith, number_goes, with_front_none)

pub single_goes : (coding : Coding) (path inner : List PathSegment) (scalar : Scalar) (n : ℕ) →
    StepsByOctet coding path (read_single inner scalar n)
single_goes coding path inner scalar n at s b = search (arith)

pub size_pos : (p : Primitive) → 0 < size_of p
size_pos prims.Octet = lit< tt
size_pos p = lit< tt

pub width_pos : (scalar : Scalar) → 0 < width scalar
width_pos (Plain p) = size_pos p
width_pos (Enum count names) = lit< tt
width_pos (Marked mark) = lit< tt

pub counted_goes : (coding : Coding) (path : List PathSegment) (bound : Option ℕ) (T : Ty) (n : ℕ) →
    StepsByOctet coding path (parts_from (part_at coding path (Sequence bound T) n) n 0) →
    StepsByOctet coding path (after_number coding path (Sequence bound T) n)
counted_goes coding path bound T n goes at s b = search (arith, with_front-advance)

elements_go : (coding : Coding) (path : List PathSegment) (T : Ty) (fits : Bool) (n : ℕ)
    (parts : ℕ → List ℕ → Read) → StepsByOctet coding path parts →
    StepsByOctet coding path (recursive_elements T fits n parts)
elements_go coding path T true n parts goes at s b = goes at s b
elements_go coding path T false zero parts goes at s b = refl
elements_go coding path T false (suc n) parts goes at s b = refl

pub recursive_goes : (coding : Coding) (path : List PathSegment) (bound : Option ℕ) (fits : Bool)
    (T : Ty) (n : ℕ) →
    StepsByOctet coding path (parts_from (part_at coding path (Recursive bound fits T) n) n 0) →
    StepsByOctet coding path (after_number coding path (Recursive bound fits T) n)
recursive_goes coding path bound fits T n goes at s b =
    let S = Recursive bound fits T in
    let front : List ValueAt = line at path (Count n) ∷ [] in
    let parts = parts_from (part_at coding path S n) n 0 in
    ap (λ r. fault_or S (bound_fault bound n) at (with_front front r))
    (elements_go coding path S fits n parts goes at s b)
    ∙ (ap (fault_or S (bound_fault bound n) at)
    (with_front-advance coding path front (recursive_elements S fits n parts at s) b)
    ∙ unless_goes coding path S (bound_fault bound n) at
    (with_front front (recursive_elements S fits n parts at s)) b)

pub selected_goes : (coding : Coding) (path : List PathSegment) (T : Ty) (selected : Selected) →
    ((i : ℕ) → StepsByOctet coding (inner_path path T i)
    (read coding (inner_path path T i) (part_of T i)))
    → StepsByOctet coding path (selected_case selected (λ i at s. within (Member T i)
    (read coding (inner_path path T i) (part_of T i) at s)))
selected_goes coding path T (Case i) each at s b = search (arith, member_goes)
selected_goes coding path T _ each at s b = refl

pub union_goes : (coding : Coding) (path : List PathSegment) (choice : Choice) (scalar : Scalar)
    (select : ℕ → Selected) (names : ℕ → List ℕ) (cases : ℕ → Ty) (n : ℕ) →
    ((i : ℕ) → StepsByOctet coding (path ++ Name (names i) ∷ [])
    (read coding (path ++ Name (names i) ∷ [])
    (cases i))) → StepsByOctet coding path (after_number coding path
    (Union choice scalar select names cases) n)
union_goes coding path choice scalar select names cases n each at s b = search (
  arith,
  selected_goes,
  with_front-advance,
)

-- ---- a part that tells what follows it

pub told_append : (h : TypeInference) (told : InferredType) (xs ys : List ValueAt) →
    told_after h told (xs ++ ys) ≡ told_after h (told_after h told xs) ys
told_append h told [] ys = refl
told_append h told (x ∷ xs) ys = told_append h (told_after_sign h told (sign_of x.value)) xs ys

pub with_front-led : (front : List ValueAt) (T : Ty) (h : TypeInference) (told : InferredType)
    (part : ℕ → ℕ → List ℕ → Read) (r : Read) → led T h told part (with_front front r)
    ≡ with_front front (led T h (told_after h told front) part r)
with_front-led front T h told part (Done lines at rest) = search (
  arith,
  told_append,
  with_front_twice,
)
with_front-led front T h told part (Short lines at outer leaf) = search (arith, told_append)
with_front-led front T h told part (Fault lines at kind S) = refl

pub following_goes : (coding : Coding) (path : List PathSegment) (T : Ty) (what : Sequel)
    (part : ℕ → ℕ → List ℕ → Read) → ((i : ℕ) → StepsByOctet coding path (part i)) →
    StepsByOctet coding path (read_sequel T what part)
following_goes coding path T (Then i) part each at s b = each i at s b
following_goes coding path T what part each at s b = refl

pub led_goes : (coding : Coding) (path : List PathSegment) (T : Ty) (told : InferredType) →
    ((i : ℕ) → StepsByOctet coding path (after_told coding path T i)) → (r : Read) (b : ℕ) →
    led T (inference_in T) told (after_told coding path T)
    (read_after_octet coding (inner_path path T 0) r b)
    ≡ read_after_octet coding path (led T (inference_in T) told (after_told coding path T) r) b
led_goes coding path T told each (Done lines at rest) b = search (
  arith,
  following_goes,
  with_front-advance,
)
led_goes coding path T told each (Short lines at outer leaf) b = search (arith, with_front-led)
led_goes coding path T told each (Fault lines at kind S) b = refl

pub after_told_goes : (coding : Coding) (path : List PathSegment) (T : Ty) (i : ℕ) →
    StepsByOctet coding (inner_path path T (suc i)) (read coding (inner_path path T (suc i))
    (part_of T (suc i))) → StepsByOctet coding path (after_told coding path T i)
after_told_goes coding path T i goes at s b = search (arith, member_goes)
