-- A step has at most one line, which is at the step's octet. Reading no octets gives no line.
use Rattle.std.proofs.Common.{◌≡◌, ℕ, zero, suc, ◌+◌, ◌-◌, ◌<◌, Bool, true, false, List, [], ◌∷◌, ◌++◌, take, drop, get_or, Option, Some, None, refl, append-nil, arith, add-zero, lit<, ltb}
use Rattle.std.specs.Prelude.{cond}
use Rattle.std.specs.List.{AllByRecursion as Each}
use Rattle.std.proofs.Math.Seq.{take-nil, drop-nil}
use Rattle.std.proofs.lemmas.Bool.{cases_lt, lt-ltb, le-ltb}
use Rattle.giop_decode.specs.Pieces.{Complete, Block, Partial, block, content, full_piece, last_piece, fault_or, bound_fault}
use Rattle.giop_decode.specs.Reading.{selected_case, parts_from, read, disposition_fault, read_single, number_fault, enclosed, from_order_octet, after_order_octet, encapsulation_rest, after_encapsulation_size, read_sequel, led, none_left, told_after, type_at_cut, recursive_elements}
use Rattle.giop_decode.specs.ReadResult.{Coding, Content, Done, Fault, LeadingNumber, Index, Leaf, ValueAt, Member, Name, Part, OpenPart, Read, PathSegment, Short, Switch, read_then, line, with_front, within, lines_of, Held, Inside, Opening, Size, Telling, Count}
use Rattle.giop_decode.specs.ReadingSteps.{AtMostOneAt, IsOctetResult, IsEmptyResult, inner_path, after_number, resume_outer, block_step, leaf_step, number_step, part_at, segment_of, step, AreFaultLines, encapsulated_value, after_told}
use Rattle.giop_sig.specs.Hearings.{inference_in}
use Rattle.giop_decode.specs.declared.progress.ValueFault.{ValueFault}
use Rattle.giop_decode.specs.declared.progress.ValueFault.TheVariants as kinds
use Rattle.giop_cdr.specs.declared.order.Order.{Order}
use Rattle.giop_sig.specs.Types.{discriminator_name, Array, Encapsulation, Octets, Scalar, Sequence, Single, Struct, Text, Ty, Union, part_of, Led, TypeInference, InferredType, Untold, Sequel, Then, Ends, Stops, sequel, Recursive}
use Rattle.giop_sig.specs.declared.types.Selected.{Selected}
use Rattle.giop_sig.specs.declared.types.Selected.TheVariants.{Case}
use Rattle.giop_decode.specs.ReadResult
use Rattle.giop_decode.proofs.Law.{read_after_leading_number, block_waits, number_none, width_pos}

pub each_append : {A : Type 0} (P : A → Type 0) (xs ys : List A) → Each P xs → Each P ys →
    Each P (xs ++ ys)
each_append P [] ys h k = k
each_append P (x ∷ xs) ys h k = (h.0, each_append P xs ys h.1 k)

-- a fault of any kind may have no line
faulted_none : (n : ℕ) (why : ValueFault) → AreFaultLines n why []
faulted_none n kinds.EncapShort = tt
faulted_none n kinds.Untyped = tt
faulted_none n kind = refl

-- a fault that comes after a complete value, so there may be a line
abbrev pub IsLate : ValueFault → Type 0
IsLate kinds.EncapShort = Unit {0}
IsLate kinds.Untyped = Unit {0}
IsLate kind = ⊥

late_faulted : (n : ℕ) (why : ValueFault) (lines : List ValueAt) → IsLate why →
    AtMostOneAt n lines → AreFaultLines n why lines
late_faulted n kinds.EncapShort lines late h = h
late_faulted n kinds.Untyped lines late h = h
late_faulted n why lines late h = absurd late

-- a reading without a line, in which an encapsulation may have ended or octets of no type may come
abbrev pub HasNoLine : (n : ℕ) (read : Read) → Type 0
HasNoLine n (Done lines at rest) = (lines ≡ []) × (at ≡ n) × (rest ≡ [])
HasNoLine n (Short lines at outer leaf) = (lines ≡ []) × (at ≡ n)
HasNoLine n (Fault lines at why S) = (lines ≡ []) × (at ≡ n) × IsLate why

mute_front : (n : ℕ) (front : List ValueAt) (r : Read) → AtMostOneAt n front → HasNoLine n r →
    IsOctetResult n (with_front front r)
mute_front n front (Done lines at rest) h k = search (arith, append-nil)
mute_front n front (Short lines at outer leaf) h k = search (arith, append-nil)
mute_front n front (Fault lines at why S) h k = search (arith, append-nil, late_faulted)

pub quiet_mute : (n : ℕ) (r : Read) → IsEmptyResult n r → HasNoLine n r
quiet_mute n (Fault lines at why S) h = absurd h
quiet_mute n r h = h

now_front : (n : ℕ) (front : List ValueAt) (r : Read) → AtMostOneAt n front → IsEmptyResult n r →
    IsOctetResult n (with_front front r)
now_front n front r h k = search (arith, mute_front, quiet_mute)

quiet_front : (n : ℕ) (r : Read) → IsEmptyResult n r → IsEmptyResult n (with_front [] r)
quiet_front n (Done lines at rest) h = h
quiet_front n r h = h

now_followed : (n : ℕ) (r : Read) (next : ℕ → List ℕ → Read) → IsOctetResult n r →
    IsEmptyResult n (next n []) →
    IsOctetResult n (read_then r next)
now_followed n (Done lines at rest) next h k = search (arith, now_front)
now_followed n r next h k = h

pub quiet_followed : (n : ℕ) (r : Read) (next : ℕ → List ℕ → Read) → IsEmptyResult n r →
    IsEmptyResult n (next n []) → IsEmptyResult n (read_then r next)
quiet_followed n (Done lines at rest) next h k = search (arith, quiet_front)
quiet_followed n r next h k = h

pub now_within : (n : ℕ) (place : OpenPart) (r : Read) → IsOctetResult n r →
    IsOctetResult n (within place r)
now_within n place (Done lines at rest) h = h
now_within n place r h = h

pub quiet_within : (n : ℕ) (place : OpenPart) (r : Read) → IsEmptyResult n r →
    IsEmptyResult n (within place r)
quiet_within n place (Done lines at rest) h = h
quiet_within n place r h = h

now_unless : (n : ℕ) (T : Ty) (why : Option ValueFault) (r : Read) → IsOctetResult n r →
    IsOctetResult n (fault_or T why n r)
now_unless n T None r h = h
now_unless n T (Some kind) r h = (faulted_none n kind, refl)

-- reading no octets

pub quiet_parts : (n : ℕ) (part : ℕ → ℕ → List ℕ → Read) →
    ((i : ℕ) → IsEmptyResult n (part i n [])) →
    (more i : ℕ) → IsEmptyResult n (parts_from part more i n [])
quiet_parts n part h zero i = (refl, refl, refl)
quiet_parts n part h (suc more) i = search (
  arith,
  quiet_followed,
  quiet_parts n part h more (suc
      i),
)

quiet_led : (n : ℕ) (T : Ty) (h : TypeInference) (part : ℕ → ℕ → List ℕ → Read) (r : Read) →
    IsEmptyResult n r → IsEmptyResult n (led T h Untold part r)
quiet_led n T h part (Done lines at rest) k = rw (k.0, k.1, k.2) (refl, refl, refl)
quiet_led n T h part (Short lines at outer leaf) k = k
quiet_led n T h part (Fault lines at kind S) k = k

pub read_quiet : (coding : Coding) (path : List PathSegment) (T : Ty) (n : ℕ) →
    IsEmptyResult n (read coding path T n [])
read_quiet coding path (Single scalar) n = search (arith, number_none)
read_quiet coding path (Struct count names parts) n =
    quiet_parts n (part_at coding path (Struct count names parts) count)
    (λ i. quiet_within n (Part (Struct count names parts) i count) _
    (read_quiet coding (path ++ Name (names i) ∷ []) (parts i) n)) count 0
read_quiet coding path (Array count T) n =
    quiet_parts n (part_at coding path (Array count T) count)
    (λ i. quiet_within n (Part (Array count T) i count) _
    (read_quiet coding (path ++ Index i ∷ []) T n)) count 0
read_quiet coding path (Union choice scalar select names cases) n = search (
  arith,
  number_none,
  width_pos,
)
read_quiet coding path (Led h F parts) n = search (
  arith,
  quiet_led,
  read_quiet coding (inner_path path (Led h F parts) 0) F n,
)
read_quiet coding path T n = search (arith, number_none)

pub part_quiet : (coding : Coding) (path : List PathSegment) (T : Ty) (count n i : ℕ) →
    IsEmptyResult n (part_at coding path T count i n [])
part_quiet coding path T count n i = search (arith, quiet_within, read_quiet)

pub parts_quiet : (coding : Coding) (path : List PathSegment) (T : Ty) (count n more i : ℕ) →
    IsEmptyResult n (parts_from (part_at coding path T count) more i n [])
parts_quiet coding path T count n more i = search (arith, quiet_parts, part_quiet)

-- reading one octet

abbrev BlockEndsAt : (n : ℕ) (block : Block) → Type 0
BlockEndsAt n (Partial held at) = at ≡ n
BlockEndsAt n (Complete xs at rest) = (at ≡ n) × (rest ≡ [])

block_by : (n : ℕ) (test : Bool) (xs : List ℕ) →
    BlockEndsAt n (cond test (Partial xs n) (Complete xs n []))
block_by n true xs = refl
block_by n false xs = (refl, refl)

block_none_now : (w n : ℕ) → BlockEndsAt n (block w n [])
unfolding block
block_none_now w n = search (arith, cases_lt, take, drop, lt-ltb, add-zero)

block_now : (w at : ℕ) (held : List ℕ) (b : ℕ) → BlockEndsAt (at + 1) (block_step w at held b)
unfolding block_step
block_now w at held b = search (arith, block_by)

number_by : (w at : ℕ) (test : Bool) (b : ℕ) →
    BlockEndsAt (at + 1) (cond test (Partial [] (at + 1)) (block_step w at [] b))
number_by w at true b = refl
number_by w at false b = block_now w at [] b

number_now : (phase : ℕ → ℕ) (w at : ℕ) (carry : List ℕ) (b : ℕ) →
    BlockEndsAt (at + 1) (number_step phase w at carry b)
unfolding number_step
number_now phase w at [] b = search (arith, number_by)
number_now phase w at (x ∷ carry) b = block_now w at (x ∷ carry) b

last_now : (n : ℕ) (T : Ty) (path : List PathSegment) (total offset : ℕ) (g : Block) →
    BlockEndsAt n g →
    IsOctetResult n (last_piece T path total offset g)
last_now n T path total offset (Partial piece at) h = (tt, h)
last_now n T path total offset (Complete xs at rest) h = search (arith, now_unless)

full_now : (n : ℕ) (T : Ty) (path : List PathSegment) (total offset : ℕ) (next : ℕ → List ℕ → Read)
    (g : Block) → BlockEndsAt n g → IsEmptyResult n (next n []) →
    IsOctetResult n (full_piece T path total offset next g)
full_now n T path total offset next (Partial piece at) h k = (tt, h)
full_now n T path total offset next (Complete xs at rest) h k = search (arith, now_front)

-- a content with octets still to come
content_quiet : (n : ℕ) (T : Ty) (path : List PathSegment) (total full offset : ℕ) →
    offset < total →
    IsEmptyResult n (content T path total full offset n [])
content_quiet n T path total zero offset h = search (arith, block_waits, add-zero)
content_quiet n T path total (suc full) offset h = search (arith, block_waits, lit<, add-zero)

content_now : (n : ℕ) (T : Ty) (path : List PathSegment) (total full offset : ℕ) →
    IsOctetResult n (content T path total full offset n [])
content_now n T path total zero offset = search (arith, last_now, block_none_now)
content_now n T path total (suc full) offset = search (arith, block_waits, lit<, add-zero)

single_now : (n : ℕ) (path : List PathSegment) (scalar : Scalar) (k : ℕ) →
    IsOctetResult n (read_single path scalar k n [])
single_now n path scalar k = search (arith, now_unless)

member_quiet : (n : ℕ) (coding : Coding) (path : List PathSegment) (T : Ty) (selected : Selected) →
    IsEmptyResult n (selected_case selected (λ i at s. within (Member T i)
    (read coding (inner_path path T i) (part_of T i) at s)) n [])
member_quiet n coding path T (Case i) = search (arith, quiet_within, read_quiet)
member_quiet n coding path T _ = (refl, refl, refl)

-- ---- encapsulations

pub rest_quiet : (n : ℕ) (path : List PathSegment) (T : Ty) (k : ℕ) →
    IsEmptyResult n (encapsulation_rest path T k n [])
rest_quiet n path T zero = (refl, refl, refl)
rest_quiet n path T (suc k) = search (arith, content_quiet)

enclosed_by : (n : ℕ) (test : Bool) (lines : List ValueAt) (at : ℕ) (outer : List OpenPart)
    (leaf : Leaf)
    (S : Ty) → AtMostOneAt n lines → at ≡ n →
    IsOctetResult n (cond test (Short lines at outer leaf) (Fault lines at kinds.EncapShort S))
enclosed_by n true lines at outer leaf S one is = (one, is)
enclosed_by n false lines at outer leaf S one is = (one, is)

pub enclosed_now : (n : ℕ) (path : List PathSegment) (T : Ty) (inner : Coding) (end : ℕ)
    (r : Read) →
    IsOctetResult n r → IsOctetResult n (enclosed path T inner end none_left r [])
enclosed_now n path T inner end (Done lines at rest) h = search (arith, now_front, rest_quiet)
enclosed_now n path T inner end (Short lines at outer leaf) h = search (arith, enclosed_by)
enclosed_now n path T inner end (Fault lines at kinds.Untyped S) h = search
    (arith, now_front, rest_quiet)
enclosed_now n path T inner end (Fault lines at why S) h = h

mute_by : (n : ℕ) (test : Bool) (lines : List ValueAt) (at : ℕ) (outer : List OpenPart) (leaf :
    Leaf)
    (S : Ty) → lines ≡ [] → at ≡ n → HasNoLine n (cond test (Short lines at outer leaf)
    (Fault lines at kinds.EncapShort S))
mute_by n true lines at outer leaf S none is = (none, is)
mute_by n false lines at outer leaf S none is = (none, is, tt)

mute_followed : (n : ℕ) (r : Read) (next : ℕ → List ℕ → Read) → HasNoLine n r →
    IsEmptyResult n (next n []) →
    HasNoLine n (read_then r next)
mute_followed n (Done lines at rest) next h k = search (arith, quiet_mute, quiet_front)
mute_followed n r next h k = h

mute_within : (n : ℕ) (place : OpenPart) (r : Read) → HasNoLine n r → HasNoLine n (within place r)
mute_within n place (Done lines at rest) h = h
mute_within n place r h = h

pub mute_enclosed : (n : ℕ) (path : List PathSegment) (T : Ty) (inner : Coding) (end : ℕ) (r : Read)
    →
    HasNoLine n r → HasNoLine n (enclosed path T inner end none_left r [])
mute_enclosed n path T inner end (Done lines at rest) h = search (
  arith,
  quiet_mute,
  quiet_front,
  rest_quiet,
)
mute_enclosed n path T inner end (Short lines at outer leaf) h = search (arith, mute_by)
mute_enclosed n path T inner end (Fault lines at kinds.Untyped S) h = search (
  arith,
  quiet_mute,
  quiet_front,
  rest_quiet,
)
mute_enclosed n path T inner end (Fault lines at why S) h = h

-- an encapsulation whose value has taken no octet
quiet_enclosed : (n : ℕ) (path : List PathSegment) (T : Ty) (inner : Coding) (end : ℕ)
    (left : ℕ → List ℕ) (r : Read) →
    IsEmptyResult n r → HasNoLine n (enclosed path T inner end left r [])
quiet_enclosed n path T inner end left (Done lines at rest) h =
    rw (h.0, h.1, h.2) (quiet_mute n (with_front [] (encapsulation_rest path T (end - n) n []))
    (quiet_front n _ (rest_quiet n path T (end - n))))
quiet_enclosed n path T inner end left (Short lines at outer leaf) h =
    mute_by n (ltb at end) lines at (Inside T inner end ∷ outer) leaf (type_at_cut leaf) h.0 h.1
quiet_enclosed n path T inner end left (Fault lines at why S) h = absurd h

-- what comes after a part that tells it
following_mute : (n : ℕ) (T : Ty) (what : Sequel) (part : ℕ → ℕ → List ℕ → Read) →
    ((i : ℕ) → IsEmptyResult n (part i n [])) → HasNoLine n (read_sequel T what part n [])
following_mute n T (Then i) part each = quiet_mute n (part i n []) (each i)
following_mute n T Ends part each = (refl, refl, refl)
following_mute n T Stops part each = (refl, refl, tt)

led_mute : (n : ℕ) (T : Ty) (h : TypeInference) (told : InferredType) (part : ℕ → ℕ → List ℕ → Read)
    (r : Read) →
    ((i : ℕ) → IsEmptyResult n (part i n [])) → HasNoLine n r → HasNoLine n (led T h told part r)
led_mute n T h told part (Done lines at rest) each k =
    let what = sequel h told in
    rw (k.0, k.1, k.2) (front_mute (read_sequel T what part n [])
    (following_mute n T what part each))
  where
    front_mute : (x : Read) → HasNoLine n x → HasNoLine n (with_front [] x)
    front_mute (Done ls m s) k = k
    front_mute x k = k
led_mute n T h told part (Short lines at outer leaf) each k = k
led_mute n T h told part (Fault lines at kind S) each k = k

led_now : (n : ℕ) (T : Ty) (h : TypeInference) (told : InferredType) (part : ℕ → ℕ → List ℕ → Read)
    (r : Read) →
    ((i : ℕ) → IsEmptyResult n (part i n [])) → IsOctetResult n r →
    IsOctetResult n (led T h told part r)
led_now n T h told part (Done lines at rest) each k =
    let what = sequel h (told_after h told lines) in
    rw (k.1, k.2) (mute_front n lines (read_sequel T what part n []) k.0
    (following_mute n T what part each))
led_now n T h told part (Short lines at outer leaf) each k = k
led_now n T h told part (Fault lines at kind S) each k = k

pub after_told_quiet : (n : ℕ) (coding : Coding) (path : List PathSegment) (T : Ty) (i : ℕ) →
    IsEmptyResult n (after_told coding path T i n [])
after_told_quiet n coding path T i = quiet_within n (Member T (suc i)) _
    (read_quiet coding (inner_path path T (suc i)) (part_of T (suc i)) n)

pub around_mute : (n : ℕ) (coding : Coding) (path : List PathSegment) (outer : List OpenPart)
    (r : Read) →
    HasNoLine n r → HasNoLine n (resume_outer coding path outer r)
around_mute n coding path [] r h = h
around_mute n coding path (Part T i count ∷ outer) r h =
    let inner = resume_outer coding (path ++ segment_of T i ∷ []) outer r in
    mute_followed n (within (Part T i count) inner)
    (parts_from (part_at coding path T count) (count - suc i) (suc i))
    (mute_within n (Part T i count) inner (around_mute n coding (path ++ segment_of T i ∷ []) outer
    r h))
    (parts_quiet coding path T count n (count - suc i) (suc i))
around_mute n coding path (Member T i ∷ outer) r h =
    mute_within n (Member T i) (resume_outer coding (path ++ segment_of T i ∷ []) outer r)
    (around_mute n coding (path ++ segment_of T i ∷ []) outer r h)
around_mute n coding path (Telling T told ∷ outer) r h =
    let inner = resume_outer coding (path ++ segment_of T 0 ∷ []) outer r in
    led_mute n T (inference_in T) told (after_told coding path T) inner
    (after_told_quiet n coding path T)
    (around_mute n coding (path ++ segment_of T 0 ∷ []) outer r h)
around_mute n coding path (Inside T inner end ∷ outer) r h =
    mute_enclosed n path T inner end (resume_outer inner (path ++ Held ∷ []) outer r)
    (around_mute n inner (path ++ Held ∷ []) outer r h)

pub mute_lines : (n : ℕ) (r : Read) → HasNoLine n r → lines_of r ≡ []
mute_lines n (Done lines at rest) h = h.0
mute_lines n r h = h.0

ordered_now : (n : ℕ) (path : List PathSegment) (T : Ty) (origin k : ℕ) (order : Option Order) →
    IsOctetResult n (after_order_octet path T (encapsulated_value path T) origin k order n [])
ordered_now n path T origin k None = (refl, refl)
ordered_now n path T origin k (Some order) = search (
  arith,
  take-nil,
  drop-nil,
  mute_front,
  quiet_enclosed,
  read_quiet,
)

opening_now : (n : ℕ) (path : List PathSegment) (T : Ty) (origin k : ℕ) (g : Block) →
    BlockEndsAt n g →
    IsOctetResult n (from_order_octet path T (encapsulated_value path T) origin k g)
opening_now n path T origin k (Partial none at) h = (tt, h)
opening_now n path T origin k (Complete xs at rest) h = search (arith, ordered_now, get_or)

sized_now : (n : ℕ) (path : List PathSegment) (T : Ty) (k m : ℕ) →
    IsOctetResult n (with_front (line n path (Size m) ∷ [])
    (after_encapsulation_size path T (encapsulated_value path T) k n []))
sized_now n path T zero m = (refl, refl)
sized_now n path T (suc k) m = search (arith, block_waits, lit<, add-zero)

elements_now : (n : ℕ) (T : Ty) (fits : Bool) (k : ℕ) (l : ValueAt) (parts : ℕ → List ℕ → Read) →
    l.at ≡ n → IsEmptyResult n (parts n []) →
    IsOctetResult n (with_front (l ∷ []) (recursive_elements T fits k parts n []))
elements_now n T true k l parts one h = now_front n (l ∷ []) (parts n []) one h
elements_now n T false zero l parts one h =
    now_front n (l ∷ []) (Done [] n []) one (refl, refl, refl)
elements_now n T false (suc k) l parts one h = (one, refl)

after_now : (n : ℕ) (coding : Coding) (path : List PathSegment) (T : Ty) (k : ℕ) →
    IsOctetResult n (after_number coding path T k n [])
after_now n coding path (Single scalar) k = single_now n path scalar k
after_now n coding path (Text bound) zero = (refl, refl, refl)
after_now n coding path (Text bound) (suc k) = search (arith, now_unless, content_now)
after_now n coding path (Octets kind) k = search (arith, now_unless, content_now)
after_now n coding path (Encapsulation T) k = search (arith, sized_now)
after_now n coding path (Sequence bound T) k = search (arith, now_unless, now_front, parts_quiet)
after_now n coding path (Recursive bound fits T) k =
    let S = Recursive bound fits T in
    now_unless n S (bound_fault bound k) _
    (elements_now n S fits k (line n path (Count k)) (parts_from (part_at coding path S k) k 0) refl
    (parts_quiet coding path S k n k 0))
after_now n coding path (Union choice scalar select names cases) k =
    let T = Union choice scalar select names cases in
    let next : ℕ → List ℕ → Read = selected_case (select k)
    (λ i at s. within (Member T i) (read coding (inner_path path T i) (part_of T i) at s)) in
    let front : List ValueAt = line n (path ++ Switch (discriminator_name choice scalar names) ∷ [])
    (ReadResult.Number scalar k) ∷ [] in
    now_unless n T (number_fault scalar k) _
    (now_unless n T (disposition_fault (select k)) _
    (now_front n front _ refl (member_quiet n coding path T (select k))))
after_now n coding path T k = (tt, refl, refl)

headed_now : (n : ℕ) (coding : Coding) (path : List PathSegment) (T : Ty) (g : Block) →
    BlockEndsAt n g →
    IsOctetResult n (read_after_leading_number coding path T g)
headed_now n coding path T (Partial carry at) h = (tt, h)
headed_now n coding path T (Complete xs at rest) h = search (arith, after_now)

leaf_now : (coding : Coding) (path : List PathSegment) (leaf : Leaf) (at b : ℕ) →
    IsOctetResult (at + 1) (leaf_step coding path leaf at b)
leaf_now coding path (LeadingNumber T carry) at b = search (arith, headed_now, number_now)
leaf_now coding path (Opening T n) at b = search (arith, opening_now, block_now)
leaf_now coding path (Content T total offset piece) at b = search (
  arith,
  cases_lt,
  lt-ltb,
  full_now,
  block_now,
  content_quiet,
  le-ltb,
  last_now,
)

around_now : (n : ℕ) (coding : Coding) (path : List PathSegment) (outer : List OpenPart)
    (r : Read) → IsOctetResult n r →
    IsOctetResult n (resume_outer coding path outer r)
around_now n coding path [] r h = h
around_now n coding path (Part T i count ∷ outer) r h =
    let inner = resume_outer coding (path ++ segment_of T i ∷ []) outer r in
    now_followed n (within (Part T i count) inner)
    (parts_from (part_at coding path T count) (count - suc i) (suc i))
    (now_within n (Part T i count) _ (around_now n coding (path ++ segment_of T i ∷ []) outer r h))
    (parts_quiet coding path T count n (count - suc i) (suc i))
around_now n coding path (Member T i ∷ outer) r h =
    let inner = resume_outer coding (path ++ segment_of T i ∷ []) outer r in
    now_within n (Member T i) _ (around_now n coding (path ++ segment_of T i ∷ []) outer r h)
around_now n coding path (Telling T told ∷ outer) r h =
    let inner = resume_outer coding (path ++ segment_of T 0 ∷ []) outer r in
    led_now n T (inference_in T) told (after_told coding path T) inner
    (after_told_quiet n coding path T)
    (around_now n coding (path ++ segment_of T 0 ∷ []) outer r h)
around_now n coding path (Inside T inner end ∷ outer) r h =
    enclosed_now n path T inner end (resume_outer inner (path ++ Held ∷ []) outer r)
    (around_now n inner (path ++ Held ∷ []) outer r h)

pub step_now : (coding : Coding) (path : List PathSegment) (outer : List OpenPart) (leaf : Leaf)
    (at b : ℕ) →
    IsOctetResult (at + 1) (step coding path outer leaf at b)
step_now coding path outer leaf at b = search (arith, around_now, leaf_now)
