-- A reading ends at the offset after its last octet, and leaves open parts that fit the type.
use Rattle.std.proofs.Common.{◌≡◌, ℕ, zero, suc, ◌+◌, ◌-◌, ◌<◌, ◌≤◌, List, [], ◌∷◌, ◌++◌, length, take, drop, Option, Some, None, refl, sym, subst, arith, add_assoc, add-zero, length-append, length-drop, lt-ltb, le-ltb, ◌⊎◌, inl, inr, lit<, length-take-le, Bool, true, false}
use Rattle.std.proofs.lemmas.Bool.{cases_lt}
use Rattle.std.proofs.lemmas.List.{take_all, drop_all}
use Rattle.giop_cdr.specs.declared.order.Order.{Order}
use Rattle.giop_decode.specs.Fits.{IsSoundReading, CodingHasBegun, HasCase, HasContent, HasLeadingNumber, HasParts, IsEncapsulation, IsLed}
use Rattle.giop_decode.specs.Pieces.{Complete, Block, Partial, block, content, full_piece, full_pieces, last_piece, number, octets, terminator_size, text, fault_or}
use Rattle.giop_decode.specs.Reading.{enclosed, inside, selected_case, order_of, after_order_octet, parts_from, read, encapsulation_rest, read_single, after_encapsulation_size, read_sequel, left_after, led, led_segment, none_left, told_after}
use Rattle.giop_decode.specs.ReadResult.{Coding, coding_from, Done, Fault, Index, ValueAt, Member, Name, Part, Read, PathSegment, Short, read_then, with_front, within, Held}
use Rattle.giop_decode.specs.ReadingSteps.{inner_path, after_number, leading_width, part_at, encapsulated_value, IsOctetResult, after_told}
use Rattle.giop_sig.specs.Hearings.{inference_in}
use Rattle.giop_decode.specs.declared.progress.ValueFault.{ValueFault}
use Rattle.giop_decode.specs.declared.progress.ValueFault.TheVariants as kinds
use Rattle.giop_sig.specs.Fits.{IsFit, SelectsBelow}
use Rattle.giop_sig.specs.Types.{case_count, Choice, Array, OctetKind, Octets, Scalar, Sequence, Single, Struct, Text, Ty, Union, part_of, Encapsulation, Led, InferredType, Untold, Sequel, Then, Ends, Stops, sequel, Recursive}
use Rattle.giop_sig.specs.declared.types.Selected.{Selected}
use Rattle.giop_sig.specs.declared.types.Selected.TheVariants.{Case}
use Rattle.giop_decode.proofs.Enclosing as enclosing
use Rattle.giop_decode.proofs.Enclosing.{read_ends}
use Rattle.giop_decode.proofs.OctetKinds.{size_pos}
use Rattle.giop_decode.proofs.Law.{read_after_leading_number, block_waits, block_got, number_none, number_pads, number_blocks, padding_or, width_pos}

abbrev pub ReadsSoundly : (T : Ty) (reader : ℕ → List ℕ → Read) → Type 0
ReadsSoundly T reader = (at : ℕ) (s : List ℕ) → IsSoundReading T (at + length s) (reader at s)

sound_front : (T : Ty) (end : ℕ) (front : List ValueAt) (r : Read) → IsSoundReading T end r →
    IsSoundReading T end (with_front front r)
sound_front T end front (Done lines at rest) h = h
sound_front T end front r h = h

sound_unless : (T : Ty) (end : ℕ) (U : Ty) (why : Option ValueFault) (at : ℕ) (r : Read) →
    IsSoundReading T end r →
    IsSoundReading T end (fault_or U why at r)
sound_unless T end U None at r h = h
sound_unless T end U (Some kind) at r h = tt

pub sound_followed : (T : Ty) (end : ℕ) (r : Read) (next : ℕ → List ℕ → Read) →
    IsSoundReading T end r → ReadsSoundly T next → IsSoundReading T end (read_then r next)
sound_followed T end (Done lines at rest) next h keeps = search (arith, sound_front)
sound_followed T end _ next h keeps = h

pub sound_part : (T : Ty) (end i count : ℕ) (r : Read) → HasParts T count → i < count →
    IsSoundReading (part_of T i) end r → IsSoundReading T end (within (Part T i count) r)
sound_part T end i count (Done lines at rest) kind below h = h
sound_part T end i count (Short lines at outer leaf) kind below h = search (arith)
sound_part T end i count (Fault lines at k S) kind below h = tt

pub sound_member : (T : Ty) (end i : ℕ) (r : Read) → HasCase T i →
    IsSoundReading (part_of T i) end r → IsSoundReading T end (within (Member T i) r)
sound_member T end i (Done lines at rest) kind h = h
sound_member T end i (Short lines at outer leaf) kind h = search (arith)
sound_member T end i (Fault lines at k S) kind h = tt

-- a block of n octets: the offset at which its reading ends, and how many octets it has
abbrev pub BlockFits : (n end : ℕ) (block : Block) → Type 0
BlockFits n end (Partial held at) = (at ≡ end) × (length held < n)
BlockFits n end (Complete xs at rest) = (at + length rest ≡ end) × (length xs ≡ n)

block_takes : (n at : ℕ) (s : List ℕ) → BlockFits n (at + length s) (block n at s)
block_takes n at s = search (arith, cases_lt, block_waits, block_got, length-drop, length-take-le)

pub number_takes : (phase : ℕ → ℕ) (n at : ℕ) (s : List ℕ) → 0 < n →
    BlockFits n (at + length s) (number phase n at s)
number_takes phase n at [] pos = search (arith, number_none)
number_takes phase n at (b ∷ s) pos = search (
  arith,
  padding_or,
  number_pads,
  number_takes phase n (at + 1) s pos,
  add_assoc,
  number_blocks,
  block_takes,
)

pub parts_keep : (coding : Coding) (path : List PathSegment) (T : Ty) (count : ℕ) →
    HasParts T count →
    ((i : ℕ) → i < count → ReadsSoundly (part_of T i)
    (read coding (inner_path path T i) (part_of T i))) →
    (more i : ℕ) → more ≡ count - i → ReadsSoundly T
    (parts_from (part_at coding path T count) more i)
parts_keep coding path T count kind each zero i is at s = refl
parts_keep coding path T count kind each (suc more) i is at s =
    let below : i < count = omega arith in
    sound_followed T _ _ (parts_from (part_at coding path T count) more (suc i))
    (sound_part T _ i count _ kind below (each i below at s))
    (parts_keep coding path T count kind each more (suc i) (omega arith))

headed_keeps : (coding : Coding) (path : List PathSegment) (T : Ty) → HasLeadingNumber T →
    0 < leading_width T →
    ((n : ℕ) → ReadsSoundly T (after_number coding path T n)) →
    ReadsSoundly T (λ at s. read_after_leading_number coding path T
    (number coding.phase (leading_width T) at s))
headed_keeps coding path T kind pos keeps at s = search (
  arith,
  number_takes,
  read_after_leading_number,
)

pub last_piece_sound : (T : Ty) (path : List PathSegment) (total offset end : ℕ) → HasContent T →
    total - offset ≤ 32 → offset ≤ total → (g : Block) →
    BlockFits (total - offset + terminator_size T) end g →
    IsSoundReading T end (last_piece T path total offset g)
last_piece_sound T path total offset end kind small ahead (Partial piece at) h = search (arith)
last_piece_sound T path total offset end kind small ahead (Complete xs at rest) h = search (
  arith,
  sound_unless,
)

pub full_piece_sound : (T : Ty) (path : List PathSegment) (total offset end : ℕ) → HasContent T →
    32 < total - offset → (next : ℕ → List ℕ → Read) → ReadsSoundly T next → (g : Block) →
    BlockFits 32 end g → IsSoundReading T end (full_piece T path total offset next g)
full_piece_sound T path total offset end kind large next keeps (Partial piece at) h = search (arith)
full_piece_sound T path total offset end kind large next keeps (Complete xs at rest) h = search
    (arith, sound_front)

pub content_keeps : (T : Ty) (path : List PathSegment) (total : ℕ) → HasContent T →
    (full offset : ℕ) →
    full ≡ full_pieces (total - offset) → offset ≤ total →
    ReadsSoundly T (content T path total full offset)
content_keeps T path total kind zero offset is ahead at s = search (
  arith,
  last_piece_sound,
  block_takes,
)
content_keeps T path total kind (suc full) offset is ahead at s =
    full_piece_sound T path total offset (at + length s) kind (omega arith)
    (content T path total full (offset + 32))
    (content_keeps T path total kind full (offset + 32) (omega arith) (omega arith)) (block 32 at s)
    (block_takes 32 at s)

text_keeps : (path : List PathSegment) (bound : Option ℕ) (n : ℕ) →
    ReadsSoundly (Text bound) (text bound path n)
text_keeps path bound zero at s = refl
text_keeps path bound (suc n) at s = search (arith, sound_unless, content_keeps)

octets_keeps : (path : List PathSegment) (kind : OctetKind) (n : ℕ) →
    ReadsSoundly (Octets kind) (octets kind path n)
octets_keeps path kind n at s = search (arith, sound_unless, content_keeps)

single_keeps : (T : Ty) (path : List PathSegment) (scalar : Scalar) (n : ℕ) →
    ReadsSoundly T (read_single path scalar n)
single_keeps T path scalar n at s = search (arith, sound_unless)

selected_keeps : (coding : Coding) (path : List PathSegment) (T : Ty) (selected : Selected) →
    ((i : ℕ) → selected ≡ Case i → HasCase T i) →
    ((i : ℕ) → HasCase T i → ReadsSoundly (part_of T i)
    (read coding (inner_path path T i) (part_of T i)))
    → ReadsSoundly T (selected_case selected (λ i at s. within (Member T i)
    (read coding (inner_path path T i) (part_of T i) at s)))
selected_keeps coding path T (Case i) kind each at s = search (arith, sound_member)
selected_keeps coding path T _ kind each at s = refl

-- the elements of a sequence, after their count, if the reading of each element keeps what fits
pub elements_keep : (coding : Coding) (path : List PathSegment) (bound : Option ℕ) (T : Ty)
    (n : ℕ) →
    ((i : ℕ) → ReadsSoundly T (read coding (path ++ Index i ∷ []) T)) →
    ReadsSoundly (Sequence bound T) (after_number coding path (Sequence bound T) n)
elements_keep coding path bound T n each at s = search (
  arith,
  sound_unless,
  sound_front,
  parts_keep,
)

-- the same for elements that may have no room; if they have room, the reading of each keeps what
-- fits
pub recursion_keeps : (coding : Coding) (path : List PathSegment) (bound : Option ℕ) (fits : Bool)
    (T : Ty) (n : ℕ) →
    (fits ≡ true → (i : ℕ) → ReadsSoundly T (read coding (path ++ Index i ∷ []) T)) →
    ReadsSoundly (Recursive bound fits T) (after_number coding path (Recursive bound fits T) n)
recursion_keeps coding path bound true T n each at s =
    let all : (i : ℕ) → ReadsSoundly T (read coding (path ++ Index i ∷ []) T) = each refl in
    search (arith, sound_unless, sound_front, parts_keep)
recursion_keeps coding path bound false T zero each at s = search (arith, sound_unless)
recursion_keeps coding path bound false T (suc n) each at s = search (arith, sound_unless)

pub cases_keep : (coding : Coding) (path : List PathSegment) (choice : Choice) (scalar : Scalar)
    (select : ℕ → Selected) (names : ℕ → List ℕ) (cases : ℕ → Ty) (n : ℕ) →
    SelectsBelow (case_count choice) select →
    ((i : ℕ) → i < case_count choice → ReadsSoundly (cases i)
    (read coding (path ++ Name (names i) ∷ [])
    (cases i))) → ReadsSoundly (Union choice scalar select names cases)
    (after_number coding path (Union choice scalar select names cases) n)
cases_keep coding path choice scalar select names cases n below each at s = search (
  arith,
  sound_unless,
  sound_front,
  selected_keeps,
)

-- ---- encapsulations

rest_keeps : (T : Ty) (path : List PathSegment) (n : ℕ) → HasContent T →
    ReadsSoundly T (encapsulation_rest path T n)
rest_keeps T path zero kind at s = refl
rest_keeps T path (suc n) kind at s = search (arith, content_keeps)

encapsulation_content : (T : Ty) → IsEncapsulation T → HasContent T
encapsulation_content (Encapsulation T) h = tt
encapsulation_content T h = absurd h

-- if octets of no type come, the octets that are left end at `here`
abbrev pub LeftEndsAt : (here : ℕ) (left : ℕ → List ℕ) (r : Read) → Type 0
LeftEndsAt here left (Fault lines at kinds.Untyped S) = at + length (left at) ≡ here
LeftEndsAt here left r = Unit {0}

pub ends_leave : (m : ℕ) (s : List ℕ) (r : Read) → enclosing.EndsBetween m (m + length s) r →
    LeftEndsAt (m + length s) (left_after m s) r
ends_leave m s (Fault lines at kinds.Untyped S) h =
    omega (arith, h.0, h.1, length-drop (at - m) s)
ends_leave m s (Fault lines at kind S) h = tt
ends_leave m s (Done lines at rest) h = tt
ends_leave m s (Short lines at outer leaf) h = tt

pub now_leaves : (n : ℕ) (r : Read) → IsOctetResult n r → LeftEndsAt n none_left r
now_leaves n (Fault lines at kinds.Untyped S) h = omega (arith, h.1)
now_leaves n (Fault lines at kind S) h = tt
now_leaves n (Done lines at rest) h = tt
now_leaves n (Short lines at outer leaf) h = tt

-- A value in an encapsulation that was read up to `here`, and the octets after it. While the
-- encapsulation goes on, there are no octets after it.
pub sound_enclosed : (T : Ty) (path : List PathSegment) (inner : Coding) (end here : ℕ)
    (left : ℕ → List ℕ) →
    IsEncapsulation T → CodingHasBegun inner here → (r : Read) (more : List ℕ) →
    IsSoundReading (part_of T 0) here r → (here < end → more ≡ []) → LeftEndsAt here left r →
    IsSoundReading T (here + length more) (enclosed path T inner end left r more)
sound_enclosed T path inner end here left kind began (Done lines at rest) more h none leaves =
    let e : at + length (rest ++ more) ≡ here + length more =
    omega (arith, h, length-append rest more) in
    sound_front T _ lines _
    (subst (λ n. IsSoundReading T n (encapsulation_rest path T (end - at) at (rest ++ more))) e
    (rest_keeps T path (end - at) (encapsulation_content T kind) at (rest ++ more)))
sound_enclosed T path inner end here left kind began (Short lines at outer leaf) more h none leaves
    =
    go (cases_lt at end)
  where
    go : (at < end) ⊎ (end ≤ at) → IsSoundReading T (here + length more)
        (enclosed path T inner end left (Short lines at outer leaf) more)
    go (inl k) =
        let below : here < end = omega (arith, h.0, k) in
        let e : here ≡ here + length more = rw (none below) (sym (add-zero here)) in
        subst (λ n. IsSoundReading T n (enclosed path T inner end left (Short lines at outer leaf)
        more)) e (rw (lt-ltb at end k) (
          h.0,
          (record { same = refl; kind = kind }, h.1),
          ((below, began), h.2),
        ))
    go (inr k) = rw le-ltb tt
sound_enclosed T path inner end here left kind began (Fault lines at kinds.Untyped S) more h none
    leaves =
    let e : at + length (left at ++ more) ≡ here + length more =
    omega (arith, leaves, length-append (left at) more) in
    sound_front T _ lines _
    (subst (λ n. IsSoundReading T n (encapsulation_rest path T (end - at) at (left at ++ more))) e
    (rest_keeps T path (end - at) (encapsulation_content T kind) at (left at ++ more)))
sound_enclosed T path inner end here left kind began (Fault lines at why S) more h none leaves = tt

pub begun_later : (coding : Coding) (at later : ℕ) → at ≤ later → CodingHasBegun coding at →
    CodingHasBegun coding later
begun_later coding at later h began here k = began here (omega (arith, h, k))

inside_sound : (T : Ty) (path : List PathSegment) (value : Coding → ℕ → List ℕ → Read)
    (inner : Coding)
    (n at : ℕ) (s : List ℕ) → IsEncapsulation T → CodingHasBegun inner at →
    ReadsSoundly (part_of T 0) (value inner) →
    ((t : List ℕ) → enclosing.EndsBetween at (at + length t) (value inner at t)) →
    IsSoundReading T (at + length s) (inside path T value inner n at s)
inside_sound T path value inner n at s kind began keeps ends = go (cases_lt (length s) n)
  where
    go : (length s < n) ⊎ (n ≤ length s) →
        IsSoundReading T (at + length s) (inside path T value inner n at s)
    go (inl h) =
        let k : length s ≤ n = omega arith in
        rw (take_all n s k, drop_all n s k) (subst
        (λ m. IsSoundReading T m (enclosed path T inner (at + n) (left_after at s)
        (value inner at s) [])) (add-zero (at + length s))
        (sound_enclosed T path inner (at + n) (at + length s) (left_after at s) kind
        (begun_later inner at (at + length s) (omega arith) began) (value inner at s) []
        (keeps at s) (λ _. refl)
        (ends_leave at s (value inner at s) (ends s))))
    go (inr h) =
        let l : length (take n s) ≡ n = length-take-le n s h in
        let e : (at + length (take n s)) + length (drop n s) ≡ at + length s =
        omega (arith, l, length-drop n s) in
        subst (λ m. IsSoundReading T m (inside path T value inner n at s)) e
        (sound_enclosed T path inner (at + n) (at + length (take n s)) (left_after at (take n s))
        kind (begun_later inner at (at + length (take n s)) (omega arith) began)
        (value inner at (take n s)) (drop n s) (keeps at (take n s))
        (λ below. absurd (omega (arith, l, below)))
        (ends_leave at (take n s) (value inner at (take n s)) (ends (take n s))))

-- the value in an encapsulation keeps what fits, in each byte order and from each origin
abbrev pub EncapsulatedReadsSoundly : (T : Ty) (path : List PathSegment) → Type 0
EncapsulatedReadsSoundly T path = (inner : Coding) →
    ReadsSoundly (part_of T 0) (encapsulated_value path T inner)

pub ordered_sound : (T : Ty) (path : List PathSegment) (origin n : ℕ) (order : Option Order)
    (at : ℕ)
    (s : List ℕ) → IsEncapsulation T → origin < at → EncapsulatedReadsSoundly T path →
    IsSoundReading T (at + length s) (after_order_octet path T (encapsulated_value path T) origin n
    order at s)
ordered_sound T path origin n None at s kind began keeps = tt
ordered_sound T path origin n (Some order) at s kind began keeps =
    let begun : CodingHasBegun (coding_from order origin) at = λ here h. omega (arith, began, h) in
    search (arith, sound_front, inside_sound, read_ends, begun)

sized_keeps : (T : Ty) (path : List PathSegment) (n : ℕ) → IsEncapsulation T →
    EncapsulatedReadsSoundly T path →
    ReadsSoundly T (after_encapsulation_size path T (encapsulated_value path T) n)
sized_keeps T path zero kind keeps at s = tt
sized_keeps T path (suc n) kind keeps at [] = search (arith, block_waits, lit<)
sized_keeps T path (suc n) kind keeps at (x ∷ s) =
    let e : (at + 1) + length s ≡ at + suc (length s) = omega arith in
    rw (block_got 1 at (x ∷ s) (omega arith))
    (subst (λ m. IsSoundReading T m (after_order_octet path T (encapsulated_value path T) at n
    (order_of x)
    (at + 1) s)) e (ordered_sound T path at n (order_of x) (at + 1) s kind (omega arith) keeps))

size_keeps : (coding : Coding) (path : List PathSegment) (T : Ty) (n : ℕ) →
    EncapsulatedReadsSoundly (Encapsulation T) path →
    ReadsSoundly (Encapsulation T) (after_number coding path (Encapsulation T) n)
size_keeps coding path T n keeps at s = search (arith, sound_front, sized_keeps)

-- ---- a part that tells what follows it

pub sound_led : (coding : Coding) (path : List PathSegment) (T : Ty) (told : InferredType) (end : ℕ)
    (r : Read) → IsLed T → ((i : ℕ) → HasCase T (suc i) → ReadsSoundly (part_of T (suc i))
    (read coding (inner_path path T (suc i)) (part_of T (suc i)))) →
    IsSoundReading (part_of T 0) end r →
    IsSoundReading T end (led T (inference_in T) told (after_told coding path T) r)
sound_led coding path (Led h F parts) told end (Done lines at rest) kind each s =
    sound_front (Led h F parts) end lines _ (subst
    (λ e. IsSoundReading (Led h F parts) e (read_sequel (Led h F parts)
    (sequel h (told_after h told lines)) (after_told coding path (Led h F parts)) at rest)) s
    (go (sequel h (told_after h told lines)) refl))
  where
    go : (what : Sequel) → sequel h (told_after h told lines) ≡ what →
        IsSoundReading (Led h F parts) (at + length rest) (read_sequel (Led h F parts) what
        (after_told coding path (Led h F parts)) at rest)
    go (Then i) e = sound_member (Led h F parts) (at + length rest) (suc i) _
        (told_after h told lines, e) (each i (told_after h told lines, e) at rest)
    go Ends e = refl
    go Stops e = tt
sound_led coding path (Led h F parts) told end (Short lines at outer leaf) kind each s =
    (s.0, (record { same = refl; kind = tt }, s.1), (tt, s.2))
sound_led coding path (Led h F parts) told end (Fault lines at why S) kind each s = tt
sound_led coding path T told end r kind each s = absurd kind

pub read_keeps : (d : ℕ) (coding : Coding) (path : List PathSegment) (T : Ty) → IsFit d T →
    ReadsSoundly T (read coding path T)
unfolding IsFit
read_keeps zero coding path T fit = absurd fit
read_keeps (suc d) coding path (Single scalar) fit =
    headed_keeps coding path (Single scalar) tt (width_pos scalar)
    (λ n. single_keeps (Single scalar) path scalar n)
read_keeps (suc d) coding path (Text bound) fit =
    headed_keeps coding path (Text bound) tt (lit< tt) (λ n. text_keeps path bound n)
read_keeps (suc d) coding path (Octets kind) fit =
    headed_keeps coding path (Octets kind) tt (size_pos kind) (λ n. octets_keeps path kind n)
read_keeps (suc d) coding path (Struct count names parts) fit =
    parts_keep coding path (Struct count names parts) count refl
    (λ i below. read_keeps d coding (path ++ Name (names i) ∷ []) (parts i) (fit.1 i below))
    count
    0 (omega arith)
read_keeps (suc d) coding path (Array count T) fit =
    parts_keep coding path (Array count T) count refl
    (λ i below. read_keeps d coding (path ++ Index i ∷ []) T fit.1) count 0 (omega arith)
read_keeps (suc d) coding path (Sequence bound T) fit =
    headed_keeps coding path (Sequence bound T) tt (lit< tt)
    (λ n. elements_keep coding path bound T n
    (λ i. read_keeps d coding (path ++ Index i ∷ []) T fit))
read_keeps (suc d) coding path (Recursive bound fits T) fit =
    headed_keeps coding path (Recursive bound fits T) tt (lit< tt)
    (λ n. recursion_keeps coding path bound fits T n
    (λ is i. read_keeps d coding (path ++ Index i ∷ []) T (fit is)))
read_keeps (suc d) coding path (Union choice scalar select names cases) fit =
    headed_keeps coding path (Union choice scalar select names cases) tt (width_pos scalar) (λ n.
    cases_keep coding path choice scalar select names cases n fit.0
    (λ i below. read_keeps d coding (path ++ Name (names i) ∷ []) (cases i) (fit.1 i below)))
read_keeps (suc d) coding path (Encapsulation T) fit =
    headed_keeps coding path (Encapsulation T) tt (lit< tt)
    (λ n. size_keeps coding path T n (λ inner. read_keeps d inner (path ++ Held ∷ []) T fit))
read_keeps (suc d) coding path (Led h F parts) fit = λ at s.
    sound_led coding path (Led h F parts) Untold (at + length s)
    (read coding (path ++ led_segment 0 ∷ []) F at s) tt
    (λ i case. read_keeps d coding (path ++ led_segment (suc i) ∷ []) (parts i)
    (fit.1 case.0 i case.1))
    (read_keeps d coding (path ++ led_segment 0 ∷ []) F fit.0 at s)

pub after_keeps : (d : ℕ) (coding : Coding) (path : List PathSegment) (T : Ty) (n : ℕ) → IsFit d T →
    ReadsSoundly T (after_number coding path T n)
unfolding IsFit
after_keeps zero coding path T n fit = absurd fit
after_keeps (suc d) coding path (Single scalar) n fit = search (arith, single_keeps)
after_keeps (suc d) coding path (Text bound) n fit = text_keeps path bound n
after_keeps (suc d) coding path (Octets kind) n fit = octets_keeps path kind n
after_keeps (suc d) coding path (Sequence bound T) n fit = search (arith, elements_keep, read_keeps)
after_keeps (suc d) coding path (Recursive bound fits T) n fit =
    recursion_keeps coding path bound fits T n
    (λ is i. read_keeps d coding (path ++ Index i ∷ []) T (fit is))
after_keeps (suc d) coding path (Union choice scalar select names cases) n fit = search (
  arith,
  cases_keep,
  read_keeps,
)
after_keeps (suc d) coding path (Encapsulation T) n fit =
    size_keeps coding path T n (λ inner. read_keeps d inner (path ++ Held ∷ []) T fit)
after_keeps (suc d) coding path T n fit = λ at s. refl
