-- The lines of a reading that are pieces of strings: those of whole contents, one after the other,
-- and those of a content that has begun.
use Rattle.std.proofs.Common.{◌≡◌, ℕ, zero, suc, ◌+◌, ◌-◌, ◌*◌, ◌<◌, ◌≤◌, Bool, true, List, [], ◌∷◌, ◌++◌, length, take, drop, get_or, Option, Some, None, refl, sym, ◌∙◌, ap, append_assoc, append-nil, length-append, true≢false, arith, ◌⊎◌, inl, inr, cond, false}
use Rattle.std.specs.Prelude.{flat_map, eqb, IfSome}
use Rattle.std.specs.List.{AllByRecursion as Each}
use Rattle.std.proofs.lemmas.Bool.{cases_lt}
use Rattle.std.proofs.lemmas.Grind.{flat_map-append}
use Rattle.std.proofs.lemmas.List.{length-take-le, take_at}
use Rattle.std.proofs.lemmas.List.Elements.{filter_map-append}
use Rattle.std.proofs.Math.Seq.{drop-append_seam}
use Rattle.giop_cdr.specs.Numbers.{num}
use Rattle.giop_cdr.specs.declared.order.Order.{Order}
use Rattle.giop_decode.specs.ReadingSteps.{BreaksRule}
use Rattle.giop_decode.specs.Noted.{ends_in_string}
use Rattle.giop_decode.specs.NotedFromLines.{piece, text_of, text_pieces, pieces_from, pieces_of, Strings}
use Rattle.giop_decode.specs.Pieces.{Complete, Block, Partial, block, content, string_end_fault, full_piece, full_pieces, last_piece, octets, bound_fault, text, fault_or}
use Rattle.giop_decode.specs.Reading.{enclosed, after_leading_number, inside, selected_case, from_order_octet, after_order_octet, parts_from, read, disposition_fault, encapsulation_rest, read_single, after_encapsulation_size, number_fault, read_sequel, led, led_segment, recursive_elements}
use Rattle.giop_decode.specs.ReadResult.{Coding, Count, Done, Fault, Held, Index, ValueAt, Member, Name, Number, Part, Piece, OpenPart, Read, PathSegment, Short, Size, Switch, read_then, line, with_front, within, lines_of}
use Rattle.giop_decode.specs.declared.progress.ValueFault.TheVariants as kinds
use Rattle.giop_decode.specs.declared.progress.ValueFault.{ValueFault}
use Rattle.giop_sig.specs.Types.{discriminator_name, Array, Encapsulation, OctetKind, Octets, bound_of, Scalar, Sequence, Single, Struct, Text, Ty, Union, Led, TypeInference, InferredType, Untold, Sequel, Then, Ends, Stops, Recursive}
use Rattle.giop_sig.specs.declared.types.Selected.{Selected}
use Rattle.giop_sig.specs.declared.types.Selected.TheVariants.{Case}
use Rattle.giop_decode.proofs.Noting.{cut_inside, front_inside}
use Rattle.giop_decode.proofs.Law.{block_got, block_waits}
use Rattle.giop_decode.proofs.Resuming.{lines_front}

texts_append : (xs ys : List ValueAt) → text_pieces (xs ++ ys) ≡ text_pieces xs ++ text_pieces ys
texts_append xs ys = search (arith, filter_map-append)

-- a reading without pieces of strings
no_strings : (r : Read) → text_pieces (lines_of r) ≡ [] → Strings r
no_strings r e = search (arith)

whole_then : (front : List ValueAt) (contents : List (List ℕ)) (r : Read) →
    text_pieces front ≡ flat_map pieces_of contents → Strings r → Strings (with_front front r)
whole_then front contents r e h = record {
  contents = contents ++ h.contents;
  begun = h.begun;
  lines = rw (
    lines_front front r,
    texts_append front (lines_of r),
    e,
    h.lines,
    flat_map-append,
    append_assoc,
  ) refl;
  unended = h.unended;
  none = λ k. h.none (sym (front_inside front r) ∙ k);
}

-- lines before a reading, none of which is a piece of a string
then_strings : (front : List ValueAt) (r : Read) → text_pieces front ≡ [] → Strings r →
    Strings (with_front front r)
then_strings front r e h = whole_then front [] r e h

followed_strings : (r : Read) (next : ℕ → List ℕ → Read) → Strings r →
    ((at : ℕ) (s : List ℕ) → Strings (next at s)) → Strings (read_then r next)
followed_strings (Done lines at rest) next h k = search (arith, whole_then, append-nil)
followed_strings _ next h k = h

within_strings : (place : OpenPart) (r : Read) → Strings r → Strings (within place r)
within_strings place (Short lines at outer leaf) h = search (arith)
within_strings place r h = h

unless_strings : (T : Ty) (why : Option ValueFault) (at : ℕ) (r : Read) → Strings r →
    Strings (fault_or T why at r)
unless_strings T None at r h = h
unless_strings T (Some kinds.Untyped) at r h = no_strings (Fault [] at kinds.Untyped T) refl
unless_strings T (Some kind) at r h = search (arith, no_strings)

headed_strings : (T : Ty) (after : List ℕ → ℕ → List ℕ → Read) →
    ((xs : List ℕ) (at : ℕ) (s : List ℕ) → Strings (after xs at s)) → (g : Block) →
    Strings (after_leading_number T after g)
headed_strings T after h (Partial carry at) = search (arith, no_strings)
headed_strings T after h (Complete xs at rest) = h xs at rest

parts_strings : (part : ℕ → ℕ → List ℕ → Read) → ((i at : ℕ) (s : List ℕ) → Strings (part i at s)) →
    (more i at : ℕ) (s : List ℕ) → Strings (parts_from part more i at s)
parts_strings part h zero i at s = search (arith, no_strings)
parts_strings part h (suc more) i at s =
    followed_strings (part i at s) (parts_from part more (suc i)) (h i at s)
    (parts_strings part h more (suc i))

-- ---- one string

-- A content that is read from an offset on: it is whole, or it has begun and not ended.
abbrev Comes : (total full offset : ℕ) (r : Read) → Type 0
Comes total full offset r =
    ((octets : List ℕ) × (offset + length octets ≡ total)
    × (text_pieces (lines_of r) ≡ pieces_from full offset octets))
    ⊎ ((ends_in_string r ≡ true) × Each (λ p. p.more ≡ true) (text_pieces (lines_of r)))

-- the end of a string breaks a rule, or it breaks none
ends_rule : (bound : Option ℕ) (n : ℕ) (octets : List ℕ) →
    IfSome (string_end_fault (Text bound) n octets) BreaksRule
ends_rule bound n octets = go (eqb (get_or octets n 0) 0)
  where
    go : (test : Bool) → IfSome (cond test None (Some kinds.StringEnd)) BreaksRule
    go true = tt
    go false = tt

last_comes : (bound : Option ℕ) (path : List PathSegment) (total offset at : ℕ) (s : List ℕ) →
    offset ≤ total → Comes total 0 offset (last_piece (Text bound) path total offset
    (block (total - offset + 1) at s))
last_comes bound path total offset at s ahead = search (
  arith,
  cases_lt,
  take,
  length-take-le,
  block_waits,
  block_got,
  drop,
  ends_rule,
)

cut_more : (full offset : ℕ) (xs ys : List ℕ) → length xs ≡ 32 →
    piece offset xs true ∷ pieces_from full (offset + 32) ys
    ≡ pieces_from (suc full) offset (xs ++ ys)
cut_more full offset xs ys h =
    let front : take 32 (xs ++ ys) ≡ xs = take_at xs ys 32 h in
    let behind : drop 32 (xs ++ ys) ≡ ys =
    ap (λ n. drop n (xs ++ ys)) (sym h) ∙ drop-append_seam xs ys in
    rw (front, behind) refl

full_comes : (bound : Option ℕ) (path : List PathSegment) (total full offset : ℕ)
    (next : ℕ → List ℕ → Read)
    (xs rest : List ℕ) (at : ℕ) → length xs ≡ 32 → Comes total full (offset + 32) (next at rest) →
    Comes total (suc full) offset (with_front (line at path
    (Piece (Text bound) offset xs true) ∷ []) (next at rest))
full_comes bound path total full offset next xs rest at h (inl (ys, len, is)) =
    let front : List ValueAt = line at path (Piece (Text bound) offset xs true) ∷ [] in
    let long : offset + length (xs ++ ys) ≡ total = omega (arith, length-append {A = ℕ}) in
    inl (xs ++ ys, long, rw (lines_front front (next at rest), is) (cut_more full offset xs ys h))
full_comes bound path total full offset next xs rest at h (inr (inside, each)) = search (
  arith,
  front_inside,
  lines_front,
)

content_comes : (bound : Option ℕ) (path : List PathSegment) (total full offset at : ℕ)
    (s : List ℕ) →
    offset + 32 * full ≤ total → Comes total full offset (content (Text bound) path total full
    offset at s)
content_comes bound path total zero offset at s ahead = search (arith, last_comes)
content_comes bound path total (suc full) offset at s ahead =
    go (cases_lt (length s) 32) (content_comes bound path total full (offset + 32) (at + 32)
    (drop 32 s) (omega arith))
  where
    next : ℕ → List ℕ → Read
    next = content (Text bound) path total full (offset + 32)

    go : (length s < 32) ⊎ (32 ≤ length s) →
        Comes total full (offset + 32) (next (at + 32) (drop 32 s)) →
        Comes total (suc full) offset (full_piece (Text bound) path total offset next
        (block 32 at s))
    go (inl h) k = search (arith, block_waits)
    go (inr h) k = rw (block_got 32 at s h)
        (full_comes bound path total full offset next (take 32 s) (drop 32 s) (at + 32)
        (length-take-le 32 s h) k)

comes_strings : (total : ℕ) (r : Read) → Comes total (full_pieces total) 0 r → Strings r
comes_strings total r (inl (octets, len, is)) = record {
  contents = octets ∷ [];
  begun = [];
  lines = let e : length octets ≡ total = omega arith in is ∙ rw (e, append-nil, append-nil) refl;
  unended = tt;
  none = λ _. refl;
}
comes_strings total r (inr (inside, each)) = search (arith, true≢false)

text_strings : (bound : Option ℕ) (path : List PathSegment) (n at : ℕ) (s : List ℕ) →
    Strings (text bound path n at s)
text_strings bound path zero at s = record {
  contents = [] ∷ [];
  begun = [];
  lines = refl;
  unended =
      tt;
  none = λ _. refl;
}
text_strings bound path (suc n) at s =
    unless_strings (Text bound) (bound_fault bound n) at _
    (comes_strings n (content (Text bound) path n (full_pieces n) 0 at s)
    (content_comes bound path n (full_pieces n) 0 at s (omega arith)))

-- ---- octets are no string

-- pieces of a type that is no string, and whose end breaks no rule
module _ (T : Ty) (none : (offset : ℕ) (octets : List ℕ) (more : Bool) →
    text_of (Piece T offset octets more) ≡ None)
    (endless : (n : ℕ) (xs : List ℕ) → string_end_fault T n xs ≡ None) where
  bare_last : (path : List PathSegment) (total offset : ℕ) (g : Block) →
      text_pieces (lines_of (last_piece T path total offset g)) ≡ []
  bare_last path total offset (Partial held at) = refl
  bare_last path total offset (Complete xs at rest) = search (arith, take)

  bare_full : (path : List PathSegment) (total offset : ℕ) (next : ℕ → List ℕ → Read) (g : Block) →
      ((at : ℕ) (s : List ℕ) → text_pieces (lines_of (next at s)) ≡ []) →
      text_pieces (lines_of (full_piece T path total offset next g)) ≡ []
  bare_full path total offset next (Partial held at) h = refl
  bare_full path total offset next (Complete xs at rest) h = search (arith, lines_front)

  bare_none : (path : List PathSegment) (total full offset at : ℕ) (s : List ℕ) →
      text_pieces (lines_of (content T path total full offset at s)) ≡ []
  bare_none path total zero offset at s = search (arith, bare_last)
  bare_none path total (suc full) offset at s =
      bare_full path total offset (content T path total full (offset + 32)) (block 32 at s)
      (bare_none path total full (offset + 32))

octets_strings : (kind : OctetKind) (path : List PathSegment) (n at : ℕ) (s : List ℕ) →
    Strings (octets kind path n at s)
octets_strings kind path n at s =
    unless_strings (Octets kind) (bound_fault (bound_of kind) n) at _
    (no_strings _ (bare_none (Octets kind) (λ offset octets more. refl) (λ n xs. refl) path n
    (full_pieces n)
    0 at s))

-- ---- any type

single_strings : (path : List PathSegment) (scalar : Scalar) (n at : ℕ) (s : List ℕ) →
    Strings (read_single path scalar n at s)
single_strings path scalar n at s = search (arith, unless_strings, no_strings)

member_strings : (selected : Selected) (case : ℕ → ℕ → List ℕ → Read) →
    ((i at : ℕ) (s : List ℕ) → Strings (case i at s)) → (at : ℕ) (s : List ℕ) →
    Strings (selected_case selected case at s)
member_strings (Case i) case h at s = h i at s
member_strings _ case h at s = search (arith, no_strings)

-- ---- encapsulations

module _ (path : List PathSegment) (T : Ty) where
  rest_strings : (n at : ℕ) (s : List ℕ) → Strings
      (encapsulation_rest path (Encapsulation T) n at s)
  rest_strings zero at s = search (arith, no_strings)
  rest_strings (suc n) at s = search (arith, no_strings, bare_none)

  enclosed_strings : (coding : Coding) (end : ℕ) (left : ℕ → List ℕ) (r : Read) (more : List ℕ) →
      Strings r →
      Strings (enclosed path (Encapsulation T) coding end left r more)
  enclosed_strings coding end left (Done lines at rest) more h = search (
    arith,
    whole_then,
    append-nil,
    rest_strings,
  )
  enclosed_strings coding end left (Short lines at outer leaf) more h = search (arith, cut_inside)
  enclosed_strings coding end left (Fault lines at kinds.Untyped S) more h = search (
    arith,
    whole_then,
    append-nil,
    rest_strings,
  )
  enclosed_strings coding end left (Fault lines at kind S) more h = h

module _ (path : List PathSegment) (T : Ty) (value : Coding → ℕ → List ℕ → Read)
    (strings : (coding : Coding) (at : ℕ) (s : List ℕ) → Strings (value coding at s)) where
  ordered_strings : (origin n : ℕ) (order : Option Order) (at : ℕ) (rest : List ℕ) →
      Strings (after_order_octet path (Encapsulation T) value origin n order at rest)
  ordered_strings origin n None at rest = search (arith, no_strings)
  ordered_strings origin n (Some order) at rest = search (
    arith,
    then_strings,
    enclosed_strings,
    drop,
    take,
  )

  opening_strings : (origin n : ℕ) (g : Block) →
      Strings (from_order_octet path (Encapsulation T) value origin n g)
  opening_strings origin n (Partial none at) = search (arith, no_strings)
  opening_strings origin n (Complete octets at rest) = search (arith, ordered_strings, get_or)

  sized_strings : (n at : ℕ) (s : List ℕ) → Strings
      (after_encapsulation_size path (Encapsulation T) value n at s)
  sized_strings zero at s = search (arith, no_strings)
  sized_strings (suc n) at s = search (arith, opening_strings)

-- ---- a part that tells what follows it

following_strings : (T : Ty) (what : Sequel) (part : ℕ → ℕ → List ℕ → Read) →
    ((i at : ℕ) (s : List ℕ) → Strings (part i at s)) → (at : ℕ) (s : List ℕ) →
    Strings (read_sequel T what part at s)
following_strings T (Then i) part h at s = h i at s
following_strings T Ends part h at s = no_strings (Done [] at s) refl
following_strings T Stops part h at s = no_strings (Fault [] at kinds.Untyped T) refl

led_strings : (T : Ty) (h : TypeInference) (told : InferredType) (part : ℕ → ℕ → List ℕ → Read)
    (r : Read) →
    ((i at : ℕ) (s : List ℕ) → Strings (part i at s)) → Strings r → Strings (led T h told part r)
led_strings T h told part (Done lines at rest) each k = search (
  arith,
  whole_then,
  append-nil,
  following_strings,
)
led_strings T h told part (Short lines at outer leaf) each k = search (arith)
led_strings T h told part (Fault lines at kind S) each k = k

-- ---- elements of a type that was announced

elements_strings : (T : Ty) (fits : Bool) (n : ℕ) (parts : ℕ → List ℕ → Read) →
    ((at : ℕ) (s : List ℕ) → Strings (parts at s)) → (at : ℕ) (s : List ℕ) →
    Strings (recursive_elements T fits n parts at s)
elements_strings T true n parts h at s = h at s
elements_strings T false zero parts h at s = no_strings (Done [] at s) refl
elements_strings T false (suc n) parts h at s = no_strings (Fault [] at kinds.Untyped T) refl

-- The pieces of strings in any reading.
pub read_strings : (coding : Coding) (path : List PathSegment) (T : Ty) (at : ℕ) (s : List ℕ) →
    Strings (read coding path T at s)
read_strings coding path (Single scalar) at s =
    headed_strings (Single scalar) _ (λ xs at rest.
    single_strings path scalar (num coding.order xs) at rest) _
read_strings coding path (Text bound) at s =
    headed_strings (Text bound) _ (λ xs at rest.
    text_strings bound path (num coding.order xs) at rest) _
read_strings coding path (Octets kind) at s =
    headed_strings (Octets kind) _ (λ xs at rest.
    octets_strings kind path (num coding.order xs) at rest) _
read_strings coding path (Struct count names parts) at s =
    parts_strings _ (λ i at s. within_strings (Part (Struct count names parts) i count) _
    (read_strings coding (path ++ Name (names i) ∷ []) (parts i) at s)) count 0 at s
read_strings coding path (Array count T) at s =
    parts_strings _ (λ i at s. within_strings (Part (Array count T) i count) _
    (read_strings coding (path ++ Index i ∷ []) T at s)) count 0 at s
read_strings coding path (Sequence bound T) at s =
    headed_strings (Sequence bound T) _ (λ xs at rest.
    let n = num coding.order xs in
    unless_strings (Sequence bound T) (bound_fault bound n) at _
    (then_strings (line at path (Count n) ∷ []) _ refl
    (parts_strings _ (λ i at s. within_strings (Part (Sequence bound T) i n) _
    (read_strings coding (path ++ Index i ∷ []) T at s)) n 0 at rest))) _
read_strings coding path (Recursive bound fits T) at s =
    headed_strings (Recursive bound fits T) _ (λ xs at rest.
    let n = num coding.order xs in
    unless_strings (Recursive bound fits T) (bound_fault bound n) at _
    (then_strings (line at path (Count n) ∷ []) _ refl
    (elements_strings (Recursive bound fits T) fits n _ (λ at s.
    parts_strings _ (λ i at s. within_strings (Part (Recursive bound fits T) i n) _
    (read_strings coding (path ++ Index i ∷ []) T at s)) n 0 at s) at rest))) _
read_strings coding path (Union choice scalar select names cases) at s =
    headed_strings (Union choice scalar select names cases) _ (λ xs at rest.
    let T = Union choice scalar select names cases in
    let n = num coding.order xs in
    let front : List ValueAt = line at (path ++ Switch
    (discriminator_name choice scalar names) ∷ [])
    (Number scalar n) ∷ [] in
    unless_strings T (number_fault scalar n) at _
    (unless_strings T (disposition_fault (select n)) at _
    (then_strings front _ refl (member_strings (select n) _ (λ i at s. within_strings (Member T i) _
    (read_strings coding (path ++ Name (names i) ∷ []) (cases i) at s)) at rest)))) _
read_strings coding path (Encapsulation T) at s =
    headed_strings (Encapsulation T) _ (λ xs at rest.
    let n = num coding.order xs in
    then_strings (line at path (Size n) ∷ []) _ refl
    (sized_strings path T _ (λ inner at s. read_strings inner (path ++ Held ∷ []) T at s) n at
    rest)) _
read_strings coding path (Led h F parts) at s =
    led_strings (Led h F parts) h Untold _ _
    (λ i at s. within_strings (Member (Led h F parts) (suc i)) _
    (read_strings coding (path ++ led_segment (suc i) ∷ []) (parts i) at s))
    (read_strings coding (path ++ led_segment 0 ∷ []) F at s)
