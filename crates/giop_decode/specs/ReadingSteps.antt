-- One more octet for the parts that a reading has begun and not ended (steps).
use Rattle.std.specs.Prelude.{◌≡◌, ℕ, suc, ◌+◌, ◌-◌, ◌%◌, cond, ltb, List, [], ◌∷◌, ◌++◌, length, map}
use Rattle.giop_cdr.specs.Alignment.{padding}
use Rattle.giop_cdr.specs.Numbers.{num}
use Rattle.giop_decode.specs.declared.progress.ValueFault.{ValueFault}
use Rattle.giop_decode.specs.declared.progress.ValueFault.TheVariants as kinds
use Rattle.giop_decode.specs.Pieces.{Complete, Block, Partial, content, full_piece, full_pieces, last_piece, octets, bound_fault, terminator_size, text, fault_or}
use Rattle.giop_decode.specs.Reading.{after_discriminator, after_leading_number, parts_from, read, read_single, recursive_elements, enclosed, from_order_octet, after_encapsulation_size, none_left, led, led_segment, done_if_untyped, told_after}
use Rattle.giop_decode.specs.ReadResult.{Coding, ValueAt, Content, Count, Done, Fault, LeadingNumber, Index, Leaf, Member, Name, Part, OpenPart, Read, PathSegment, Short, read_then, line, with_front, within, Held, Inside, Opening, Size, Telling}
use Rattle.giop_sig.specs.Hearings.{inference_in}
use Rattle.giop_sig.specs.Types.{part_of, Octets, size_width, Sequence, Single, Struct, Text, Ty, Union, width, discriminator_name, Encapsulation, Recursive, Led}

-- one more octet of `count` that are taken together, some of which are held
unfoldable pub block_step : (block_size octet_offset : ℕ) (octets_held : List ℕ) (next_octet : ℕ) →
    Block
block_step count at held octet =
    cond (ltb (length held + 1) count) (Partial (held ++ octet ∷ []) (at + 1))
    (Complete (held ++ octet ∷ []) (at + 1) [])

-- An octet whose phase isn't aligned is padding, as long as no octet is held.
unfoldable pub number_step : (phase_at_offset : ℕ → ℕ) (number_size octet_offset : ℕ)
    (number_octets_held : List ℕ) (next_octet : ℕ) → Block
number_step phase count at [] octet =
    cond (ltb 0 (padding (phase at) count)) (Partial [] (at + 1)) (block_step count at [] octet)
number_step phase count at (x ∷ carry) octet = block_step count at (x ∷ carry) octet

-- What is held after octets that come one after another and leave a number incomplete. The first of
-- them has this phase modulo 8.
abbrev pub LeavesNumberIncomplete : (width first_phase_mod_8 : ℕ)
    (value_octets_held octets value_octets_held_after : List ℕ) → Type 0
LeavesNumberIncomplete count at held [] new = new ≡ held
LeavesNumberIncomplete count at held (b ∷ more) new = (next : List ℕ)
    × ((phase : ℕ → ℕ) (here : ℕ) → phase here % 8 ≡ at →
    number_step phase count here held b ≡ Partial next (here + 1))
    × LeavesNumberIncomplete count ((at + 1) % 8) next more new

-- how many octets the number has that begins a type
abbrev pub leading_width : (T : Ty) → ℕ
leading_width (Single scalar) = width scalar
leading_width (Union choice scalar select names cases) = width scalar
leading_width (Octets kind) = size_width kind
leading_width T = 4

-- the path segment of the part at an index of a type
abbrev pub segment_of : (T : Ty) (index : ℕ) → PathSegment
segment_of (Struct count names parts) index = Name (names index)
segment_of (Union choice scalar select names cases) index = Name (names index)
segment_of (Encapsulation T) index = Held
segment_of (Led h F parts) index = led_segment index
segment_of T index = Index index

-- the path of the part at an index
abbrev pub inner_path : (path : List PathSegment) (T : Ty) (index : ℕ) → List PathSegment
inner_path path T index = path ++ segment_of T index ∷ []

-- the reading of the part at an index of a type, from an offset on
abbrev pub part_at : (coding : Coding) (path : List PathSegment) (T : Ty)
    (part_count part_index offset_of_first_octet : ℕ) (octets : List ℕ) → Read
part_at coding path T count index at octets =
    within (Part T index count)
    (read coding (path ++ segment_of T index ∷ []) (part_of T index) at octets)

-- the reading of the value in an encapsulation
abbrev pub encapsulated_value : (path : List PathSegment) (T : Ty) (coding : Coding)
    (offset_of_first_octet : ℕ) (octets : List ℕ) → Read
encapsulated_value path T coding = read coding (path ++ Held ∷ []) (part_of T 0)

-- the reading of what comes after a part that tells it, at the place after this index
abbrev pub after_told : (coding : Coding) (path : List PathSegment) (T : Ty)
    (place_before offset_of_first_octet : ℕ) (octets : List ℕ) → Read
after_told coding path T index at octets = within (Member T (suc index))
    (read coding (path ++ segment_of T (suc index) ∷ []) (part_of T (suc index)) at octets)

-- the reading of what comes after the number that begins a type
abbrev pub after_number : (coding : Coding) (path : List PathSegment) (T : Ty)
    (leading_number offset_after_number : ℕ) (octets_after_number : List ℕ) → Read
after_number coding path (Single scalar) number at rest = read_single path scalar number at rest
after_number coding path (Text bound) number at rest = text bound path number at rest
after_number coding path (Octets kind) number at rest = octets kind path number at rest
after_number coding path (Sequence bound T) number at rest =
    fault_or (Sequence bound T) (bound_fault bound number) at
    (with_front (line at path (Count number) ∷ [])
    (parts_from (part_at coding path (Sequence bound T) number) number 0 at rest))
after_number coding path (Recursive bound fits T) number at rest =
    fault_or (Recursive bound fits T) (bound_fault bound number) at
    (with_front (line at path (Count number) ∷ [])
    (recursive_elements (Recursive bound fits T) fits number
    (parts_from (part_at coding path (Recursive bound fits T) number) number 0) at rest))
after_number coding path (Union choice scalar select names cases) number at rest =
    after_discriminator path (Union choice scalar select names cases)
    (discriminator_name choice scalar names) scalar
    (select number) number
    (λ i at s. within (Member (Union choice scalar select names cases) i)
    (read coding (path ++ Name (names i) ∷ []) (cases i) at s)) at rest
after_number coding path (Encapsulation T) number at rest =
    with_front (line at path (Size number) ∷ [])
    (after_encapsulation_size path (Encapsulation T) (encapsulated_value path (Encapsulation T))
    number at rest)
after_number coding path T number at rest = Done [] at rest

-- one more octet of a content of `total` octets, whose unfinished piece begins at an offset in it
abbrev pub content_step : (T : Ty) (path : List PathSegment)
    (content_size piece_offset octet_offset : ℕ) (piece_octets_held : List ℕ) (next_octet : ℕ) →
    Read
content_step T path total offset at piece octet = cond (ltb 32 (total - offset))
    (full_piece T path total offset
    (content T path total (full_pieces (total - (offset + 32))) (offset + 32))
    (block_step 32 at piece octet))
    (last_piece T path total offset (block_step (total - offset + terminator_size T) at piece
    octet))

-- The innermost part after one more octet.
abbrev pub leaf_step : (coding : Coding) (path : List PathSegment) (leaf : Leaf)
    (octet_offset next_octet : ℕ) → Read
leaf_step coding path (LeadingNumber T carry) at octet =
    after_leading_number T (λ xs at rest. after_number coding path T (num coding.order xs) at rest)
    (number_step coding.phase (leading_width T) at carry octet)
leaf_step coding path (Opening T n) at octet =
    from_order_octet path T (encapsulated_value path T) at n (block_step 1 at [] octet)
leaf_step coding path (Content T total offset piece) at octet =
    content_step T path total offset at piece octet

-- the path segment of an open part
abbrev pub segment_in : (part : OpenPart) → PathSegment
segment_in (Part T i count) = segment_of T i
segment_in (Member T i) = segment_of T i
segment_in (Inside T inner end) = Held
segment_in (Telling T told) = segment_of T 0

-- how octets are taken within an open part
abbrev pub coding_at : (coding_around : Coding) (part : OpenPart) → Coding
coding_at coding (Inside T inner end) = inner
coding_at coding place = coding

-- the reading of an open part, from the reading so far of what is within it
abbrev pub resume_part : (coding : Coding) (path : List PathSegment) (part : OpenPart)
    (read_within_part : Read) → Read
resume_part coding path (Part T i count) r =
    read_then (within (Part T i count) r)
    (parts_from (part_at coding path T count) (count - suc i) (suc i))
resume_part coding path (Member T i) r = within (Member T i) r
resume_part coding path (Inside T inner end) r = enclosed path T inner end none_left r []
resume_part coding path (Telling T told) r =
    led T (inference_in T) told (after_told coding path T) r

-- the reading of open parts, the outermost first, from the reading so far of what is within the
-- innermost
abbrev pub resume_outer : (coding : Coding) (path : List PathSegment)
    (parts_outermost_first : List OpenPart) (read_within_innermost : Read) → Read
resume_outer coding path [] r = r
resume_outer coding path (place ∷ outer) r =
    resume_part coding path place (resume_outer (coding_at coding place)
    (path ++ segment_in place ∷ []) outer r)

-- an open part after these lines came within it
abbrev pub part_after_lines : (lines : List ValueAt) (part : OpenPart) → OpenPart
part_after_lines lines (Telling T told) = Telling T (told_after (inference_in T) told lines)
part_after_lines lines place = place

-- open parts after these lines came within them
abbrev pub parts_after_lines : (lines : List ValueAt) (parts : List OpenPart) → List OpenPart
parts_after_lines lines outer = map (part_after_lines lines) outer

-- the path within open parts
abbrev pub path_in : (path_around : List PathSegment) (parts_outermost_first : List OpenPart) →
    List PathSegment
path_in path [] = path
path_in path (place ∷ outer) = path_in (path ++ segment_in place ∷ []) outer

-- how octets are taken within open parts
abbrev pub coding_in : (coding_around : Coding) (parts_outermost_first : List OpenPart) → Coding
coding_in coding [] = coding
coding_in coding (place ∷ outer) = coding_in (coding_at coding place) outer

-- The parts that have begun, the outermost first, after one more octet.
abbrev pub step : (coding : Coding) (path : List PathSegment)
    (parts_outermost_first : List OpenPart) (leaf : Leaf) (octet_offset next_octet : ℕ) → Read
step coding path outer leaf at octet =
    resume_outer coding path outer (leaf_step (coding_in coding outer) (path_in path outer) leaf
    at octet)

-- A reading after one more octet.
abbrev pub read_after_octet : (coding : Coding) (path : List PathSegment) (read_before : Read)
    (next_octet : ℕ) → Read
read_after_octet coding path (Done lines at rest) octet = Done lines at (rest ++ octet ∷ [])
read_after_octet coding path (Short lines at outer leaf) octet =
    with_front lines (step coding path outer leaf at octet)
read_after_octet coding path (Fault lines at kind S) octet = Fault lines at kind S

-- a reading after these octets more
abbrev pub read_after_octets : (coding : Coding) (path : List PathSegment) (read_before : Read)
    (next_octets : List ℕ) → Read
read_after_octets coding path r [] = r
read_after_octets coding path r (b ∷ t) = read_after_octets coding path
    (read_after_octet coding path r b) t

-- ---- a whole value

-- The parts of a whole value that have begun, the outermost first, after one more octet.
abbrev pub root_step : (coding : Coding) (path : List PathSegment)
    (parts_outermost_first : List OpenPart) (leaf : Leaf) (octet_offset next_octet : ℕ) → Read
root_step coding path outer leaf at octet = done_if_untyped none_left
    (step coding path outer leaf at octet)

-- The reading of a whole value after one more octet.
abbrev pub root_after_octet : (coding : Coding) (path : List PathSegment) (read_before : Read)
    (next_octet : ℕ) → Read
root_after_octet coding path (Done lines at rest) octet = Done lines at (rest ++ octet ∷ [])
root_after_octet coding path (Short lines at outer leaf) octet =
    with_front lines (root_step coding path outer leaf at octet)
root_after_octet coding path (Fault lines at kind S) octet = Fault lines at kind S

-- the reading of a whole value after these octets more
abbrev pub root_after_octets : (coding : Coding) (path : List PathSegment) (read_before : Read)
    (next_octets : List ℕ) → Read
root_after_octets coding path r [] = r
root_after_octets coding path r (b ∷ t) = root_after_octets coding path
    (root_after_octet coding path r b) t

-- ---- how many lines there are

-- at most one line, which is at this offset
abbrev pub AtMostOneAt : (line_offset : ℕ) (lines : List ValueAt) → Type 0
AtMostOneAt at [] = Unit {0}
AtMostOneAt at (l ∷ []) = l.at ≡ at
AtMostOneAt at (l ∷ l' ∷ ls) = ⊥

-- a rule that an octet breaks; octets of no known type break none
abbrev pub BreaksRule : (kind : ValueFault) → Type 0
BreaksRule kinds.Untyped = ⊥
BreaksRule kind = Unit {0}

-- the lines at the octet of a fault: there are none if its value breaks a rule, but the last octet
-- of an encapsulation may have the line of what it completes
abbrev pub AreFaultLines : (fault_offset : ℕ) (fault : ValueFault) (lines : List ValueAt) → Type 0
AreFaultLines at kinds.EncapShort lines = AtMostOneAt at lines
AreFaultLines at kinds.Untyped lines = AtMostOneAt at lines
AreFaultLines at why lines = lines ≡ []

-- the reading of one octet has at most one line
abbrev pub IsOctetResult : (offset_after_octet : ℕ) (read : Read) → Type 0
IsOctetResult n (Done lines at rest) = AtMostOneAt n lines × (at ≡ n) × (rest ≡ [])
IsOctetResult n (Short lines at outer leaf) = AtMostOneAt n lines × (at ≡ n)
IsOctetResult n (Fault lines at why S) = AreFaultLines n why lines × (at ≡ n)

-- the reading of no octets has no lines and no fault
abbrev pub IsEmptyResult : (offset_of_start : ℕ) (read : Read) → Type 0
IsEmptyResult n (Done lines at rest) = (lines ≡ []) × (at ≡ n) × (rest ≡ [])
IsEmptyResult n (Short lines at outer leaf) = (lines ≡ []) × (at ≡ n)
IsEmptyResult n (Fault lines at why S) = ⊥
