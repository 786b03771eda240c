-- Reading a value of a type from a whole list of octets, by recursion on the type (CDR Transfer
-- Syntax; meaning).
use Rattle.std.specs.Prelude.{ℕ, zero, suc, ◌+◌, ◌-◌, Bool, true, false, cond, ltb, codes, List, [], ◌∷◌, ◌++◌, take, drop, get_or, Option, Some, None}
use Rattle.giop_cdr.specs.Numbers.{num}
use Rattle.giop_cdr.specs.declared.order.Order.{Order}
use Rattle.giop_cdr.specs.declared.order.Order.TheVariants.{Big, Little}
use Rattle.giop_cdr.specs.declared.prim.Primitive.TheVariants as prims
use Rattle.giop_decode.specs.declared.progress.ValueFault.{ValueFault}
use Rattle.giop_decode.specs.declared.progress.ValueFault.TheVariants as kinds
use Rattle.giop_decode.specs.ReadResult.{Coding, PathSegment, Name, Index, Switch, Value, Number, Count, Piece, ValueAt, Telling, line, Part, Member, LeadingNumber, Read, Done, Short, with_front, read_then, within, Held, Size, Ordered, coding_from, Inside, Leaf, Opening, Content, Fault}
use Rattle.giop_decode.specs.Pieces.{Block, Partial, Complete, number, fault_or, bound_fault, text, octets, block, content, full_pieces}
use Rattle.giop_sig.specs.Kinds.{is_kind, kind_word}
use Rattle.giop_sig.specs.Types.{Scalar, Plain, Enum, Marked, width, Ty, Single, Text, Octets, size_width, Struct, Union, Sequence, Array, discriminator_name, Encapsulation, Recursive, Led, Sign, MarkedNumber, Counted, Spelt, InferredType, Untold, Sequel, Then, Ends, Stops, TypeInference, sequel}
use Rattle.giop_sig.specs.declared.types.Selected.{Selected}
use Rattle.giop_sig.specs.declared.types.Selected.TheVariants.{Case, Nothing, Refused}

-- what comes after the number that begins a type
abbrev pub after_leading_number : (T : Ty) (read_after_number : List ℕ → ℕ → List ℕ → Read)
    (number_block : Block) → Read
after_leading_number T after (Partial carry at) = Short [] at [] (LeadingNumber T carry)
after_leading_number T after (Complete octets at rest) = after octets at rest

-- a number isn't a kind if it has no word
abbrev pub kind_fault : (is_typecode_kind : Bool) (word_of_kind : Option (List ℕ)) →
    Option ValueFault
kind_fault true None = Some kinds.Enum
kind_fault kind word = None

-- what is wrong with a number: a boolean is 0 or 1, an enum has a name for its number, and a kind a
-- word
abbrev pub number_fault : (scalar : Scalar) (number : ℕ) → Option ValueFault
number_fault (Plain prims.Boolean) number = cond (ltb number 2) None (Some kinds.Boolean)
number_fault (Plain p) number = None
number_fault (Enum count names) number = cond (ltb number count) None (Some kinds.Enum)
number_fault (Marked mark) number = kind_fault (is_kind mark) (kind_word number)

-- a value of one number, after its octets
abbrev pub read_single : (path : List PathSegment) (scalar : Scalar)
    (number offset_after_number : ℕ) (octets_after_number : List ℕ) → Read
read_single path scalar number at rest =
    fault_or (Single scalar) (number_fault scalar number) at
    (Done (line at path (Number scalar number) ∷ []) at rest)

-- `more` parts, from part `index` on, each from where the one before it ended
abbrev pub parts_from : (read_part : ℕ → ℕ → List ℕ → Read)
    (parts_left first_index offset_of_first_octet : ℕ) (octets : List ℕ) → Read
parts_from part zero index at octets = Done [] at octets
parts_from part (suc more) index at octets =
    read_then (part index at octets) (parts_from part more (suc index))

-- what a discriminator selects
abbrev pub selected_case : (selected : Selected) (read_case : ℕ → ℕ → List ℕ → Read)
    (offset_of_first_octet : ℕ) (octets : List ℕ) → Read
selected_case (Case i) case at octets = case i at octets
selected_case Nothing case at octets = Done [] at octets
selected_case Refused case at octets = Done [] at octets

-- what is wrong with what a discriminator selects: it isn't one of the dispositions
abbrev pub disposition_fault : (selected : Selected) → Option ValueFault
disposition_fault Refused = Some kinds.Disposition
disposition_fault _ = None

-- a union after its discriminator, which has a line if its value is allowed
abbrev pub after_discriminator : (path : List PathSegment) (T : Ty)
    (discriminator_label : Option (List ℕ)) (discriminator_type : Scalar) (selected : Selected)
    (discriminator : ℕ) (read_case : ℕ → ℕ → List ℕ → Read) (offset_after_number : ℕ)
    (octets_after_number : List ℕ) → Read
after_discriminator path T tag scalar selected number case at rest =
    fault_or T (number_fault scalar number) at (fault_or T (disposition_fault selected) at
    (with_front (line at (path ++ Switch tag ∷ []) (Number scalar number) ∷ [])
    (selected_case selected case at rest)))

-- ---- encapsulations

-- the byte order that an octet stands for
abbrev pub order_of : (order_octet : ℕ) → Option Order
order_of zero = Some Big
order_of (suc zero) = Some Little
order_of number = None

-- the octets of an encapsulation after its value
abbrev pub encapsulation_rest : (path : List PathSegment) (T : Ty)
    (rest_size offset_of_first_octet : ℕ) (octets : List ℕ) → Read
encapsulation_rest path T zero at octets = Done [] at octets
encapsulation_rest path T (suc count) at octets =
    content T path (suc count) (full_pieces (suc count)) 0 at octets

-- the type whose value the end of an encapsulation cuts off: that of a content whose length was
-- read, or the encapsulation itself
abbrev pub type_at_cut : (leaf : Leaf) → Ty
type_at_cut (Content T total offset piece) = T
type_at_cut (LeadingNumber T carry) = Encapsulation T
type_at_cut (Opening T n) = Encapsulation T

-- An encapsulation that ends at this offset, after some of its value was read. `left` gives the
-- octets of the reading that are left from an offset on, and `more` are those after all that were
-- read. If the value has ended, or what comes in it has no type, what is left is the rest. If the
-- value needs one more octet, there is none if the octets of the encapsulation have ended.
abbrev pub enclosed : (path : List PathSegment) (T : Ty) (coding : Coding)
    (encapsulation_end_offset : ℕ) (octets_left_from_offset : ℕ → List ℕ) (read : Read)
    (octets_after_read : List ℕ) → Read
enclosed path T coding end left (Done lines at rest) more =
    with_front lines (encapsulation_rest path T (end - at) at (rest ++ more))
enclosed path T coding end left (Short lines at outer leaf) more =
    cond (ltb at end) (Short lines at (Inside T coding end ∷ outer) leaf)
    (Fault lines at kinds.EncapShort (type_at_cut leaf))
enclosed path T coding end left (Fault lines at kinds.Untyped S) more =
    with_front lines (encapsulation_rest path T (end - at) at (left at ++ more))
enclosed path T coding end left (Fault lines at kind S) more = Fault lines at kind S

-- the octets of a list that begins at an offset, from another offset on
abbrev pub left_after : (offset_of_first_octet : ℕ) (octets : List ℕ) (offset_of_first_left : ℕ) →
    List ℕ
left_after at octets here = drop (here - at) octets

-- nothing is left after a single octet
abbrev pub none_left : (offset_in_message : ℕ) → List ℕ
none_left here = []

-- The value in an encapsulation is read from its `count` octets alone.
abbrev pub inside : (path : List PathSegment) (T : Ty) (read_value : Coding → ℕ → List ℕ → Read)
    (coding : Coding) (size_after_order_octet offset_after_order_octet : ℕ)
    (octets_after_order_octet : List ℕ) → Read
inside path T value coding count at octets =
    enclosed path T coding (at + count) (left_after at (take count octets))
    (value coding at (take count octets))
    (drop count octets)

-- an encapsulation after the octet with its byte order; alignment is counted from that octet
abbrev pub after_order_octet : (path : List PathSegment) (T : Ty)
    (read_value : Coding → ℕ → List ℕ → Read) (alignment_origin size_after_order_octet : ℕ)
    (order : Option Order) (offset_after_order_octet : ℕ) (octets_after_order_octet : List ℕ) → Read
after_order_octet path T value origin count None at rest = Fault [] at kinds.EncapOrder T
after_order_octet path T value origin count (Some order) at rest =
    with_front (line at path (Ordered order) ∷ [])
    (inside path T value (coding_from order origin) count at rest)

-- an encapsulation from the octet with its byte order on
abbrev pub from_order_octet : (path : List PathSegment) (T : Ty)
    (read_value : Coding → ℕ → List ℕ → Read) (alignment_origin size_after_order_octet : ℕ)
    (order_octet_block : Block) → Read
from_order_octet path T value origin count (Partial none at) = Short [] at [] (Opening T count)
from_order_octet path T value origin count (Complete octets at rest) =
    after_order_octet path T value origin count (order_of (get_or octets 0 0)) at rest

-- an encapsulation after the number of its octets
abbrev pub after_encapsulation_size : (path : List PathSegment) (T : Ty)
    (read_value : Coding → ℕ → List ℕ → Read) (encapsulation_size offset_after_size : ℕ)
    (octets_after_size : List ℕ) → Read
after_encapsulation_size path T value zero at octets = Fault [] at kinds.EncapShort T
after_encapsulation_size path T value (suc count) at octets =
    from_order_octet path T value at count (block 1 at octets)

-- ---- parts that tell what comes after them

-- what the line of a value tells
abbrev pub sign_of : (value : Value) → Option Sign
sign_of (Number (Marked mark) n) = Some (MarkedNumber mark n)
sign_of (Count n) = Some (Counted n)
sign_of (Piece (Text bound) offset octets more) = Some (Spelt octets more)
sign_of value = None

abbrev pub told_after_sign : (inference : TypeInference) (told_before : InferredType)
    (sign : Option Sign) → InferredType
told_after_sign h told None = told
told_after_sign h told (Some sign) = h.inferred_after told sign

-- what has been told after these lines
abbrev pub told_after : (inference : TypeInference) (told_before : InferredType)
    (lines : List ValueAt) → InferredType
told_after h told [] = told
told_after h told (l ∷ ls) = told_after h (told_after_sign h told (sign_of l.value)) ls

-- the name of the part that tells, which is the type of an any, and of what comes after it, which
-- is its value
abbrev pub led_name : (place_in_any : ℕ) → List ℕ
led_name zero = codes "type"
led_name (suc index) = codes "value"

abbrev pub led_segment : (place_in_any : ℕ) → PathSegment
led_segment index = Name (led_name index)

-- what comes next
abbrev pub read_sequel : (T : Ty) (sequel : Sequel) (read_part : ℕ → ℕ → List ℕ → Read)
    (offset_of_first_octet : ℕ) (octets : List ℕ) → Read
read_sequel T (Then i) part at octets = part i at octets
read_sequel T Ends part at octets = Done [] at octets
read_sequel T Stops part at octets = Fault [] at kinds.Untyped T

-- a type that begins with a part that tells what comes after it, from the reading of that part so
-- far
abbrev pub led : (T : Ty) (inference : TypeInference) (told_before : InferredType)
    (read_part_told : ℕ → ℕ → List ℕ → Read) (read_of_telling_part : Read) → Read
led T h told part (Done lines at rest) =
    with_front lines (read_sequel T (sequel h (told_after h told lines)) part at rest)
led T h told part (Short lines at outer leaf) =
    Short lines at (Telling T (told_after h told lines) ∷ outer) leaf
led T h told part (Fault lines at kind S) = Fault lines at kind S

-- ---- the elements of a recursive sequence

-- `count` elements, if they have room; if not, octets of no known type come after the number,
-- unless it is 0
abbrev pub recursive_elements : (T : Ty) (elements_have_room : Bool) (element_count : ℕ)
    (read_elements : ℕ → List ℕ → Read) (offset_of_first_octet : ℕ) (octets : List ℕ) → Read
recursive_elements T true count parts at octets = parts at octets
recursive_elements T false zero parts at octets = Done [] at octets
recursive_elements T false (suc count) parts at octets = Fault [] at kinds.Untyped T

-- ---- any type

-- A value of this type from these octets, whose first octet is at this offset of the message
abbrev pub read : (coding : Coding) (path : List PathSegment) (T : Ty) (offset_of_first_octet : ℕ)
    (octets : List ℕ) → Read
read coding path (Single scalar) at s =
    after_leading_number (Single scalar) (λ xs at rest.
    read_single path scalar (num coding.order xs) at rest)
    (number coding.phase (width scalar) at s)
read coding path (Text bound) at s =
    after_leading_number (Text bound) (λ xs at rest. text bound path (num coding.order xs) at rest)
    (number coding.phase 4 at s)
read coding path (Octets kind) at s =
    after_leading_number (Octets kind) (λ xs at rest.
    octets kind path (num coding.order xs) at rest)
    (number coding.phase (size_width kind) at s)
read coding path (Struct count names parts) at s =
    parts_from (λ i at s. within (Part (Struct count names parts) i count)
    (read coding (path ++ Name (names i) ∷ []) (parts i) at s)) count 0 at s
read coding path (Array count T) at s =
    parts_from (λ i at s. within (Part (Array count T) i count)
    (read coding (path ++ Index i ∷ []) T at s)) count 0 at s
read coding path (Sequence bound T) at s =
    after_leading_number (Sequence bound T) (λ xs at rest.
    fault_or (Sequence bound T) (bound_fault bound (num coding.order xs)) at
    (with_front (line at path (Count (num coding.order xs)) ∷ [])
    (parts_from (λ i at s. within (Part (Sequence bound T) i (num coding.order xs))
    (read coding (path ++ Index i ∷ []) T at s)) (num coding.order xs) 0 at rest)))
    (number coding.phase 4 at s)
read coding path (Union choice scalar select names cases) at s =
    after_leading_number (Union choice scalar select names cases) (λ xs at rest.
    after_discriminator path (Union choice scalar select names cases)
    (discriminator_name choice scalar names) scalar
    (select (num coding.order xs)) (num coding.order xs)
    (λ i at s. within (Member (Union choice scalar select names cases) i)
    (read coding (path ++ Name (names i) ∷ []) (cases i) at s)) at rest)
    (number coding.phase (width scalar) at s)
read coding path (Encapsulation T) at s =
    after_leading_number (Encapsulation T) (λ xs at rest.
    with_front (line at path (Size (num coding.order xs)) ∷ [])
    (after_encapsulation_size path (Encapsulation T) (λ inner. read inner (path ++ Held ∷ []) T)
    (num coding.order xs) at rest))
    (number coding.phase 4 at s)
read coding path (Recursive bound fits T) at s =
    after_leading_number (Recursive bound fits T) (λ xs at rest.
    fault_or (Recursive bound fits T) (bound_fault bound (num coding.order xs)) at
    (with_front (line at path (Count (num coding.order xs)) ∷ [])
    (recursive_elements (Recursive bound fits T) fits (num coding.order xs)
    (parts_from (λ i at s. within (Part (Recursive bound fits T) i (num coding.order xs))
    (read coding (path ++ Index i ∷ []) T at s)) (num coding.order xs) 0) at rest)))
    (number coding.phase 4 at s)
read coding path (Led h F parts) at s =
    led (Led h F parts) h Untold
    (λ i at s. within (Member (Led h F parts) (suc i))
    (read coding (path ++ led_segment (suc i) ∷ []) (parts i) at s))
    (read coding (path ++ led_segment 0 ∷ []) F at s)

-- ---- a whole value

-- A whole value ends before octets of no known type; what is left is all from that offset on.
abbrev pub done_if_untyped : (octets_left_from_offset : ℕ → List ℕ) (read_of_value : Read) → Read
done_if_untyped left (Fault lines at kinds.Untyped S) = Done lines at (left at)
done_if_untyped left r = r

-- a whole value
abbrev pub reading : (coding : Coding) (path : List PathSegment) (T : Ty)
    (offset_of_first_octet : ℕ) (octets : List ℕ) → Read
reading coding path T at octets = done_if_untyped (left_after at octets)
    (read coding path T at octets)
