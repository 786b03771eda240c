-- The result of reading a value: its lines, and the parts that have begun and not ended (meaning).
use Rattle.std.specs.Prelude.{◌≡◌, ℕ, ◌+◌, ◌-◌, ◌%◌, Bool, cond, ltb, List, ◌∷◌, ◌++◌, Option}
use Rattle.giop_cdr.specs.declared.order.Order.{Order}
use Rattle.giop_decode.specs.declared.progress.ValueFault.{ValueFault}
use Rattle.giop_sig.specs.Types.{Scalar, Ty, InferredType}

-- ---- lines

-- a segment of a path: a member, an element, a discriminator with its name if it has one, or the
-- value in an encapsulation, which has the path of the encapsulation
pub data PathSegment : Type 0 where
  Name : List ℕ → PathSegment
  Index : ℕ → PathSegment
  Switch : Option (List ℕ) → PathSegment
  Held : PathSegment

-- what a line shows
pub data Value : Type 0 where
  -- the whole number that the octets of a type of one number spell
  Number : Scalar → ℕ → Value
  -- how many elements a sequence has
  Count : ℕ → Value
  -- how many octets an encapsulation has, and their byte order
  Size : ℕ → Value
  Ordered : Order → Value
  -- a piece of a string, of counted octets or of the rest of an encapsulation: where in the content
  -- it begins, its octets, and whether more pieces come
  Piece : Ty → ℕ → List ℕ → Bool → Value

-- a line: the offset just after the last octet of its value, its path below the root, and the value
pub record ValueAt : Type 0 where
  pub at : ℕ
  pub path : List PathSegment
  pub value : Value

-- the line of a value at a path; the offset is that just after its last octet
abbrev pub line : (offset_after_value : ℕ) (path : List PathSegment) (value : Value) → ValueAt
line at path value = record { at = at; path = path; value = value }

-- ---- how octets are taken

-- the byte order of numbers, and the phase of each offset, which is the count that their alignment
-- goes by
pub record Coding : Type 0 where
  pub order : Order
  pub phase : ℕ → ℕ

-- this order, and alignment counted from this offset
abbrev pub coding_from : (order : Order) (alignment_origin : ℕ) → Coding
coding_from order origin = record { order = order; phase = λ at. at - origin }

-- the coding of a message: alignment is counted from its first octet
abbrev pub message_coding : (order : Order) → Coding
message_coding order = record { order = order; phase = λ at. at }

-- From this offset on octets are of a Fragment of GIOP 1.1: its alignment is counted from its own
-- first octet, so that its payload begins at 12.
abbrev pub fragment_aligned_from : (coding : Coding) (fragment_payload_offset : ℕ) → Coding
fragment_aligned_from coding here = record {
  order = coding.order;
  phase = λ at. cond (ltb at here) (coding.phase at) (12 + (at - here));
}

-- no Fragment begins after this offset: each octet counts one more
abbrev pub IsEvenFrom : (coding : Coding) (offset_in_message : ℕ) → Type 0
IsEvenFrom coding here = (k : ℕ) → coding.phase (here + k) % 8 ≡ (coding.phase here + k) % 8

-- ---- parts that have begun and not ended

-- a part that has parts of its own, with the one that is being read
pub data OpenPart : Type 0 where
  -- a member or an element, and how many there are
  Part : Ty → ℕ → ℕ → OpenPart
  -- a case of a union, or what comes after a part that tells it
  Member : Ty → ℕ → OpenPart
  -- an encapsulation: how its octets are taken, and the offset at which they end
  Inside : Ty → Coding → ℕ → OpenPart
  -- a part that tells what comes after it, and what it has told so far
  Telling : Ty → InferredType → OpenPart

-- the innermost part
pub data Leaf : Type 0 where
  -- the number that it begins with: the octets that have come, without padding
  LeadingNumber : Ty → List ℕ → Leaf
  -- the octet with the byte order of an encapsulation, and how many octets come after it
  Opening : Ty → ℕ → Leaf
  -- the content of a string or of counted octets, or the rest of an encapsulation: how long it is,
  -- where the unfinished piece begins, and what has come of the piece
  Content : Ty → ℕ → ℕ → List ℕ → Leaf

-- ---- readings

-- The result of a reading: its lines, the offset at its end, and the octets after it; or the parts
-- that have begun and not ended, the outermost first; or the fault, the offset just after its
-- octet, and the type of the value at fault.
pub data Read : Type 0 where
  Done : List ValueAt → ℕ → List ℕ → Read
  Short : List ValueAt → ℕ → List OpenPart → Leaf → Read
  Fault : List ValueAt → ℕ → ValueFault → Ty → Read

-- the lines of a reading
abbrev pub lines_of : (read : Read) → List ValueAt
lines_of (Done lines at rest) = lines
lines_of (Short lines at outer leaf) = lines
lines_of (Fault lines at kind S) = lines

-- a reading with these lines before its own
abbrev pub with_front : (lines_before : List ValueAt) (read : Read) → Read
with_front front (Done lines at rest) = Done (front ++ lines) at rest
with_front front (Short lines at outer leaf) = Short (front ++ lines) at outer leaf
with_front front (Fault lines at kind S) = Fault (front ++ lines) at kind S

-- what comes next is read from where the first reading ended
abbrev pub read_then : (read : Read) (read_from_offset_and_rest : ℕ → List ℕ → Read) → Read
read_then (Done lines at rest) next = with_front lines (next at rest)
read_then (Short lines at outer leaf) next = Short lines at outer leaf
read_then (Fault lines at kind S) next = Fault lines at kind S

-- a reading within a part
abbrev pub within : (outermost_part_added : OpenPart) (read : Read) → Read
within place (Done lines at rest) = Done lines at rest
within place (Short lines at outer leaf) = Short lines at (place ∷ outer) leaf
within place (Fault lines at kind S) = Fault lines at kind S
