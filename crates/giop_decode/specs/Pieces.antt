-- Octets that are taken together: numbers after their padding (CDR Transfer Syntax, Alignment), and
-- the contents of strings and octet sequences in pieces of 32 (docs/FORMATS.md; meaning).
use Rattle.std.specs.Prelude.{ℕ, zero, suc, ◌+◌, ◌-◌, ◌/◌, false, true, cond, ltb, eqb, List, [], ◌∷◌, length, take, drop, get_or, Option, Some, None}
use Rattle.giop_cdr.specs.Alignment.{padding}
use Rattle.giop_decode.specs.declared.progress.ValueFault.{ValueFault}
use Rattle.giop_decode.specs.declared.progress.ValueFault.TheVariants as kinds
use Rattle.giop_decode.specs.ReadResult.{PathSegment, Piece, line, Content, Read, Done, Short, Fault, with_front}
use Rattle.giop_sig.specs.Types.{OctetKind, Ty, Text, Octets, bound_of}

-- octets that are taken together, the offset after them, and the rest; or too few of them, and the
-- offset
pub data Block : Type 0 where
  Partial : List ℕ → ℕ → Block
  Complete : List ℕ → ℕ → List ℕ → Block

-- the next `count` octets
unfoldable pub block : (octet_count offset_of_first_octet : ℕ) (octets : List ℕ) → Block
block count at octets =
    cond (ltb (length octets) count) (Partial octets (at + length octets))
    (Complete (take count octets) (at + count) (drop count octets))

-- a number of `size` octets, after its padding: an octet is padding while its phase isn't aligned
unfoldable pub number : (phase_at_offset : ℕ → ℕ) (number_size offset_of_first_octet : ℕ)
    (padding_and_octets : List ℕ) → Block
number phase size at [] = Partial [] at
number phase size at (b ∷ s) =
    cond (ltb 0 (padding (phase at) size)) (number phase size (at + 1) s) (block size at (b ∷ s))

-- a fault instead of a value, if there is one
abbrev pub fault_or : (type_at_fault : Ty) (fault_if_any : Option ValueFault) (fault_offset : ℕ)
    (read_else : Read) → Read
fault_or T None at read = read
fault_or T (Some kind) at read = Fault [] at kind T

-- what is wrong with a count, or with the length of a content, that is above its bound
abbrev pub bound_fault : (bound : Option ℕ) (count_or_length : ℕ) → Option ValueFault
bound_fault None count = None
bound_fault (Some bound) count = cond (ltb bound count) (Some kinds.Bound) None

-- how many pieces of a content aren't the last
abbrev pub full_pieces : (content_size : ℕ) → ℕ
full_pieces count = (count - 1) / 32

-- how many octets come after a content: a zero after that of a string
abbrev pub terminator_size : (T : Ty) → ℕ
terminator_size (Text bound) = 1
terminator_size T = 0

-- what is wrong with the end of a content of `count` octets, together with those after it: a string
-- must end in a zero
abbrev pub string_end_fault : (T : Ty) (content_size : ℕ) (content_and_terminator : List ℕ) →
    Option ValueFault
string_end_fault (Text bound) count octets = cond (eqb (get_or octets count 0) 0) None
    (Some kinds.StringEnd)
string_end_fault T count octets = None

-- the last piece of a content, or what has come of it: up to 32 octets, from an offset in the
-- content
abbrev pub last_piece : (T : Ty) (path : List PathSegment) (content_size piece_offset : ℕ)
    (block : Block) → Read
last_piece T path total offset (Partial piece at) = Short [] at [] (Content T total offset piece)
last_piece T path total offset (Complete octets at rest) =
    fault_or T (string_end_fault T (total - offset) octets) at
    (Done (line at path (Piece T offset (take (total - offset) octets) false) ∷ []) at rest)

-- a piece of 32 octets, from an offset in the content, and then what is read next
abbrev pub full_piece : (T : Ty) (path : List PathSegment) (content_size piece_offset : ℕ)
    (read_next : ℕ → List ℕ → Read) (block : Block) → Read
full_piece T path total offset next (Partial piece at) =
    Short [] at [] (Content T total offset piece)
full_piece T path total offset next (Complete octets at rest) =
    with_front (line at path (Piece T offset octets true) ∷ []) (next at rest)

-- a content from an offset in it on; `full` of its pieces aren't the last
abbrev pub content : (T : Ty) (path : List PathSegment)
    (content_size pieces_before_last offset_in_content offset_in_message : ℕ) (octets : List ℕ) →
    Read
content T path total zero offset at octets =
    last_piece T path total offset (block (total - offset + terminator_size T) at octets)
content T path total (suc full) offset at octets =
    full_piece T path total offset (content T path total full (offset + 32)) (block 32 at octets)

-- what comes after the length of a string, which counts its zero; a string of length 0 is empty,
-- and ends there
abbrev pub text : (bound : Option ℕ) (path : List PathSegment)
    (length_with_zero offset_after_length : ℕ) (octets_after_length : List ℕ) → Read
text bound path zero at rest = Done (line at path (Piece (Text bound) 0 [] false) ∷ []) at rest
text bound path (suc count) at rest =
    fault_or (Text bound) (bound_fault bound count) at
    (content (Text bound) path count (full_pieces count) 0 at rest)

-- what comes after the number of octets of a kind
abbrev pub octets : (kind : OctetKind) (path : List PathSegment)
    (octet_count offset_after_count : ℕ) (octets_after_count : List ℕ) → Read
octets kind path count at rest =
    fault_or (Octets kind) (bound_fault (bound_of kind) count) at
    (content (Octets kind) path count (full_pieces count) 0 at rest)
