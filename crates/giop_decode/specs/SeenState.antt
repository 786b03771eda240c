-- What a decoder holds of the octets that it has taken, one field a clause, with a table as
-- messages of its version see it (state).
use Rattle.std.specs.Prelude.{◌≡◌, ℕ, ◌+◌, ◌%◌, ◌<◌, ◌≤◌, Bool, true, false, cond, List, [], ◌∷◌, ◌++◌, length, drop, Option, Some, None, IfSome}
use Rattle.giop_decode.specs.declared.decoder.Decoder.{Decoder}
use Rattle.giop_decode.specs.declared.leaf.Leaf.{Leaf as Innermost}
use Rattle.giop_decode.specs.declared.notes.Notes.{Notes}
use Rattle.giop_decode.specs.declared.notes.Buffer.{Buffer}
use Rattle.giop_decode.specs.declared.notes.Buffer.TheVariants as buffers
use Rattle.giop_decode.specs.declared.notes.Last.{Last}
use Rattle.giop_decode.specs.declared.notes.Last.TheVariants as lasts
use Rattle.giop_decode.specs.declared.progress.Progress.{Progress}
use Rattle.giop_decode.specs.declared.progress.Progress.TheVariants as progress
use Rattle.giop_decode.specs.ReadResult.{Coding, IsEvenFrom, ValueAt, Read, Done, Short, Fault, lines_of}
use Rattle.giop_decode.specs.Reading.{reading}
use Rattle.giop_decode.specs.Fits.{FitsIn}
use Rattle.giop_decode.specs.NameBuffer.{NameBufferFits, string_offset}
use Rattle.giop_decode.specs.Noted.{Noted, noted_of, is_header_root, names_operation}
use Rattle.giop_decode.specs.Transitions.{open_parts, AreKnown, HaveOctetsLeft, StandAt, within_of, Link, leaf_of, leaf_type, tree_in, HoldsOnlyItsOwn}
use Rattle.giop_print.specs.declared.path.Root.{Root}
use Rattle.giop_sig.specs.Types.{Ty}
use Rattle.giop_sig.specs.Fits.{IsFit}
use Rattle.giop_sig.specs.declared.types.InterfaceId.{InterfaceId}
use Rattle.giop_sig.specs.Table.{Table, has_keys, interface_in, seen}
use Rattle.giop_sig.specs.Trees.{tree}

-- ---- what its notes can have

abbrev pub status_of : (last : Last) → Option ℕ
status_of (lasts.Status n) = Some n
status_of last = None

abbrev pub interface_of : (last : Last) → Option InterfaceId
interface_of (lasts.Interface interface) = Some interface
interface_of last = None

-- the buffer has no octets of an object key
abbrev pub HoldsNoKey : (buffer : Buffer) → Type 0
HoldsNoKey buffers.Key = ⊥
HoldsNoKey buffers.LongKey = ⊥
HoldsNoKey buffer = Unit {0}

-- Only a header has a request id and an object key. The interface of the key is one of the table,
-- and a key is held only if the table has KEYs.
pub record NotesFitRoot (C : Table) (root : Root) (notes : Notes) : Type 0 where
  pub id : is_header_root root ≡ false → notes.request_id ≡ None
  pub no_interface : is_header_root root ≡ false → interface_of notes.last ≡ None
  pub no_key : is_header_root root ≡ false → HoldsNoKey notes.buffer
  pub keyless : has_keys C ≡ false → HoldsNoKey notes.buffer
  pub interface : IfSome (interface_of notes.last) (λ i. i.0 < length C.interfaces.names)

-- ---- a decoder for a catalogue

-- An offset that a decoder may be at, by the coding of its octets: the offset's phase modulo 8 is
-- the decoder's, no Fragment begins after it, and the encapsulations have begun before it.
pub record CanStandAt (coding : Coding) (d : Decoder) (offset_in_message : ℕ) : Type 0 where
  pub order : d.order ≡ coding.order
  pub phase : coding.phase offset_in_message % 8 ≡ d.at
  pub even : IsEvenFrom coding offset_in_message
  pub outer : StandAt offset_in_message d.outer.items

-- A decoder that is neither done nor at a fault: its frames have types of the table, each that of
-- the part that the frame before is at.
pub record Fits (C : Table) (d : Decoder) : Type 0 where
  pub leaf : Innermost
  pub goes_on : d.leaf ≡ Some leaf
  pub root : ℕ
  pub known_root : root < length C.types
  pub link : Link C root d.outer.items (leaf_type leaf)
  pub fit : IsFit 24 (tree C root)
  pub forbids_wide : d.forbids_wide ≡ C.forbids_wide
  -- an offset that its encapsulations may be at
  pub here : ℕ
  pub stands : StandAt here d.outer.items
  pub fits : FitsIn (tree C root) (open_parts C here d.outer.items)
      (leaf_of C d.outer.items leaf d.carry d.piece.items)
  pub ahead : HaveOctetsLeft d.outer.items
  pub inside : d.inside ≡ within_of d.outer.items
  pub known_outer : AreKnown C d.outer.items
  pub known : leaf_type leaf < length C.types
  pub clean : HoldsOnlyItsOwn leaf d.carry d.piece.items
  pub at : d.at < 8
  pub of_root : NotesFitRoot C d.head.root d.notes
  pub name : NameBufferFits d.head.root (string_offset (tree_in C d.outer.items (leaf_type leaf))
      leaf) d.notes.buffer d.notes.name.items

-- the value has ended
abbrev pub IsDone : (d : Decoder) → Type 0
IsDone d = d.leaf ≡ None

-- ---- a decoder that has read a list

-- the reading that the fields of a decoder stand for, with this innermost part, and with these
-- lines at this offset
abbrev pub read_by_leaf : (C : Table) (d : Decoder) (leaf : Option Innermost) (lines : List ValueAt)
    (offset_reached : ℕ) → Read
read_by_leaf C d None lines at = Done lines at []
read_by_leaf C d (Some leaf) lines at =
    Short lines at (open_parts C at d.outer.items)
    (leaf_of C d.outer.items leaf d.carry d.piece.items)

-- the reading that the fields of a decoder stand for, with these lines at this offset
abbrev pub read_by_fields : (C : Table) (d : Decoder) (lines : List ValueAt) (offset_reached : ℕ) →
    Read
read_by_fields C d lines at = read_by_leaf C d d.leaf lines at

-- What the name buffer has: the last name, the octets of a string that hasn't ended, or those of an
-- object key; none if they are more than 128.
abbrev pub BufferHolds : (buffer : Buffer) (buffer_octets : List ℕ) (last_name : Option (List ℕ))
    (string_so_far key_so_far : List ℕ) → Type 0
BufferHolds buffers.Whole octets name so_far key_so_far =
    (name ≡ Some octets) × (so_far ≡ []) × (key_so_far ≡ [])
BufferHolds buffers.Begun octets name so_far key_so_far =
    (name ≡ None) × (so_far ≡ octets) × (length octets ≤ 128) × (key_so_far ≡ [])
BufferHolds buffers.TooLong octets name so_far key_so_far =
    (name ≡ None) × (octets ≡ []) × (128 < length so_far) × (key_so_far ≡ [])
BufferHolds buffers.Key octets name so_far key_so_far =
    (name ≡ None) × (so_far ≡ []) × (length octets ≤ 128) × (key_so_far ≡ octets)
BufferHolds buffers.LongKey octets name so_far key_so_far =
    (name ≡ None) × (so_far ≡ []) × (octets ≡ []) × (128 < length key_so_far)

-- The octets that are held of an object key: none if the table has no KEYs, as no key has an
-- interface then.
abbrev pub key_octets_held : (C : Table) (key_octets : List ℕ) → List ℕ
key_octets_held C [] = []
key_octets_held C (x ∷ so_far) = cond (has_keys C) (x ∷ so_far) []

-- the interface of an object key in a table
abbrev pub interface_of_key : (C : Table) (key : Option (List ℕ)) → Option InterfaceId
interface_of_key C None = None
interface_of_key C (Some key) = interface_in C key

-- the same, if it is asked for
abbrev pub IsInterfaceOfKey : (C : Table) (is_asked : Bool) (interface : Option InterfaceId)
    (key : Option (List ℕ)) → Type 0
IsInterfaceOfKey C true interface key = interface ≡ interface_of_key C key
IsInterfaceOfKey C false interface key = Unit {0}

-- The notes have what was noted: the request id, the status, whether a reply is expected, the
-- interface of the object key if it is asked for, and the name or the octets of one or of a key.
pub record HaveNoted (C : Table) (interface_is_asked : Bool) (notes : Notes) (noted : Noted)
    : Type 0 where
  pub request_id : notes.request_id ≡ noted.request_id
  pub status : status_of notes.last ≡ noted.status
  pub interface : IsInterfaceOfKey C interface_is_asked (interface_of notes.last) noted.key
  pub expects_reply : notes.expects_reply ≡ noted.expects_reply
  pub name : BufferHolds notes.buffer notes.name.items noted.name noted.so_far
      (key_octets_held C noted.key_so_far)

-- the same for a table, whichever version of messages sees it
abbrev pub HoldsNoted : (C : Table) (interface_is_asked : Bool) (notes : Notes) (noted : Noted) →
    Type 0
HoldsNoted C asked m h = HaveNoted (seen false C) asked m h

-- the notes of the decoder are those of a reading, whether it goes on, has ended or is at a fault
abbrev pub KeepsNoted : (C : Table) (root : Root) (d : Decoder) (read : Read) → Type 0
KeepsNoted C root d r = HoldsNoted C true d.notes (noted_of (is_header_root root) r)

-- The fields of the decoder are what reading the list has begun and not ended, and what is noted of
-- it.
pub record Reads (C : Table) (T : Ty) (coding : Coding) (offset_of_first_octet message_number : ℕ)
    (root : Root) (d : Decoder) (octets : List ℕ) : Type 0 where
  pub lines : List ValueAt
  pub is : reading coding [] T offset_of_first_octet octets
      ≡ read_by_fields C d lines (offset_of_first_octet + length octets)
  pub keeps_noted : KeepsNoted C root d (reading coding [] T offset_of_first_octet octets)
  pub forbids_wide : d.forbids_wide ≡ C.forbids_wide
  pub same_message : d.head.message ≡ message_number
  pub same_root : d.head.root ≡ root
  pub offset : CanStandAt coding d (offset_of_first_octet + length octets)

-- ---- one more octet

-- the lines of the octet
abbrev pub added_lines : (coding : Coding) (T : Ty) (offset_of_first_octet : ℕ)
    (octets_taken_before : List ℕ) (next_octet : ℕ) → List ValueAt
added_lines coding T at octets octet =
    drop (length (lines_of (reading coding [] T at octets)))
    (lines_of (reading coding [] T at (octets ++ octet ∷ [])))

-- The answer to the last octet of a list that ends at this offset: the value goes on, has ended at
-- that octet, or is at a fault there. `named` says whether the octet ends an operation.
abbrev pub IsAnswer : (offset_after_last_octet : ℕ) (operation_named : Bool) (p : Progress)
    (r : Read) → Type 0
IsAnswer end named progress.More (Short lines at outer leaf) = named ≡ false
IsAnswer end named progress.Named (Short lines at outer leaf) = named ≡ true
IsAnswer end named progress.Done (Done lines at rest) = rest ≡ []
IsAnswer end named (progress.Fault kind) (Fault lines at why T) = (kind ≡ why) × (at ≡ end)
IsAnswer end named p r = ⊥

-- the value goes on
abbrev pub GoesOn : (progress : Progress) → Type 0
GoesOn progress.More = Unit {0}
GoesOn progress.Named = Unit {0}
GoesOn p = ⊥

-- the octet breaks a rule
abbrev pub IsFault : (progress : Progress) → Type 0
IsFault (progress.Fault kind) = Unit {0}
IsFault p = ⊥

-- A decoder that has read a list gives this answer to one more octet. It has then read the longer
-- list, unless there is a fault.
pub record Takes (C : Table) (T : Ty) (coding : Coding) (offset_of_first_octet message_number : ℕ)
    (root : Root) (d : Decoder) (octets_taken_before : List ℕ) (next_octet : ℕ) (p : Progress)
    : Type 0 where
  pub answer : IsAnswer (offset_of_first_octet + length (octets_taken_before ++ next_octet ∷ []))
      (names_operation (is_header_root root) (added_lines coding T offset_of_first_octet
      octets_taken_before next_octet)) p
      (reading coding [] T offset_of_first_octet (octets_taken_before ++ next_octet ∷ []))
  pub reads : (IsFault p → ⊥) → Reads C T coding offset_of_first_octet message_number root d
      (octets_taken_before ++ next_octet ∷ [])
  pub keeps_noted : KeepsNoted C root d (reading coding [] T offset_of_first_octet
      (octets_taken_before ++ next_octet ∷ []))
