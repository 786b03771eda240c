-- What an octet that completes a line changes in the notes (steps).
use Rattle.std.specs.Prelude.{◌≡◌, ℕ, ◌+◌, ◌%◌, ◌==◌, ◌&&◌, Bool, true, false, cond, List, [], Option, Some, None}
use Rattle.giop_decode.specs.declared.leaf.Leaf.{Leaf as Innermost}
use Rattle.giop_decode.specs.declared.leaf.Leaf.TheVariants as innermost
use Rattle.giop_decode.specs.declared.leaf.Transition.{Transition}
use Rattle.giop_decode.specs.declared.leaf.Transition.TheVariants as transitions
use Rattle.giop_decode.specs.declared.leaf.Output.{Output}
use Rattle.giop_decode.specs.declared.leaf.Output.TheVariants as outputs
use Rattle.giop_decode.specs.declared.notes.Buffer.{Buffer}
use Rattle.giop_decode.specs.declared.notes.Buffer.TheVariants as buffers
use Rattle.giop_decode.specs.declared.notes.Notes.{Notes}
use Rattle.giop_decode.specs.SeenState.{status_of}
use Rattle.giop_decode.specs.Noted.{is_text}
use Rattle.giop_decode.specs.NameBuffer.{string_offset}
use Rattle.giop_cdr.specs.declared.number.Number.{Number as Taken}
use Rattle.giop_cdr.specs.declared.number.Number.TheVariants as numbers
use Rattle.giop_sig.specs.Types.{Ty}

-- whether a boolean is true, or bit 0 of a number is set
abbrev pub is_set : (boolean_or_number : Taken) → Bool
is_set (numbers.Truth truth) = truth
is_set (numbers.Unsigned n) = n % 2 == 1
is_set number = false

-- the octets of an object key may be noted: there is no string and no enum
abbrev pub HasNoString : (buffer : Buffer) (buffer_octets : List ℕ) → Type 0
HasNoString buffers.Begun octets = octets ≡ []
HasNoString buffers.Whole octets = ⊥
HasNoString buffers.TooLong octets = ⊥
HasNoString buffer octets = Unit {0}

abbrev pub MayNoteKey : (notes : Notes) → Type 0
MayNoteKey m = HasNoString m.buffer m.name.items × (status_of m.last ≡ None)

-- whether an output clears the name: that of a string's length does
abbrev pub clears_name : (output : Output) → Bool
clears_name outputs.Length = true
clears_name output = false

-- whether an innermost part of this type is within a string
abbrev pub leaf_in_string : (T : Ty) (leaf : Innermost) → Bool
leaf_in_string T (innermost.Number of) = false
leaf_in_string T (innermost.Opening of left) = false
leaf_in_string T (innermost.Content of total offset) = is_text T

-- whether it is within a string after a transition
abbrev pub transition_in_string : (T : Ty) (transition : Transition) → Bool
transition_in_string T (transitions.More leaf) = leaf_in_string T leaf
transition_in_string T (transitions.Refused kind) = is_text T
transition_in_string T transition = false

-- Within a string, lines have only its pieces. Its length leads into it, and its last piece out of
-- it.
abbrev pub OutputFitsString : (T : Ty) (was_in_string : Bool) (transition : Transition)
    (output : Output) → Type 0
OutputFitsString T was transition outputs.Nothing = transition_in_string T transition ≡ was
OutputFitsString T was transition outputs.Length = transition_in_string T transition ≡ true
OutputFitsString T was transition (outputs.Piece offset more) =
    transition_in_string T transition ≡ is_text T && more
OutputFitsString T was transition output =
    (was ≡ false) × (transition_in_string T transition ≡ false)

-- where in its string the unfinished piece begins after a transition that leads into a string or
-- goes on in one
abbrev pub transition_offset : (T : Ty) (transition : Transition) → Option ℕ
transition_offset T (transitions.More leaf) = string_offset T leaf
transition_offset T transition = None

-- Where in its string the unfinished piece begins before and after an octet with this output, whose
-- piece has `count` octets. A length leads into a string, a piece that isn't the last goes on after
-- its 32 octets, and the last piece leads out.
abbrev pub OffsetMoves : (T : Ty) (string_offset_before string_offset_after : Option ℕ)
    (output : Output) (piece_size : ℕ) → Type 0
OffsetMoves T was next outputs.Nothing count = next ≡ was
OffsetMoves T was next outputs.Length count = (was ≡ None) × (next ≡ Some 0)
OffsetMoves T was next (outputs.Piece offset true) count =
    (was ≡ cond (is_text T) (Some offset) None)
    × (next ≡ cond (is_text T) (Some (offset + 32)) None) × (count ≡ 32)
OffsetMoves T was next (outputs.Piece offset false) count =
    (cond (is_text T) None was ≡ None) × (next ≡ None)
OffsetMoves T was next output count = (was ≡ None) × (next ≡ None)

-- the same for a transition; nothing is said if a rule is broken
abbrev pub StringGoesOn : (T : Ty) (string_offset_before : Option ℕ) (transition : Transition)
    (output : Output) (piece_size : ℕ) → Type 0
StringGoesOn T was (transitions.Refused kind) output count = Unit {0}
StringGoesOn T was transition output count =
    OffsetMoves T was (transition_offset T transition) output count
