-- What the name buffer can have, depending on whether the innermost part is in a string, and where
-- (state).
use Rattle.std.specs.Prelude.{◌≡◌, ℕ, ◌<◌, ◌≤◌, List, [], length, Option, Some, None, cond}
use Rattle.giop_decode.specs.declared.leaf.Leaf.{Leaf as Innermost}
use Rattle.giop_decode.specs.declared.leaf.Leaf.TheVariants as innermost
use Rattle.giop_decode.specs.declared.notes.Buffer.{Buffer}
use Rattle.giop_decode.specs.declared.notes.Buffer.TheVariants as buffers
use Rattle.giop_decode.specs.Noted.{is_text}
use Rattle.giop_print.specs.declared.path.Root.{Root}
use Rattle.giop_print.specs.declared.path.Root.TheVariants as roots
use Rattle.giop_sig.specs.Types.{Ty}

-- where in its string the unfinished piece begins, if the innermost part, of this type, is in a
-- string
abbrev pub string_offset : (T : Ty) (leaf : Innermost) → Option ℕ
string_offset T (innermost.Content of total offset) = cond (is_text T) (Some offset) None
string_offset T leaf = None

-- This many octets are noted of a string whose unfinished piece begins at this offset: all before
-- it. In a body there may be fewer: a checkpoint of a version that noted nothing of bodies has
-- none.
abbrev pub IsNotedCount : (root : Root) (piece_offset_in_string octets_noted : ℕ) → Type 0
IsNotedCount roots.Body offset count = count ≤ offset
IsNotedCount root offset count = count ≡ offset

-- What the buffer can have if the innermost part is in no string, or in one whose unfinished piece
-- begins at this offset. It may have an object key in a string too, if nothing is noted of the
-- string yet.
abbrev pub NameBufferFits : (root : Root) (piece_offset_if_in_string : Option ℕ) (buffer : Buffer)
    (buffer_octets : List ℕ) → Type 0
NameBufferFits root None buffers.Begun name = name ≡ []
NameBufferFits root None buffers.Whole name = Unit {0}
NameBufferFits root None buffers.TooLong name = ⊥
NameBufferFits root (Some offset) buffers.Begun name =
    (length name ≤ 128) × IsNotedCount root offset (length name)
NameBufferFits root (Some offset) buffers.Whole name = ⊥
NameBufferFits root (Some offset) buffers.TooLong name = (128 < offset) × (name ≡ [])
NameBufferFits root None buffers.Key name = length name ≤ 128
NameBufferFits root (Some offset) buffers.Key name = (length name ≤ 128)
    × IsNotedCount root offset 0
NameBufferFits root None buffers.LongKey name = name ≡ []
NameBufferFits root (Some offset) buffers.LongKey name = (name ≡ []) × IsNotedCount root offset 0
