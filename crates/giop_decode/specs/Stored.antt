-- What a checkpoint keeps of a decoder that goes on, as octets (docs/FORMATS.md; state). A decoder
-- has 208 octets of its own:
--
--     at  octets
--      0       1  byte order: 0 big, 1 little
--      1       1  root: 0 header, 1 repository id, 2 body
--      2       8  number of its message
--     10       1  phase of its next octet, modulo 8
--     11       1  innermost part: 0 the number that begins it, 1 its content, 2 the octet with the
--                 byte order of an encapsulation
--     12       4  its type
--     16       4  how many octets the content or the encapsulation has; 0 in a number
--     20       4  where in the content the unfinished piece begins; else 0
--     24       9  the octets held of a number: how many, and room for 8; none in a content
--     33      33  the octets held of a piece: how many, and room for 32; none in a number
--     66       5  whether the request id of a header was read, 0 or 1, and the id
--     71       5  1 and the number of the last enum; or 2 and that of the interface of a header's
--                 object key; or 0
--     76       1  the name buffer: 0 it has the front of a string, 1 it has a whole name, 2 it is
--                 too short for its string, 3 it has the front of an object key, 4 it is too short
--                 for that
--     77     129  the octets in it: how many, and room for 128; none if it is too short
--    206       1  whether a header expects a reply: 0 not read, 1 no, 2 yes
--    207       1  1 if anys and recursive sequences can't hold wide text, or 0
--
-- After that there is a frame of 24 octets for each part that has begun and not ended, the
-- outermost first: its type, the index of its own part that is being read, how many parts it has (0
-- in a union), and 12 zeros. For an encapsulation whose byte order was read, the index is how many
-- of its octets were taken, the count is how many it has, and the first of the zeros is 1 for big
-- or 2 for little. For a type whose first part tells what comes after it, while that part is read,
-- the second of the zeros is the stage of what was told, and the index is the number that belongs
-- to the stage. The last frame is that of the innermost part: its type and zeros. Numbers are
-- big-endian. Zeros come after held octets.
use Rattle.std.specs.Prelude.{◌≡◌, ℕ, ◌+◌, ◌^◌, ◌<◌, ◌≤◌, Bool, true, false, List, [], ◌∷◌, ◌++◌, length, replicate, Option, Some, None, IfSome}
use Rattle.std.specs.List.{flat_map, AllByRecursion}
use Rattle.giop_cdr.specs.declared.order.Order.{Order}
use Rattle.giop_cdr.specs.declared.order.Order.TheVariants as orders
use Rattle.giop_decode.specs.declared.decoder.Decoder.{Decoder}
use Rattle.giop_decode.specs.declared.frame.Frame.{Frame}
use Rattle.giop_decode.specs.declared.leaf.Leaf.{Leaf as Innermost}
use Rattle.giop_decode.specs.declared.leaf.Leaf.TheVariants as innermost
use Rattle.giop_decode.specs.declared.notes.Last.{Last}
use Rattle.giop_decode.specs.declared.notes.Last.TheVariants as lasts
use Rattle.giop_decode.specs.declared.notes.Notes.{Notes}
use Rattle.giop_decode.specs.declared.notes.Buffer.{Buffer}
use Rattle.giop_decode.specs.declared.notes.Buffer.TheVariants as buffers
use Rattle.giop_decode.specs.declared.stored.TheConstants.{FRAME_SIZE}
use Rattle.giop_decode.specs.Transitions.{leaf_type, within_of}
use Rattle.giop_octets.specs.Fields.{four, eight, optional, held}
use Rattle.giop_print.specs.declared.path.Root.{Root}
use Rattle.giop_print.specs.declared.path.Root.TheVariants as roots
use Rattle.giop_decode.specs.declared.frame.Stage.{Stage}
use Rattle.giop_decode.specs.declared.frame.Stage.TheVariants as stages
use Rattle.giop_sig.specs.Table.{type_id}

-- ---- the octets

abbrev pub saved_order : (order : Order) → ℕ
saved_order orders.Big = 0
saved_order orders.Little = 1

abbrev pub saved_forbids_wide : (forbids_wide : Bool) → ℕ
saved_forbids_wide true = 1
saved_forbids_wide false = 0

abbrev pub saved_root : (root : Root) → ℕ
saved_root roots.Header = 0
saved_root roots.Exception = 1
saved_root roots.Body = 2

abbrev pub saved_leaf : (leaf : Innermost) → List ℕ
saved_leaf (innermost.Number of) = 0 ∷ four of.0 ++ four 0 ++ four 0
saved_leaf (innermost.Content of total offset) = 1 ∷ four of.0 ++ four total ++ four offset
saved_leaf (innermost.Opening of count) = 2 ∷ four of.0 ++ four count ++ four 0

abbrev pub saved_buffer : (buffer : Buffer) → ℕ
saved_buffer buffers.Begun = 0
saved_buffer buffers.Whole = 1
saved_buffer buffers.TooLong = 2
saved_buffer buffers.Key = 3
saved_buffer buffers.LongKey = 4

-- nothing, the number of an enum, or that of an interface
abbrev pub saved_last : (last : Last) → List ℕ
saved_last lasts.Nothing = 0 ∷ four 0
saved_last (lasts.Status n) = 1 ∷ four n
saved_last (lasts.Interface i) = 2 ∷ four i.0

-- what is kept of a name: nothing if the buffer is too short
abbrev pub saved_name : (buffer : Buffer) (buffer_octets : List ℕ) → List ℕ
saved_name buffers.TooLong name = []
saved_name buffers.Begun name = name
saved_name buffers.Whole name = name
saved_name buffers.Key name = name
saved_name buffers.LongKey name = []

abbrev pub saved_name_octets : (notes : Notes) → List ℕ
saved_name_octets m = held 128 (saved_name m.buffer m.name.items)

abbrev pub saved_expects_reply : (expects : Option Bool) → ℕ
saved_expects_reply None = 0
saved_expects_reply (Some false) = 1
saved_expects_reply (Some true) = 2

abbrev pub saved_notes : (notes : Notes) → List ℕ
saved_notes m =
    optional m.request_id ++ saved_last m.last
    ++ saved_buffer m.buffer ∷ saved_name_octets m ++ saved_expects_reply m.expects_reply ∷ []

-- the octets of a decoder with this innermost part
unfoldable pub saved_fixed : (d : Decoder) (leaf : Innermost) → List ℕ
saved_fixed d leaf =
    saved_order d.order ∷ saved_root d.head.root ∷ eight d.head.message ++ d.at ∷ saved_leaf leaf
    ++ held 8 d.carry ++ held 32 d.piece.items ++ saved_notes d.notes
    ++ saved_forbids_wide d.forbids_wide ∷ []

-- how many octets a frame has
abbrev pub frame_size : ℕ
frame_size = FRAME_SIZE

-- the octet for the byte order of a frame: none, big or little
abbrev pub saved_inside : (encapsulation_order : Option Order) → ℕ
saved_inside None = 0
saved_inside (Some order) = 1 + saved_order order

-- the octet for what was told in a frame: none, or its stage
abbrev pub saved_stage : (telling_stage : Option Stage) → ℕ
saved_stage None = 0
saved_stage (Some stages.Untold) = 1
saved_stage (Some stages.Awaits) = 2
saved_stage (Some stages.Offers) = 3
saved_stage (Some stages.Is) = 4
saved_stage (Some stages.Empty) = 5
saved_stage (Some stages.Unknown) = 6

-- the octets of a frame, 10 of which have no use
abbrev pub saved_frame : (frame : Frame) → List ℕ
saved_frame f =
    four f.of.0 ++ four f.index ++ four f.count
    ++ saved_inside f.inside ∷ saved_stage f.told ∷ replicate 10 0

abbrev pub saved_frames : (frames : List Frame) → List ℕ
saved_frames frames = flat_map saved_frame frames

-- the frame of the innermost part
abbrev pub leaf_frame : (leaf : Innermost) → Frame
leaf_frame leaf = record {
  of = type_id (leaf_type leaf);
  index = 0;
  count = 0;
  inside = None;
  told = None;
}

-- ---- ranges

pub record FrameHasRange (frame : Frame) : Type 0 where
  pub of : frame.of.0 < 2 ^ 32
  pub index : frame.index < 2 ^ 32
  pub count : frame.count < 2 ^ 32

abbrev pub LeafHasRange : (leaf : Innermost) → Type 0
LeafHasRange (innermost.Number of) = of.0 < 2 ^ 32
LeafHasRange (innermost.Content of total offset) =
    (of.0 < 2 ^ 32) × (total < 2 ^ 32) × (offset < 2 ^ 32)
LeafHasRange (innermost.Opening of count) = (of.0 < 2 ^ 32) × (count < 2 ^ 32)

abbrev pub LastHasRange : (last : Last) → Type 0
LastHasRange lasts.Nothing = Unit {0}
LastHasRange (lasts.Status n) = n < 2 ^ 32
LastHasRange (lasts.Interface i) = i.0 < 2 ^ 32

pub record NotesHaveRange (notes : Notes) : Type 0 where
  pub request_id : IfSome notes.request_id (λ n. n < 2 ^ 32)
  pub last : LastHasRange notes.last
  pub name : length notes.name.items ≤ 128

-- each of the decoder's own fields has room
pub record HasRange (d : Decoder) : Type 0 where
  pub message : d.head.message < 2 ^ 64
  pub carry : length d.carry ≤ 8
  pub piece : length d.piece.items ≤ 32
  pub notes : NotesHaveRange d.notes

-- ---- a decoder that is stored

-- these octets are what is stored of the decoder
pub record Stored (d : Decoder) (fixed_octets frame_octets : List ℕ) : Type 0 where
  pub leaf : Innermost
  pub goes_on : d.leaf ≡ Some leaf
  pub fixed_are : fixed_octets ≡ saved_fixed d leaf
  pub frames_are : frame_octets ≡ saved_frames (d.outer.items ++ leaf_frame leaf ∷ [])
  pub range : HasRange d
  pub leaf_range : LeafHasRange leaf
  pub outer_range : AllByRecursion FrameHasRange d.outer.items
  pub few : length d.outer.items < 24

-- the notes n are what a checkpoint keeps of the notes m
pub record AreSavedNotes (notes saved : Notes) : Type 0 where
  pub request_id : saved.request_id ≡ notes.request_id
  pub last : saved.last ≡ notes.last
  pub expects_reply : saved.expects_reply ≡ notes.expects_reply
  pub buffer : saved.buffer ≡ notes.buffer
  pub name : saved.name.items ≡ saved_name notes.buffer notes.name.items

-- the decoder e is what a checkpoint keeps of the decoder d
pub record IsRestored (stored restored : Decoder) : Type 0 where
  pub order : restored.order ≡ stored.order
  pub head : restored.head ≡ stored.head
  pub at : restored.at ≡ stored.at
  pub forbids_wide : restored.forbids_wide ≡ stored.forbids_wide
  pub leaf : restored.leaf ≡ stored.leaf
  pub outer : restored.outer.items ≡ stored.outer.items
  pub inside : restored.inside ≡ within_of restored.outer.items
  pub carry : restored.carry ≡ stored.carry
  pub piece : restored.piece.items ≡ stored.piece.items
  pub notes : AreSavedNotes stored.notes restored.notes
