-- Which frames and innermost part fit a table, from the numbers of their types: what is checked of
-- a decoder that is restored from octets (state).
use Rattle.std.specs.Prelude.{◌≡◌, ℕ, pred, ◌-◌, ◌<◌, List, [], ◌∷◌, length, Option, Some, None}
use Rattle.giop_cdr.specs.declared.order.Order.{Order}
use Rattle.giop_decode.specs.declared.decoder.Decoder.{Decoder}
use Rattle.giop_decode.specs.declared.frame.Frame.{Frame}
use Rattle.giop_decode.specs.declared.leaf.Leaf.{Leaf as Innermost}
use Rattle.giop_decode.specs.SeenState.{NotesFitRoot}
use Rattle.giop_decode.specs.Fits.{CanFollow, HasParts, FitsIn, IsEncapsulation}
use Rattle.giop_decode.specs.NameBuffer.{NameBufferFits, string_offset}
use Rattle.giop_decode.specs.Transitions.{leaf_by, leaf_type, tree_in, within_of, part_index, HoldsOnlyItsOwn, FrameIndexFitsAs}
use Rattle.giop_decode.specs.declared.frame.Stage.{Stage}
use Rattle.giop_sig.specs.Fits.{IsEmptyStruct}
use Rattle.giop_sig.specs.Table.{Table}
use Rattle.giop_sig.specs.Trees.{part_number_in, tree, tree_at}
use Rattle.giop_sig.specs.Types.{Ty, Led, Union, case_count}

-- a type has this part, and this many parts; the cases of a union aren't counted
abbrev pub HasPart : (T : Ty) (index part_count_or_0_if_uncounted : ℕ) → Type 0
HasPart (Union choice scalar select names cases) index count =
    (index < case_count choice) × (count ≡ 0)
HasPart (Led h F parts) index count = CanFollow h index × (count ≡ 0)
HasPart T index count = HasParts T count × (index < count)

-- a frame of a type: for one of its parts, or for an encapsulation, some of whose octets were taken
-- and some are to come
abbrev pub HasFrame : (encapsulation_order : Option Order) (T : Ty)
    (index_or_octets_taken count_of_parts_or_octets : ℕ) → Type 0
HasFrame None T index count = HasPart T index count
HasFrame (Some order) T index count = IsEncapsulation T × (0 < index) × (index < count)

-- the same, or a frame of a type whose first part tells what comes after it
abbrev pub HasFrameAs : (telling_stage : Option Stage) (encapsulation_order : Option Order) (T : Ty)
    (index_or_octets_taken count_of_parts_or_octets : ℕ) → Type 0
HasFrameAs None inside T index count = HasFrame inside T index count
HasFrameAs (Some stage) inside T index count = FrameIndexFitsAs (Some stage) inside index count T

-- an innermost part of this type fits into a room, with what is held of it
abbrev pub LeafFits : (C : Table) (depth_left : ℕ) (leaf : Innermost)
    (held_of_number held_of_piece : List ℕ) → Type 0
LeafFits C room leaf carry piece = (let T = tree_at C room (leaf_type leaf) in
    FitsIn T [] (leaf_by T leaf carry piece) × HoldsOnlyItsOwn leaf carry piece)

-- each frame is for the part that the one before it is at, and the innermost part is the one that
-- the last frame is at; the first frame is for a type in this room
abbrev pub FramesChain : (C : Table) (depth_left first_type_index : ℕ) (frames : List Frame)
    (leaf : Innermost) → Type 0
FramesChain C room id [] leaf = leaf_type leaf ≡ id
FramesChain C room id (f ∷ frames) leaf =
    (f.of.0 ≡ id) × HasFrameAs f.told f.inside (tree_at C room id) f.index f.count
    × FramesChain C (pred room)
    (part_number_in C (pred room) id (part_index f.told f.inside f.index)) frames leaf

abbrev pub root_of : (frames : List Frame) (leaf : Innermost) → ℕ
root_of [] leaf = leaf_type leaf
root_of (f ∷ frames) leaf = f.of.0

pub record FitsCatalogue (C : Table) (d : Decoder) : Type 0 where
  pub leaf : Innermost
  pub goes_on : d.leaf ≡ Some leaf
  pub known_leaf : leaf_type leaf < length C.types
  pub known : root_of d.outer.items leaf < length C.types
  pub some : IsEmptyStruct (tree C (root_of d.outer.items leaf)) → ⊥
  pub chain : FramesChain C 24 (root_of d.outer.items leaf) d.outer.items leaf
  -- there is room for the innermost part
  pub few : length d.outer.items < 24
  pub inside : d.inside ≡ within_of d.outer.items
  pub fits : LeafFits C (24 - length d.outer.items) leaf d.carry d.piece.items
  pub at : d.at < 8
  pub of_root : NotesFitRoot C d.head.root d.notes
  pub name : NameBufferFits d.head.root (string_offset (tree_in C d.outer.items (leaf_type leaf))
      leaf) d.notes.buffer d.notes.name.items
