-- Numbers that are parts of the same part and come one after another (steps).
use Rattle.std.specs.Prelude.{◌≡◌, ℕ, suc, ◌+◌, ◌-◌, ◌%◌, ◌<◌, List, [], ◌∷◌, ◌++◌, length, take, Some}
use Rattle.giop_cdr.specs.declared.prim.Primitive.{Primitive}
use Rattle.giop_decode.specs.declared.decoder.Decoder.{Decoder}
use Rattle.giop_decode.specs.declared.frame.Frame.{Frame}
use Rattle.giop_decode.specs.declared.frame.Within.TheVariants as withins
use Rattle.giop_decode.specs.declared.leaf.Leaf.TheVariants as innermost
use Rattle.giop_decode.specs.declared.parts.PartAhead.{PartAhead}
use Rattle.giop_decode.specs.Segments.{frames_text}
use Rattle.giop_decode.specs.Transitions.{IsWholeNumber}
use Rattle.giop_print.specs.Line.{headed}
use Rattle.giop_print.specs.Paths.{root_word}
use Rattle.giop_sig.specs.Types.{Plain, Single, part_of}
use Rattle.giop_sig.specs.Table.{Table, part_number}
use Rattle.giop_sig.specs.Trees.{tree_at}
use Rattle.giop_sig.specs.declared.types.TypeId.{TypeId}

-- a frame, at its next part
abbrev pub frame_at_next : (frame : Frame) → Frame
frame_at_next f = record {
  of = f.of;
  index = f.index + 1;
  count = f.count;
  inside = f.inside;
  told = f.told;
}

-- the frames around the innermost one
abbrev pub frames_above : (frames : List Frame) → List Frame
frames_above frames = take (length frames - 1) frames

-- what the lines of the innermost frame's parts begin with, up to the part's own segment
abbrev pub front_text : (C : Table) (d : Decoder) → List ℕ
front_text C d =
    headed d.head.message (root_word d.head.root ++ frames_text C (frames_above d.outer.items))
    []

-- all octets of the number come at the front of these octets; the number is a primitive, and a part
-- of the innermost frame
pub record IsPartAhead (C : Table) (d : Decoder) (part : PartAhead) : Type 0 where
  pub leaf : d.leaf ≡ Some (innermost.Number part.of)
  pub known : part.of.0 < length C.types
  pub prim : (room : ℕ) → tree_at C room part.of.0 ≡ Single (Plain part.prim)
  pub whole : (room : ℕ) →
      IsWholeNumber (tree_at C room part.of.0) d.order d.at part.octets.now part.count part.number
  pub outside : d.inside ≡ withins.Nothing
  pub empty : d.carry ≡ []
  pub outer : d.outer.items ≡ frames_above d.outer.items ++ part.frame ∷ []

-- another primitive comes next in a frame
pub record IsNextPrimitive (C : Table) (frame : Frame) (next_type : TypeId) : Type 0 where
  pub below : frame.index + 1 < frame.count
  pub known : next_type.0 < length C.types
  pub number : next_type.0 ≡ part_number C frame.of.0 (frame.index + 1)
  pub is_part : (room : ℕ) →
      tree_at C room next_type.0 ≡ part_of (tree_at C (suc room) frame.of.0) (frame.index + 1)
  pub prim : Primitive
  pub is : (room : ℕ) → tree_at C room next_type.0 ≡ Single (Plain prim)

-- the decoder at the part that comes next
pub record IsAtNextPart (C : Table) (d new : Decoder) (part_taken : PartAhead) (next_type : TypeId)
    : Type 0
  where
    pub order : new.order ≡ d.order
    pub head : new.head ≡ d.head
    pub forbids_wide : new.forbids_wide ≡ d.forbids_wide
    pub inside : new.inside ≡ d.inside
    pub notes : new.notes ≡ d.notes
    pub carry : new.carry ≡ d.carry
    pub piece : new.piece ≡ d.piece
    pub at : new.at ≡ (d.at + part_taken.count) % 8
    pub leaf : new.leaf ≡ Some (innermost.Number next_type)
    pub outer : new.outer.items ≡ frames_above d.outer.items ++ frame_at_next part_taken.frame ∷ []
