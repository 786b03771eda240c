-- What the fields of a decoder stand for, and the transition of its innermost part at one octet
-- (steps).
use Rattle.std.specs.Prelude.{◌≡◌, ℕ, pred, ◌+◌, ◌-◌, ◌<◌, ◌≤◌, ◌^◌, ◌%◌, Bool, true, false, cond, eqb, List, [], ◌∷◌, ◌++◌, length, map, take, get_or, Option, Some, None, IfSome}
use Rattle.giop_cdr.specs.Numbers.{num}
use Rattle.giop_decode.specs.ReadingSteps.{LeavesNumberIncomplete, BreaksRule, leading_width, number_step}
use Rattle.giop_cdr.specs.declared.order.Order.{Order}
use Rattle.std.specs.List.{AllByRecursion, list_any}
use Rattle.giop_cdr.specs.declared.number.Number.{Number as Taken}
use Rattle.giop_decode.specs.declared.frame.Frame.{Frame}
use Rattle.giop_decode.specs.declared.leaf.Leaf.{Leaf as Innermost}
use Rattle.giop_decode.specs.declared.leaf.Leaf.TheVariants as innermost
use Rattle.giop_decode.specs.declared.leaf.Transition.{Transition}
use Rattle.giop_decode.specs.declared.leaf.Transition.TheVariants as transitions
use Rattle.giop_decode.specs.declared.leaf.Output.{Output}
use Rattle.giop_decode.specs.declared.leaf.Output.TheVariants as outputs
use Rattle.giop_decode.specs.declared.progress.ValueFault.{ValueFault}
use Rattle.giop_decode.specs.declared.progress.ValueFault.TheVariants as kinds
use Rattle.giop_decode.specs.ReadResult.{PathSegment, Switch, Number, Count, Size, Ordered, Piece, ValueAt, line, coding_from, OpenPart, Part, Member, Inside, Telling, Leaf, LeadingNumber, Opening, Content, Read, Done, Short, Fault}
use Rattle.giop_decode.specs.Pieces.{Block, Partial, Complete}
use Rattle.giop_decode.specs.Reading.{type_at_cut, enclosed, none_left, number_fault}
use Rattle.giop_decode.specs.Begins.{start_outer, start_leaf}
use Rattle.giop_decode.specs.Fits.{HasParts, HasCase, HasContent, IsEncapsulation, IsLed, IsRecursive}
use Rattle.giop_sig.specs.declared.types.Shape.{Shape}
use Rattle.giop_sig.specs.declared.types.Shape.TheVariants as shapes
use Rattle.giop_sig.specs.Types.{discriminator_name, Scalar, width, interpreted_by, elements_fit, Ty, Single, Struct, Union, Array, Led, part_of, switch_of, shape_in, HasIndex, IsUnion}
use Rattle.giop_decode.specs.declared.frame.Within.{Within}
use Rattle.giop_decode.specs.declared.frame.Within.TheVariants as withins
use Rattle.giop_decode.specs.declared.frame.Stage.{Stage}
use Rattle.giop_decode.specs.declared.frame.Stage.TheVariants as stages
use Rattle.giop_sig.specs.Hearings.{signal_after, inferred_of_signal}
use Rattle.giop_sig.specs.declared.types.Sign.{Sign}
use Rattle.giop_sig.specs.declared.types.Signal.{Signal}
use Rattle.giop_sig.specs.declared.types.Signal.TheVariants as signals
use Rattle.giop_sig.specs.Table.{Table}
use Rattle.giop_sig.specs.Trees.{part_number_in, tree_at}

-- ---- frames

-- in a union the index is that of a case
abbrev pub part_in : (T : Ty) (part_or_case_index part_count : ℕ) → OpenPart
part_in (Union choice scalar select names cases) index count =
    Member (Union choice scalar select names cases) index
part_in (Led h F parts) index count = Member (Led h F parts) index
part_in T index count = Part T index count

-- In an encapsulation the index is how many of its octets come before this offset, and the count is
-- how many it has.
abbrev pub open_part_in : (offset_in_message : ℕ) (encapsulation_order : Option Order) (T : Ty)
    (index_or_octets_taken count_of_parts_or_octets : ℕ) → OpenPart
open_part_in here None T index count = part_in T index count
open_part_in here (Some order) T index count =
    Inside T (coding_from order (here - index)) (here + (count - index))

-- what was told, from its stage and the number that belongs to the stage
abbrev pub signal_by : (stage : Stage) (number : ℕ) → Signal
signal_by stages.Untold number = signals.Untold
signal_by stages.Awaits number = signals.Awaits number
signal_by stages.Offers number = signals.Offers number
signal_by stages.Is number = signals.Is number
signal_by stages.Empty number = signals.Empty
signal_by stages.Unknown number = signals.Unknown

abbrev pub stage_of : (signal : Signal) → Stage
stage_of signals.Untold = stages.Untold
stage_of (signals.Awaits n) = stages.Awaits
stage_of (signals.Offers n) = stages.Offers
stage_of (signals.Is n) = stages.Is
stage_of signals.Empty = stages.Empty
stage_of signals.Unknown = stages.Unknown

abbrev pub number_of : (signal : Signal) → ℕ
number_of (signals.Awaits n) = n
number_of (signals.Offers n) = n
number_of (signals.Is n) = n
number_of signal = 0

-- If a type's first part tells what comes after it and is being read, the stage and the index say
-- what it has told.
abbrev pub part_as : (telling_stage : Option Stage) (offset_in_message : ℕ)
    (encapsulation_order : Option Order) (T : Ty)
    (index_or_octets_taken count_of_parts_or_octets : ℕ) → OpenPart
part_as None here inside T index count = open_part_in here inside T index count
part_as (Some stage) here inside T index count =
    Telling T (inferred_of_signal (signal_by stage index))

-- the open part that a frame stands for, in a room and at an offset
abbrev pub open_part : (C : Table) (depth_left offset_in_message : ℕ) (frame : Frame) → OpenPart
open_part C room here f = part_as f.told here f.inside (tree_at C room f.of.0) f.index f.count

-- the open parts that frames stand for, the outermost first; each leaves one level of room less
abbrev pub parts_in_room : (C : Table) (depth_left offset_in_message : ℕ) (frames : List Frame) →
    List OpenPart
parts_in_room C room here [] = []
parts_in_room C room here (f ∷ frames) =
    open_part C room here f ∷ parts_in_room C (pred room) here frames

-- the same in the room of a whole value
abbrev pub open_parts : (C : Table) (offset_in_message : ℕ) (frames : List Frame) → List OpenPart
open_parts C here frames = parts_in_room C 24 here frames

-- the tree of a type within these frames, in the room that they leave
abbrev pub tree_in : (C : Table) (frames : List Frame) (type_index : ℕ) → Ty
tree_in C frames of = tree_at C (24 - length frames) of

-- a shape of which one part is read, so that its frames have no count
abbrev pub IsUncounted : (shape : Shape) → Type 0
IsUncounted (shapes.Union count) = Unit {0}
IsUncounted shapes.Tagged = Unit {0}
IsUncounted shapes.Led = Unit {0}
IsUncounted s = ⊥

-- an index and a count of an encapsulation, or of another type
abbrev pub FrameIndexFits : (encapsulation_order : Option Order)
    (index_or_octets_taken count_of_parts_or_octets : ℕ) (T : Ty) → Type 0
FrameIndexFits None index count T = HasIndex (shape_in T) index × (IsEncapsulation T → ⊥)
    × (IsUncounted (shape_in T) → count ≡ 0)
FrameIndexFits (Some order) index count T = IsEncapsulation T × (0 < index) × (index ≤ count)

-- the same, or of a type whose first part tells what comes after it
abbrev pub FrameIndexFitsAs : (telling_stage : Option Stage) (encapsulation_order : Option Order)
    (index_or_octets_taken count_of_parts_or_octets : ℕ) (T : Ty) → Type 0
FrameIndexFitsAs None inside index count T = FrameIndexFits inside index count T
FrameIndexFitsAs (Some stage) inside index count T = IsLed T × (inside ≡ None) × (count ≡ 0)

-- a frame of a type of the table, which has a part with that index in any room; a union has no
-- count
pub record IsKnown (C : Table) (frame : Frame) : Type 0 where
  pub known : frame.of.0 < length C.types
  pub within : (room : ℕ) → FrameIndexFitsAs frame.told frame.inside frame.index frame.count
      (tree_at C room frame.of.0)

-- frames of types of the table
abbrev pub AreKnown : (C : Table) (frames : List Frame) → Type 0
AreKnown C frames = AllByRecursion (IsKnown C) frames

-- an encapsulation has octets to come
abbrev pub HasOctetsLeft : (frame : Frame) → Type 0
HasOctetsLeft f = IfSome f.inside (λ order. f.index < f.count)

abbrev pub HaveOctetsLeft : (frames : List Frame) → Type 0
HaveOctetsLeft frames = AllByRecursion HasOctetsLeft frames

-- an offset that a frame may be at: it is no less than the number of octets that were taken of an
-- encapsulation
abbrev pub StandsAt : (offset_in_message : ℕ) (frame : Frame) → Type 0
StandsAt here f = IfSome f.inside (λ order. f.index ≤ here)

abbrev pub StandAt : (offset_in_message : ℕ) (frames : List Frame) → Type 0
StandAt here frames = AllByRecursion (StandsAt here) frames

-- which part is being read: an encapsulation has one, and a part that tells what comes after it is
-- the first
abbrev pub part_index : (telling_stage : Option Stage) (encapsulation_order : Option Order)
    (frame_index : ℕ) → ℕ
part_index None None index = index
part_index None (Some order) index = 0
part_index (Some stage) inside index = 0

-- each frame is for the part that the one before it is at, from the root, which has this room, to
-- the innermost part
abbrev pub LinkIn : (C : Table) (depth_left root_type_index : ℕ) (frames : List Frame)
    (innermost_type_index : ℕ) → Type 0
LinkIn C room root [] inner = inner ≡ root
LinkIn C room root (f ∷ frames) inner = (f.of.0 ≡ root)
    × LinkIn C (pred room)
    (part_number_in C (pred room) root (part_index f.told f.inside f.index)) frames inner

-- the same in the room of a whole value
abbrev pub Link : (C : Table) (root_type_index : ℕ) (frames : List Frame)
    (innermost_type_index : ℕ) → Type 0
Link C root frames inner = LinkIn C 24 root frames inner

-- a type that begins with its first part: how many parts it has, or that the first one tells what
-- comes after it
abbrev pub StartsWithPart : (T : Ty) (part_count : ℕ) (telling_stage : Option Stage) → Type 0
StartsWithPart (Struct n names parts) count told = (count ≡ n) × (told ≡ None)
StartsWithPart (Array n T) count told = (count ≡ n) × (told ≡ None)
StartsWithPart (Led h F parts) count told = (count ≡ 0) × (told ≡ Some stages.Untold)
StartsWithPart T count told = ⊥

-- ---- the innermost part

-- the leaf that an innermost part of a type stands for, with the octets that are held
abbrev pub leaf_by : (T : Ty) (innermost : Innermost) (held_of_number held_of_piece : List ℕ) → Leaf
leaf_by T (innermost.Number of) carry piece = LeadingNumber T carry
leaf_by T (innermost.Opening of count) carry piece = Opening T (count - 1)
leaf_by T (innermost.Content of total offset) carry piece = Content T total offset piece

-- the number of the innermost part's type
abbrev pub leaf_type : (leaf : Innermost) → ℕ
leaf_type (innermost.Number of) = of.0
leaf_type (innermost.Opening of left) = of.0
leaf_type (innermost.Content of total offset) = of.0

-- the same within these frames
abbrev pub leaf_of : (C : Table) (frames : List Frame) (leaf : Innermost)
    (held_of_number held_of_piece : List ℕ) → Leaf
leaf_of C frames leaf carry piece = leaf_by (tree_in C frames (leaf_type leaf)) leaf carry piece

-- what is held is empty, apart from the octets of a number or of a content
abbrev pub HoldsOnlyItsOwn : (innermost : Innermost) (held_of_number held_of_piece : List ℕ) →
    Type 0
HoldsOnlyItsOwn (innermost.Number of) carry piece = piece ≡ []
HoldsOnlyItsOwn (innermost.Opening of count) carry piece = (carry ≡ []) × (piece ≡ []) × (0 < count)
HoldsOnlyItsOwn (innermost.Content of total offset) carry piece = carry ≡ []

-- ---- the ends of encapsulations

-- whether an encapsulation has ended, by its index and its count
abbrev pub encapsulation_ended : (encapsulation_order : Option Order)
    (octets_taken encapsulation_size : ℕ) → Bool
encapsulation_ended None index count = false
encapsulation_ended (Some order) index count = eqb index count

abbrev pub is_some_order : (order : Option Order) → Bool
is_some_order None = false
is_some_order (Some order) = true

abbrev pub is_some_stage : (stage : Option Stage) → Bool
is_some_stage None = false
is_some_stage (Some stage) = true

-- whether one of the frames is that of an encapsulation, and whether one's first part tells what
-- comes after it
abbrev pub any_is_encapsulation : (frames : List Frame) → Bool
any_is_encapsulation frames = list_any (λ f. is_some_order f.inside) frames

abbrev pub any_tells : (frames : List Frame) → Bool
any_tells frames = list_any (λ f. is_some_stage f.told) frames

-- what frames ask of each octet, by whether one of them tells what comes after it, and whether one
-- is that of an encapsulation
abbrev pub within_by : (any_tells_what_follows any_is_an_encapsulation : Bool) → Within
within_by true holds = withins.Telling
within_by false true = withins.Encapsulation
within_by false false = withins.Nothing

-- what these frames ask of each octet
abbrev pub within_of : (frames : List Frame) → Within
within_of frames = within_by (any_tells frames) (any_is_encapsulation frames)

-- what frames ask of each octet after one more frame, by whether that one tells what comes after it
abbrev pub within_after_frame : (frame_tells_what_follows : Bool) (within_before : Within) → Within
within_after_frame true within = withins.Telling
within_after_frame false within = within

-- what frames ask of each octet after one more encapsulation
abbrev pub within_after_encapsulation : (within_before : Within) → Within
within_after_encapsulation withins.Telling = withins.Telling
within_after_encapsulation within = withins.Encapsulation

-- what frames ask of each octet is no more than this
abbrev pub IsAtMost : (within most : Within) → Type 0
IsAtMost withins.Nothing most = Unit {0}
IsAtMost withins.Encapsulation withins.Nothing = ⊥
IsAtMost withins.Encapsulation most = Unit {0}
IsAtMost withins.Telling withins.Telling = Unit {0}
IsAtMost withins.Telling most = ⊥

-- the index of a frame after one more octet: only an encapsulation counts its octets
abbrev pub index_after_octet : (encapsulation_order : Option Order) (frame_index : ℕ) → ℕ
index_after_octet None index = index
index_after_octet (Some order) index = index + 1

-- a frame after one more octet
abbrev pub frame_after_octet : (frame : Frame) → Frame
frame_after_octet f = record {
  of = f.of;
  index = index_after_octet f.inside f.index;
  count = f.count;
  inside = f.inside;
  told = f.told;
}

-- one more octet in each encapsulation
abbrev pub frames_after_octet : (frames : List Frame) → List Frame
frames_after_octet frames = map frame_after_octet frames

-- the index of a frame after `count` more octets
abbrev pub index_after_octets : (octet_count : ℕ) (encapsulation_order : Option Order)
    (frame_index : ℕ) → ℕ
index_after_octets count None index = index
index_after_octets count (Some order) index = index + count

-- a frame after `count` more octets
abbrev pub frame_after_octets : (octet_count : ℕ) (frame : Frame) → Frame
frame_after_octets n f = record {
  of = f.of;
  index = index_after_octets n f.inside f.index;
  count = f.count;
  inside = f.inside;
  told = f.told;
}

-- `count` more octets in each encapsulation
abbrev pub frames_after_octets : (octet_count : ℕ) (frames : List Frame) → List Frame
frames_after_octets count frames = map (frame_after_octets count) frames

-- what a frame has told after a sign, and the number that belongs to that
abbrev pub stage_after_sign : (C : Table) (sign : Sign) (type_index : ℕ)
    (stage_before : Option Stage) (stage_number_before : ℕ) → Option Stage
stage_after_sign C sign of None index = None
stage_after_sign C sign of (Some stage) index =
    Some (stage_of (signal_after C of (signal_by stage index) sign))

abbrev pub number_after_sign : (C : Table) (sign : Sign) (type_index : ℕ)
    (stage_before : Option Stage) (stage_number_before : ℕ) → ℕ
number_after_sign C sign of None index = index
number_after_sign C sign of (Some stage) index =
    number_of (signal_after C of (signal_by stage index) sign)

abbrev pub frame_after_sign : (C : Table) (sign : Sign) (frame : Frame) → Frame
frame_after_sign C sign f = record {
  of = f.of;
  index = number_after_sign C sign f.of.0 f.told f.index;
  count = f.count;
  inside = f.inside;
  told = stage_after_sign C sign f.of.0 f.told f.index;
}

-- the frames after a sign, which each hears whose first part tells what comes after it
abbrev pub frames_after_sign : (C : Table) (sign : Sign) (frames : List Frame) → List Frame
frames_after_sign C sign frames = map (frame_after_sign C sign) frames

abbrev pub coding_in_frame : (outer_coding : Order × ℕ) (encapsulation_order : Option Order)
    (octets_taken : ℕ) → Order × ℕ
coding_in_frame c None index = c
coding_in_frame c (Some order) index = (order, index % 8)

-- the byte order of the innermost part, and the phase modulo 8 by which its numbers are aligned
abbrev pub innermost_coding : (order : Order) (phase_mod_8 : ℕ) (frames : List Frame) → Order × ℕ
innermost_coding order at [] = (order, at)
innermost_coding order at (f ∷ frames) = (let c = coding_in_frame (order, at) f.inside f.index in
    innermost_coding c.0 c.1 frames)

-- whether an encapsulation has ended
abbrev pub any_encapsulation_ended : (frames : List Frame) → Bool
any_encapsulation_ended frames = list_any (λ f. encapsulation_ended f.inside f.index f.count) frames

-- an innermost part that goes on within these frames, unless one of them has ended
abbrev pub short_unless_ended : (C : Table) (lines : List ValueAt) (offset_reached : ℕ)
    (frames : List Frame) (leaf : Leaf) → Read
short_unless_ended C lines at frames leaf =
    cond (any_encapsulation_ended frames) (Fault lines at kinds.EncapShort (type_at_cut leaf))
    (Short lines at (open_parts C at frames) leaf)

-- the reading after a part has ended at this offset, from the innermost part that comes next
abbrev pub read_from_next_leaf : (C : Table) (offset_reached : ℕ) (frames_left : List Frame)
    (next_leaf : Option Innermost) → Read
read_from_next_leaf C at outer None = Done [] at []
read_from_next_leaf C at outer (Some leaf) = short_unless_ended C [] at outer
    (leaf_of C outer leaf [] [])

-- ---- transitions

-- the reading after the count of a recursive sequence's elements, which is at least 1; they may
-- have room or not
abbrev pub after_recursive_count : (T : Ty) (elements_have_room : Bool) (element_count : ℕ)
    (lines : List ValueAt) (offset_after_count : ℕ) → Read
after_recursive_count T true count lines at =
    Short lines at (Part T 0 count ∷ start_outer (part_of T 0)) (start_leaf (part_of T 0))
after_recursive_count T false count lines at = Fault lines at kinds.Untyped T

-- the reading of an innermost part after a transition, with these lines at this offset
abbrev pub after_transition : (T : Ty) (transition : Transition)
    (held_of_number held_of_piece : List ℕ) (lines : List ValueAt) (offset_after_octet : ℕ) → Read
after_transition T (transitions.More leaf) carry piece lines at =
    Short lines at [] (leaf_by T leaf carry piece)
after_transition T transitions.Ended carry piece lines at = Done lines at []
after_transition T (transitions.Opened count) carry piece lines at =
    Short lines at (Part T 0 count ∷ start_outer (part_of T 0)) (start_leaf (part_of T 0))
after_transition T (transitions.Recursed count) carry piece lines at =
    after_recursive_count T (elements_fit T) count lines at
after_transition T transitions.Stopped carry piece lines at = Fault lines at kinds.Untyped T
after_transition T (transitions.Selected i) carry piece lines at =
    Short lines at (Member T i ∷ start_outer (part_of T i)) (start_leaf (part_of T i))
after_transition T (transitions.Entered order count) carry piece lines at =
    enclosed [] T (coding_from order (at - 1)) (at + (count - 1)) none_left
    (Short lines at (start_outer (part_of T 0)) (start_leaf (part_of T 0))) []
after_transition T (transitions.Refused kind) carry piece lines at = Fault lines at kind T

-- what a transition does, if the elements of a recursive sequence have room or not
abbrev pub resolve_recursion : (transition : Transition) (elements_have_room : Bool) → Transition
resolve_recursion (transitions.Recursed count) true = transitions.Opened count
resolve_recursion (transitions.Recursed count) false = transitions.Stopped
resolve_recursion transition fits = transition

-- a transition for which this is known
abbrev pub IsRecursionResolved : (transition : Transition) → Type 0
IsRecursionResolved (transitions.Recursed count) = ⊥
IsRecursionResolved transition = Unit {0}

-- parts come only if there are some, and an innermost part that goes on has the same type
abbrev pub TransitionFits : (T : Ty) (type_index : ℕ) (transition : Transition)
    (held_of_number held_of_piece : List ℕ) → Type 0
TransitionFits T of (transitions.More leaf) carry piece =
    (leaf_type leaf ≡ of) × HoldsOnlyItsOwn leaf carry piece
TransitionFits T of (transitions.Opened count) carry piece = HasParts T count × (0 < count)
TransitionFits T of (transitions.Recursed count) carry piece = IsRecursive T × (0 < count)
TransitionFits T of (transitions.Selected i) carry piece = HasCase T i
TransitionFits T of (transitions.Entered order count) carry piece = IsEncapsulation T × (0 < count)
TransitionFits T of (transitions.Refused kind) carry piece = BreaksRule kind
TransitionFits T of transition carry piece = Unit {0}

-- nothing is held after the transition, unless the innermost part goes on or breaks a rule
abbrev pub HoldsNothingAfter : (transition : Transition) (held_of_number held_of_piece : List ℕ) →
    Type 0
HoldsNothingAfter (transitions.More leaf) carry piece = Unit {0}
HoldsNothingAfter (transitions.Refused kind) carry piece = Unit {0}
HoldsNothingAfter transition carry piece = (carry ≡ []) × (piece ≡ [])

-- a number that is a value of a type of one number
pub record IsNumberOf (T : Ty) (number : Taken) : Type 0 where
  pub scalar : Scalar
  pub n : ℕ
  pub is : T ≡ Single scalar
  pub right : number_fault scalar n ≡ None
  pub taken : interpreted_by scalar n ≡ Some number
  pub within : n < 256 ^ width scalar

-- the name of a union's discriminator, if it has one
abbrev pub tag_in : (union : Ty) → Option (List ℕ)
tag_in (Union choice scalar select names cases) = discriminator_name choice scalar names
tag_in T = None

abbrev pub switch_segment : (T : Ty) → PathSegment
switch_segment T = Switch (tag_in T)

-- the line of an octet, if it has one; a piece has these octets, those that are held and those
-- ahead
abbrev pub IsOutput : (T : Ty) (path : List PathSegment) (offset_after_octet : ℕ) (output : Output)
    (piece_octets : List ℕ) (lines : List ValueAt) → Type 0
IsOutput T path at outputs.Nothing piece lines = lines ≡ []
IsOutput T path at outputs.Length piece lines = lines ≡ []
IsOutput T path at (outputs.Number number) piece lines =
    (is : IsNumberOf T number) × (lines ≡ line at path (Number is.scalar is.n) ∷ [])
IsOutput T path at (outputs.Switch number) piece lines =
    (is : IsNumberOf (switch_of T) number)
    × (lines ≡ line at (path ++ switch_segment T ∷ []) (Number is.scalar is.n) ∷ [])
IsOutput T path at (outputs.Count count) piece lines = lines ≡ line at path (Count count) ∷ []
IsOutput T path at (outputs.Size size) piece lines = lines ≡ line at path (Size size) ∷ []
IsOutput T path at (outputs.Ordered order) piece lines = lines ≡ line at path (Ordered order) ∷ []
IsOutput T path at (outputs.Piece offset more) piece lines =
    lines ≡ line at path (Piece T offset piece more) ∷ []

-- what is held of a piece after that line: a piece that was written is no longer held
abbrev pub held_after_output : (output : Output) (held_of_piece : List ℕ) → List ℕ
held_after_output (outputs.Piece offset more) piece = []
held_after_output output piece = piece

-- which outputs a type may have
abbrev pub HasOutput : (T : Ty) (output : Output) → Type 0
HasOutput T (outputs.Number number) = IsNumberOf T number
HasOutput T (outputs.Switch number) = IsUnion (shape_in T) × IsNumberOf (switch_of T) number
HasOutput T (outputs.Piece offset more) = HasContent T
HasOutput T output = Unit {0}

-- the reading is that after this transition, with the line of this output; these octets are held
-- until the line is written
pub record TransitionGives (T : Ty) (transition : Transition) (output : Output)
    (held_of_number held_of_piece : List ℕ) (path : List PathSegment) (offset_after_octet : ℕ)
    (read : Read) : Type 0 where
  pub lines : List ValueAt
  pub comes : read ≡ after_transition T transition held_of_number
      (held_after_output output held_of_piece) lines offset_after_octet
  pub says : IsOutput T path offset_after_octet output held_of_piece lines

-- what is wrong if a bound is exceeded
abbrev pub bound_fault_if : (is_over : Bool) → Option ValueFault
bound_fault_if true = Some kinds.Bound
bound_fault_if false = None

-- what is wrong if a kind has no word
abbrev pub enum_fault_if : (is_unnamed : Bool) → Option ValueFault
enum_fault_if true = Some kinds.Enum
enum_fault_if false = None

-- the octets of a block, all of them or a part
abbrev pub block_of : (is_whole : Bool) (octets_held : List ℕ) (offset_after_octets : ℕ) → Block
block_of true held at = Complete held at []
block_of false held at = Partial held at

-- `octet_count` octets at the front of others, the first of which has this phase modulo 8, belong to
-- a number of this width, some of whose octets are held, or to the padding before it. They are held
-- until the last of them comes, after which the number is whole or not.
pub record BelongToNumber (width first_phase_mod_8 : ℕ) (value_octets_held octets : List ℕ)
    (octet_count : ℕ) (is_number_whole : Bool) (value_octets_held_after : List ℕ) : Type 0 where
  pub some : 0 < octet_count
  pub within : octet_count ≤ length octets
  pub held : List ℕ
  pub are_held : LeavesNumberIncomplete width first_phase_mod_8 value_octets_held
      (take (octet_count - 1) octets) held
  pub last : (phase : ℕ → ℕ) (here : ℕ) → phase here % 8
      ≡ (first_phase_mod_8 + (octet_count - 1)) % 8 →
      number_step phase width here held (get_or octets (octet_count - 1) 0)
      ≡ block_of is_number_whole value_octets_held_after (here + 1)

-- a number of four octets, all of which come at the front of these
pub record IsWholeLong (order : Order) (first_phase_mod_8 : ℕ) (octets : List ℕ)
    (octet_count long_value : ℕ) : Type 0 where
  pub all : List ℕ
  pub stands : BelongToNumber 4 first_phase_mod_8 [] octets octet_count true all
  pub spelled : long_value ≡ num order all

-- a number of a type, all of whose octets come at the front of these
pub record IsWholeNumber (T : Ty) (order : Order) (first_phase_mod_8 : ℕ) (octets : List ℕ)
    (octet_count : ℕ) (number : Taken) : Type 0 where
  pub all : List ℕ
  pub stands : BelongToNumber (leading_width T) first_phase_mod_8 [] octets octet_count true all
  pub is : IsNumberOf T number
  pub spelled : is.n ≡ num order all
