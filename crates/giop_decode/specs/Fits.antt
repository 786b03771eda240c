-- Which open parts and which leaf a type can have (state).
use Rattle.std.specs.Prelude.{◌≡◌, true, ℕ, zero, suc, ◌+◌, ◌-◌, ◌<◌, ◌≤◌, List, [], ◌∷◌, length}
use Rattle.giop_decode.specs.ReadResult.{Coding, OpenPart, Part, Member, Inside, Telling, Leaf, LeadingNumber, Opening, Content, Read, Done, Short, Fault}
use Rattle.giop_decode.specs.Pieces.{terminator_size}
use Rattle.giop_decode.specs.ReadingSteps.{leading_width}
use Rattle.giop_sig.specs.Types.{case_count, Ty, Text, Octets, Struct, Union, Sequence, Array, part_of, Encapsulation, Recursive, Led, InferredType, Then, TypeInference, sequel}
use Rattle.giop_sig.specs.Fits.{IsFit}
use Rattle.std.specs.List.{AllByRecursion}

-- a type that begins with a number
abbrev pub HasLeadingNumber : (T : Ty) → Type 0
HasLeadingNumber (Struct count names parts) = ⊥
HasLeadingNumber (Array count T) = ⊥
HasLeadingNumber (Led h F parts) = ⊥
HasLeadingNumber T = Unit {0}

-- a type that has a content after its length: a string, counted octets, or an encapsulation, whose
-- content is its rest
abbrev pub HasContent : (T : Ty) → Type 0
HasContent (Text bound) = Unit {0}
HasContent (Octets kind) = Unit {0}
HasContent (Encapsulation T) = Unit {0}
HasContent T = ⊥

abbrev pub IsEncapsulation : (T : Ty) → Type 0
IsEncapsulation (Encapsulation T) = Unit {0}
IsEncapsulation T = ⊥

-- a type that begins with a part that tells what comes after it
abbrev pub IsLed : (T : Ty) → Type 0
IsLed (Led h F parts) = Unit {0}
IsLed T = ⊥

-- a sequence whose elements have a type that was announced
abbrev pub IsRecursive : (T : Ty) → Type 0
IsRecursive (Recursive bound fits T) = Unit {0}
IsRecursive T = ⊥

-- what can come at a place: not the part that tells
abbrev pub CanFollow : (inference : TypeInference) (place : ℕ) → Type 0
CanFollow h zero = ⊥
CanFollow h (suc index) = (told : InferredType) × (sequel h told ≡ Then index)

-- a type with this many parts; the elements of a recursive sequence are parts if they have room
abbrev pub HasParts : (T : Ty) (part_count : ℕ) → Type 0
HasParts (Struct n names parts) count = count ≡ n
HasParts (Array n T) count = count ≡ n
HasParts (Sequence bound T) count = Unit {0}
HasParts (Recursive bound fits T) count = fits ≡ true
HasParts T count = ⊥

-- a union that has a case at this place, or what can come at this place after a part that tells it
abbrev pub HasCase : (T : Ty) (place : ℕ) → Type 0
HasCase (Union choice scalar select names cases) index = index < case_count choice
HasCase (Led h F parts) index = CanFollow h index
HasCase T index = ⊥

-- a number that begins a type, some of whose octets are missing
pub record LeadingNumberFits (expected found : Ty) (number_octets_held : List ℕ) : Type 0 where
  pub same : found ≡ expected
  pub kind : HasLeadingNumber expected
  pub room : length number_octets_held < leading_width expected

-- the content of a type, whose unfinished piece begins within it
pub record ContentFits (expected found : Ty) (content_size piece_offset : ℕ)
    (piece_octets_held : List ℕ) : Type 0 where
  pub same : found ≡ expected
  pub kind : HasContent expected
  pub ahead : piece_offset ≤ content_size
  -- the piece isn't whole: a full piece, or the last one with what ends it
  pub room_full : 32 < content_size - piece_offset → length piece_octets_held < 32
  pub room_last : content_size - piece_offset ≤ 32 →
      length piece_octets_held < content_size - piece_offset + terminator_size expected

-- the part at this index of a type, which has this number of parts
pub record PartFits (expected found : Ty) (index part_count : ℕ) : Type 0 where
  pub same : found ≡ expected
  pub kind : HasParts expected part_count
  pub below : index < part_count

-- the case at this place of a union
pub record MemberFits (expected found : Ty) (place : ℕ) : Type 0 where
  pub same : found ≡ expected
  pub kind : HasCase expected place

-- the octet of an encapsulation that has its byte order
pub record OpeningFits (expected found : Ty) : Type 0 where
  pub same : found ≡ expected
  pub kind : IsEncapsulation expected

-- a part that tells what comes after it
pub record TellingFits (expected found : Ty) : Type 0 where
  pub same : found ≡ expected
  pub kind : IsLed expected

-- the octets of an encapsulation after the one with its byte order
pub record InsideFits (expected found : Ty) : Type 0 where
  pub same : found ≡ expected
  pub kind : IsEncapsulation expected

-- open parts, each within the one before, and a leaf, which fit a type
abbrev pub FitsIn : (T : Ty) (parts_outermost_first : List OpenPart) (leaf : Leaf) → Type 0
FitsIn T [] (LeadingNumber U carry) = LeadingNumberFits T U carry
FitsIn T [] (Opening U n) = OpeningFits T U
FitsIn T [] (Content U total offset piece) = ContentFits T U total offset piece
FitsIn T (Part U i count ∷ outer) leaf = PartFits T U i count × FitsIn (part_of T i) outer leaf
FitsIn T (Member U i ∷ outer) leaf = MemberFits T U i × FitsIn (part_of T i) outer leaf
FitsIn T (Inside U coding end ∷ outer) leaf = InsideFits T U × FitsIn (part_of T 0) outer leaf
FitsIn T (Telling U told ∷ outer) leaf = TellingFits T U × FitsIn (part_of T 0) outer leaf

-- after this many octets of a message, what a coding counts has begun: it is above 0 from there on
abbrev pub CodingHasBegun : (coding : Coding) (offset_in_message : ℕ) → Type 0
CodingHasBegun coding at = (here : ℕ) → at ≤ here → 0 < coding.phase here

-- after this many octets of a message, an encapsulation has begun and not ended
abbrev pub HoldsOffset : (offset_in_message : ℕ) (part : OpenPart) → Type 0
HoldsOffset at (Inside T coding end) = (at < end) × CodingHasBegun coding at
HoldsOffset at place = Unit {0}

abbrev pub AllHoldOffset : (offset_in_message : ℕ) (open_parts : List OpenPart) → Type 0
AllHoldOffset at open_parts = AllByRecursion (HoldsOffset at) open_parts

-- an open part that fits into this depth: its type fits, and has the part
abbrev pub OpenPartFits : (depth_left : ℕ) (part : OpenPart) → Type 0
OpenPartFits depth (Part T i count) = HasParts T count × (i < count) × IsFit depth T
OpenPartFits depth (Member T i) = HasCase T i × IsFit depth T
OpenPartFits depth (Inside T coding end) = IsEncapsulation T × IsFit depth T
OpenPartFits depth (Telling T told) = IsLed T × IsFit depth T

-- open parts, each within the one before; the outermost one fits into this depth
abbrev pub OpenPartsFit : (depth_left : ℕ) (parts_outermost_first : List OpenPart) → Type 0
OpenPartsFit depth [] = Unit {0}
OpenPartsFit zero (place ∷ outer) = ⊥
OpenPartsFit (suc depth) (place ∷ outer) = OpenPartFits (suc depth) place × OpenPartsFit depth outer

-- the type of a leaf
abbrev pub leaf_ty : (leaf : Leaf) → Ty
leaf_ty (LeadingNumber T carry) = T
leaf_ty (Opening T n) = T
leaf_ty (Content T total offset piece) = T

-- A reading whose last octet comes just before this offset ends there, and leaves open parts and a
-- leaf that fit the type.
abbrev pub IsSoundReading : (T : Ty) (offset_after_last_octet : ℕ) (read : Read) → Type 0
IsSoundReading T end (Done lines at rest) = at + length rest ≡ end
IsSoundReading T end (Short lines at outer leaf) = (at ≡ end) × FitsIn T outer leaf
    × AllHoldOffset end outer
IsSoundReading T end (Fault lines at kind S) = Unit {0}
