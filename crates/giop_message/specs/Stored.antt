-- What a checkpoint keeps of a message, as octets (docs/FORMATS.md; state). A message has 224
-- octets, in addition to its number and its header. 16 of them are those of the message itself:
--
--     at  octets
--      0       1  the part in which it is: 0 header, 1 repository id, 2 body, 3 padding, 4 rest,
--                 5 system exception
--      1       8  the offset of its next octet, at least 12
--      9       5  whether its request id was read, 0 or 1, and the id; all are zero in the header,
--                 since the decoder has the id there
--     14       1  what its offset lacks of the one that padding is counted by, modulo 8
--     15       1  zero
--
-- The other 208 are those of the decoder of a header, a repository id or a body; or of padding:
--
--      0       1  the body after it: 0 none, 1 of a type, 2 an exception, 3 a system exception
--      1       4  the type; else 0
--      5     203  zero
--
-- or of a rest:
--
--      0       8  how many octets are before its last part
--      8      33  its last part: how many octets, and room for 32
--     41     167  zero
--
-- A decoder has its frames in addition. Numbers are big-endian; held octets are followed by zeros.
use Rattle.std.specs.Prelude.{◌≡◌, ℕ, ◌^◌, ◌<◌, cond, List, [], ◌∷◌, ◌++◌, take, drop, replicate, Option, None, IfSome}
use Rattle.giop_octets.specs.Fields.{four, eight, optional, held}
use Rattle.giop_print.specs.declared.path.Root.{Root}
use Rattle.giop_sig.specs.Types.{Ty}
use Rattle.giop_sig.specs.Table.{Table}
use Rattle.giop_decode.specs.declared.decoder.Decoder.{Decoder}
use Rattle.giop_decode.specs.DecoderState as decoder
use Rattle.giop_decode.specs.ReadResult.{Coding}
use Rattle.giop_decode.specs.Stored as decoders
use Rattle.giop_message.specs.declared.message.Message.{Message}
use Rattle.giop_message.specs.declared.part.Part.{Part}
use Rattle.giop_message.specs.declared.part.Part.TheVariants as parts
use Rattle.giop_message.specs.declared.part.Rest.{Rest}
use Rattle.giop_message.specs.declared.part.Section.{Section}
use Rattle.giop_message.specs.declared.part.Section.TheVariants as sections
use Rattle.giop_message.specs.declared.body_type.BodyTypeId.{BodyTypeId}
use Rattle.giop_message.specs.declared.body_type.BodyTypeId.TheVariants as body_type_ids
use Rattle.giop_message.specs.MessageState.{in_header}

-- ---- the octets

-- the octet of a section
abbrev pub section_octet : (section : Section) → ℕ
section_octet sections.Header = 0
section_octet sections.Exception = 1
section_octet sections.SystemException = 5
section_octet sections.Body = 2

-- the octet of a part
abbrev pub part_octet : (part : Part) → ℕ
part_octet (parts.Typed section) = section_octet section
part_octet (parts.Padding body_type_id) = 3
part_octet (parts.Rest r) = 4

-- After the header has ended, the request id has a field of its own; until then, the decoder has
-- it.
abbrev pub stored_id : (part_unless_in_header : Part) (request_id : Option ℕ) → Option ℕ
stored_id part id = cond (in_header part) None id

-- the 16 octets of the message itself: the part, the offset of the next octet, the request id, and
-- what the offset lacks
unfoldable pub own_octets : (message : Message) → List ℕ
own_octets m = part_octet m.part ∷ eight m.at ++ optional (stored_id m.part m.id) ++ m.lacks ∷ 0
    ∷ []

-- the octets of a body's type: its kind, and its number
abbrev pub body_type_octets : (body_type_id : BodyTypeId) → List ℕ
body_type_octets body_type_ids.Nothing = 0 ∷ four 0
body_type_octets (body_type_ids.Type of) = 1 ∷ four of.0
body_type_octets body_type_ids.Exception = 2 ∷ four 0
body_type_octets body_type_ids.SystemException = 3 ∷ four 0

-- the 208 octets of the padding before such a body
unfoldable pub padding_octets : (body_type_id : BodyTypeId) → List ℕ
padding_octets body_type_id = body_type_octets body_type_id ++ replicate 203 0

-- the 208 octets of a rest: the offset of its last part, and the octets of that part
unfoldable pub rest_octets : (rest : Rest) → List ℕ
rest_octets r = eight r.offset ++ held 32 r.held.items ++ replicate 167 0

-- ---- the message that octets store

-- the number of the type fits into its field
abbrev pub BodyTypeIdHasRange : (body_type_id : BodyTypeId) → Type 0
BodyTypeIdHasRange body_type_ids.Nothing = Unit {0}
BodyTypeIdHasRange (body_type_ids.Type of) = of.0 < 2 ^ 32
BodyTypeIdHasRange body_type_ids.Exception = Unit {0}
BodyTypeIdHasRange body_type_ids.SystemException = Unit {0}

-- these 208 octets are those of the padding before such a body
pub record IsPaddingOf (stored_part_octets : List ℕ) (body_type_id : BodyTypeId) : Type 0 where
  pub is : stored_part_octets ≡ padding_octets body_type_id
  pub range : BodyTypeIdHasRange body_type_id

-- these 208 octets are those of a rest
pub record IsRestOf (stored_part_octets : List ℕ) (rest : Rest) : Type 0 where
  pub is : stored_part_octets ≡ rest_octets rest
  pub range : rest.offset < 2 ^ 64

-- these 16 octets are those of the message itself
pub record AreOwnOctets (stored_octets : List ℕ) (message : Message) : Type 0 where
  pub is : stored_octets ≡ own_octets message
  pub at : message.at < 2 ^ 64
  pub id : IfSome (stored_id message.part message.id) (λ n. n < 2 ^ 32)

-- a part, with its decoder if it is a section, is stored in these 208 octets and these frames; only
-- a decoder has frames
abbrev pub PartStored : (decoder : Decoder) (part : Part) (fixed_octets frame_octets : List ℕ) →
    Type 0
PartStored d (parts.Typed section) octets frames = decoders.Stored d octets frames
PartStored d (parts.Padding body_type_id) octets frames =
    IsPaddingOf octets body_type_id × (frames ≡ [])
PartStored d (parts.Rest r) octets frames = IsRestOf octets r × (frames ≡ [])

-- These 224 octets and these frames are what is stored of the message.
pub record Stored (message : Message) (fixed_octets frame_octets : List ℕ) : Type 0 where
  pub own : AreOwnOctets (take 16 fixed_octets) message
  pub part : PartStored message.decoder message.part (drop 16 fixed_octets) frame_octets

-- ---- a part that goes on in the place of another

pub record IsSameRest (one other : Rest) : Type 0 where
  pub offset : one.offset ≡ other.offset
  pub held : one.held.items ≡ other.held.items

-- The other decoder reads all that this one reads.
pub record ReadsOn (C : Table) (this_decoder other_decoder : Decoder) : Type 0 where
  pub reads : (T : Ty) (coding : Coding) (at message : ℕ) (root : Root) (s : List ℕ) →
      decoder.Reads C T coding at message root this_decoder s →
      decoder.Reads C T coding at message root other_decoder s

-- the other part, with its decoder, goes on in the place of this one
abbrev pub PartGoesOn : (C : Table) (decoder : Decoder) (part : Part) (other_decoder : Decoder)
    (other_part : Part) → Type 0
PartGoesOn C d (parts.Typed section) e (parts.Typed other) = (other ≡ section) × ReadsOn C d e
PartGoesOn C d (parts.Padding body_type_id) e (parts.Padding other) = other ≡ body_type_id
PartGoesOn C d (parts.Rest r) e (parts.Rest other) = IsSameRest other r
PartGoesOn C d part e other = ⊥
