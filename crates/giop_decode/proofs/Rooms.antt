-- What holds of a type in one room holds of it in each room.
use Rattle.std.proofs.Common.{◌≡◌, ℕ, suc, ◌-◌, ◌<◌, List, length, Option, Some, None, refl, subst, arith, ◌∙◌}
use Rattle.giop_decode.specs.declared.frame.Frame.{Frame}
use Rattle.giop_decode.specs.declared.frame.Stage.{Stage}
use Rattle.giop_cdr.specs.declared.number.Number.{Number as Taken}
use Rattle.giop_decode.specs.Fits.{HasLeadingNumber, HasParts, IsEncapsulation, IsLed}
use Rattle.giop_decode.specs.Transitions.{IsNumberOf, IsUncounted, StartsWithPart, FrameIndexFits, FrameIndexFitsAs}
use Rattle.giop_cdr.specs.declared.order.Order.{Order}
use Rattle.giop_sig.proofs.PartLaws.{fit_room, has_shape_room, shape_room, switch_same}
use Rattle.giop_sig.specs.Fits.{IsFit}
use Rattle.giop_sig.specs.HeaderTypes.{IsTable}
use Rattle.giop_sig.specs.Table.{Table}
use Rattle.giop_sig.specs.Trees.{tree, tree_at}
use Rattle.giop_sig.specs.Types.{Array, Cases, Encapsulation, Enum, HasMember, HasIndex, HasShape, IsUnion, Led, Marked, OctetKind, Octets, Plain, Raw, Recursive, Sequence, Single, Struct, Tag, Ty, Union, WideChar, WideText, octets_shape, shape_in, switch_of}
use Rattle.giop_decode.proofs.OctetKinds.{octets_has, octets_is}
use Rattle.giop_sig.specs.declared.types.Shape.{Shape}
use Rattle.giop_sig.specs.declared.types.Shape.TheVariants as shapes

-- a number of a type is a number of each equal type
abbrev pub number_moved : (S T : Ty) (number : Taken) → IsNumberOf S number → T ≡ S →
    IsNumberOf T number
number_moved S T number is same = record {
  scalar = is.scalar;
  n = is.n;
  is = same ∙ is.is;
  right = is.right;
  taken = is.taken;
  within = is.within;
}

held_has : (T : Ty) → IsEncapsulation T → HasShape T shapes.Encapsulation
held_has (Encapsulation T) kind = (T, refl)
held_has _ kind = absurd kind

has_held : (T : Ty) → HasShape T shapes.Encapsulation → IsEncapsulation T
has_held T has = rw has.1 tt

-- what holds in each room above 0 holds inside these frames
pub in_frames : (P : ℕ → Type 0) (frames : List Frame) → length frames < 24 →
    ((room : ℕ) → P (suc room)) → P (24 - length frames)
in_frames P frames few all =
    let one : suc (23 - length frames) ≡ 24 - length frames = omega (arith, few) in
    subst P one (all (23 - length frames))

-- a place of a type in one room is a place of it in each room
pub place_in_room : (C : Table) (a b of i : ℕ) → HasIndex (shape_in (tree_at C a of)) i →
    HasIndex (shape_in (tree_at C b of)) i
place_in_room C a b of i has = subst (λ s. HasIndex s i) (shape_room C a b of) has

-- a type that is a union in one room is a union in each room
pub union_in_room : (C : Table) (a b of : ℕ) → IsUnion (shape_in (tree_at C a of)) →
    IsUnion (shape_in (tree_at C b of))
union_in_room C a b of is = subst IsUnion (shape_room C a b of) is

-- so a type that is no union in one room is none at all
pub bare_in_room : (C : Table) (a of : ℕ) → (IsUnion (shape_in (tree_at C a of)) → ⊥) →
    IsUnion (shape_in (tree C of)) → ⊥
bare_in_room C a of none is = none (union_in_room C 24 a of is)

-- A type is no union if it begins with its first part, if it has a number of parts, if it is an
-- encapsulation, or if it begins with a part that tells what comes after it.

pub whole_bare : (T : Ty) (count : ℕ) (told : Option Stage) → StartsWithPart T count told →
    IsUnion (shape_in T) → ⊥
whole_bare (Struct n names parts) count told is union = union
whole_bare (Array n T) count told is union = union
whole_bare (Led h F parts) count told is union = union
whole_bare T count told is union = is

pub parts_bare : (T : Ty) (count : ℕ) → HasParts T count → IsUnion (shape_in T) → ⊥
parts_bare (Struct n names parts) count is union = union
parts_bare (Array n T) count is union = union
parts_bare (Sequence bound T) count is union = union
parts_bare (Recursive bound fits T) count is union = union
parts_bare T count is union = is

pub held_bare : (T : Ty) → IsEncapsulation T → IsUnion (shape_in T) → ⊥
held_bare (Encapsulation T) is union = union
held_bare T is union = is

pub led_bare : (T : Ty) → IsLed T → IsUnion (shape_in T) → ⊥
led_bare (Led h F parts) is union = union
led_bare T is union = is

uncounted : (s : Shape) → IsUnion s → IsUncounted s
uncounted (shapes.Union count) is = tt
uncounted shapes.Tagged is = tt
uncounted s is = absurd is

-- nor is it a union if its parts are counted
pub counted_bare : (T : Ty) (i count : ℕ) → FrameIndexFits None i count T → 0 < count →
    IsUnion (shape_in T) → ⊥
counted_bare T i count within some union =
    let e = within.2 (uncounted (shape_in T) union) in absurd (omega (arith, some, e))

-- a type that is an encapsulation in one room is an encapsulation in each room
pub held_in_room : (C : Table) (a b of : ℕ) → IsEncapsulation (tree_at C a of) →
    IsEncapsulation (tree_at C b of)
held_in_room C a b of kind = has_held (tree_at C b of)
    (has_shape_room C a b of shapes.Encapsulation (held_has (tree_at C a of) kind))

-- a type that begins with a number in one room begins with a number in each room

abbrev BeginsByNumber : Shape → Type 0
BeginsByNumber (shapes.Members count) = ⊥
BeginsByNumber (shapes.Array count) = ⊥
BeginsByNumber shapes.Led = ⊥
BeginsByNumber s = Unit {0}

octets_begin : (kind : OctetKind) → BeginsByNumber (octets_shape kind)
octets_begin (Raw bound) = tt
octets_begin WideText = tt
octets_begin WideChar = tt

shape_begins : (T : Ty) → HasLeadingNumber T → BeginsByNumber (shape_in T)
shape_begins (Single (Plain p)) h = tt
shape_begins (Single (Enum count names)) h = tt
shape_begins (Single (Marked mark)) h = tt
shape_begins (Union (Cases n) scalar select names cases) h = tt
shape_begins (Union Tag scalar select names cases) h = tt
shape_begins (Octets kind) h = octets_begin kind
shape_begins T h = h

begins_shape : (T : Ty) → BeginsByNumber (shape_in T) → HasLeadingNumber T
begins_shape (Single (Plain p)) h = tt
begins_shape (Single (Enum count names)) h = tt
begins_shape (Single (Marked mark)) h = tt
begins_shape (Union (Cases n) scalar select names cases) h = tt
begins_shape (Union Tag scalar select names cases) h = tt
begins_shape (Octets kind) h = tt
begins_shape T h = h

pub begins_in_room : (C : Table) (a b of : ℕ) → HasLeadingNumber (tree_at C a of) →
    HasLeadingNumber (tree_at C b of)
begins_in_room C a b of h =
    begins_shape (tree_at C b of) (subst BeginsByNumber (shape_room C a b of) (shape_begins
    (tree_at C a of) h))

-- so a frame that is at a part of a type in one room is at a part of it in each room
pub within_in_room : (C : Table) (a b of : ℕ) (inside : Option Order) (i count : ℕ) →
    FrameIndexFits inside i count (tree_at C a of) → FrameIndexFits inside i count (tree_at C b of)
within_in_room C a b of None i count h = (
  place_in_room C a b of i h.0,
  λ kind. h.1 (held_in_room C b a of kind),
  λ is. h.2 (subst IsUncounted (shape_room C b a of) is),
)
within_in_room C a b of (Some order) i count h = (held_in_room C a b of h.0, h.1, h.2)

-- the same for a type that begins with a part that tells what comes after it

led_has : (T : Ty) → IsLed T → HasShape T shapes.Led
led_has (Led h F parts) kind = (h, F, parts, refl)
led_has T kind = absurd kind

has_led : (T : Ty) → HasShape T shapes.Led → IsLed T
has_led T has = rw has.3 tt

pub led_in_room : (C : Table) (a b of : ℕ) → IsLed (tree_at C a of) → IsLed (tree_at C b of)
led_in_room C a b of kind = has_led (tree_at C b of)
    (has_shape_room C a b of shapes.Led (led_has (tree_at C a of) kind))

pub within_as_in_room : (C : Table) (a b of : ℕ) (told : Option Stage) (inside : Option Order)
    (i count : ℕ) → FrameIndexFitsAs told inside i count (tree_at C a of) →
    FrameIndexFitsAs told inside i count (tree_at C b of)
within_as_in_room C a b of None inside i count h = within_in_room C a b of inside i count h
within_as_in_room C a b of (Some stage) inside i count h = (led_in_room C a b of h.0, h.1, h.2)

module _ (C : Table) (of room : ℕ) where
  abbrev T : Ty
  T = tree_at C (suc room) of

  pub shape_of_room : (s : Shape) → HasShape (tree C of) s → HasShape T s
  shape_of_room s has = has_shape_room C 24 (suc room) of s has

  pub octets_of_room : (kind : OctetKind) → tree C of ≡ Octets kind → T ≡ Octets kind
  octets_of_room kind is = octets_is T kind (shape_of_room (octets_shape kind)
      (octets_has (tree C of) kind is))

  pub union_of_room : IsUnion (shape_in (tree C of)) → IsUnion (shape_in T)
  union_of_room is = subst IsUnion (shape_room C 24 (suc room) of) is

  pub member_of_room : (i : ℕ) → HasMember (shape_in (tree C of)) i → HasMember (shape_in T) i
  member_of_room i has = subst (λ s. HasMember s i) (shape_room C 24 (suc room) of) has

  pub held_of_room : IsEncapsulation (tree C of) → IsEncapsulation T
  held_of_room kind = held_in_room C 24 (suc room) of kind

  pub fit_of_room : (d a : ℕ) → IsTable C → IsFit d (tree_at C a of) →
      IsFit (suc (suc (suc room))) T
  fit_of_room d a laws fit = fit_room C of d a (suc room) laws fit

  abbrev pub number_of_room : (number : Taken) → IsTable C → of < length C.types →
      IsUnion (shape_in (tree C of)) → IsNumberOf (switch_of (tree C of)) number →
      IsNumberOf (switch_of T) number
  number_of_room number laws known is n =
      number_moved (switch_of (tree C of)) (switch_of T) number n
      (switch_same C room 23 of laws known is)
