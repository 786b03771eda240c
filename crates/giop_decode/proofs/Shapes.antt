-- What follows for a type from its shape.
use Rattle.std.proofs.Common.{◌≡◌, ℕ, zero, Option, Some, None, refl, inl, inr}
use Rattle.giop_cdr.specs.Alignment.{IsAlignment}
use Rattle.giop_cdr.specs.Primitives.{size_of}
use Rattle.giop_cdr.specs.declared.prim.Primitive.{Primitive}
use Rattle.giop_cdr.specs.declared.prim.Primitive.TheVariants as prims
use Rattle.giop_decode.specs.Fits.{HasLeadingNumber}
use Rattle.giop_decode.specs.Transitions.{StartsWithPart}
use Rattle.giop_sig.specs.Fits.{IsEmptyStruct}
use Rattle.giop_sig.specs.Types.{Ty, Struct, HasShape}
use Rattle.giop_sig.specs.declared.types.Shape.TheVariants as shapes
use Rattle.giop_decode.specs.declared.frame.Stage.TheVariants as stages

pub whole_members : (T : Ty) (n : ℕ) → HasShape T (shapes.Members n) → StartsWithPart T n None
whole_members T n h = rw h.2 (refl, refl)

pub whole_array : (T : Ty) (n : ℕ) → HasShape T (shapes.Array n) → StartsWithPart T n None
whole_array T n h = rw h.1 (refl, refl)

pub whole_led : (T : Ty) → HasShape T shapes.Led → StartsWithPart T 0 (Some stages.Untold)
whole_led T h = rw h.3 (refl, refl)

pub head_prim : (T : Ty) (p : Primitive) → HasShape T (shapes.Prim p) → HasLeadingNumber T
head_prim T p h = rw h tt

pub head_enum : (T : Ty) (n : ℕ) → HasShape T (shapes.Enumeration n) → HasLeadingNumber T
head_enum T n h = rw h.1 tt

pub head_marked : (T : Ty) (mark : ℕ) → HasShape T (shapes.Marked mark) → HasLeadingNumber T
head_marked T mark h = rw h tt

pub head_union : (T : Ty) (n : ℕ) → HasShape T (shapes.Union n) → HasLeadingNumber T
head_union T n h = rw h.4 tt

pub head_tag : (T : Ty) → HasShape T shapes.Tagged → HasLeadingNumber T
head_tag T h = rw h.4 tt

pub head_encapsulation : (T : Ty) → HasShape T shapes.Encapsulation → HasLeadingNumber T
head_encapsulation T h = rw h.1 tt

pub head_recursive : (T : Ty) (bound : Option ℕ) → HasShape T (shapes.Recursive bound) →
    HasLeadingNumber T
head_recursive T bound h = rw h.2 tt

pub ruleset shape_laws = (
  whole_members,
  whole_array,
  whole_led,
  head_prim,
  head_enum,
  head_marked,
  head_union,
  head_tag,
  head_encapsulation,
  head_recursive,
)

pub aligned : (p : Primitive) → IsAlignment (size_of p)
aligned prims.Short = inr (inl refl)
aligned prims.UShort = inr (inl refl)
aligned prims.Long = inr (inr (inl refl))
aligned prims.ULong = inr (inr (inl refl))
aligned prims.LongLong = inr (inr (inr refl))
aligned prims.ULongLong = inr (inr (inr refl))
aligned prims.Float = inr (inr (inl refl))
aligned prims.Double = inr (inr (inr refl))
aligned p = inl refl

-- a type is the struct without members if its shape has no members
pub empty_is : (T : Ty) (n : ℕ) → HasShape T (shapes.Members n) → n ≡ 0 → IsEmptyStruct T
empty_is T n h e = rw (h.2, e) tt

pub some_is : (T : Ty) (n : ℕ) → HasShape T (shapes.Members n) → IsEmptyStruct T → n ≡ 0
some_is (Struct zero names parts) n h empty = let e = h.2 in cc
some_is _ n h empty = absurd empty

pub some_array : (T : Ty) (n : ℕ) → HasShape T (shapes.Array n) → IsEmptyStruct T → ⊥
some_array T n h empty = rw h.1 at empty

pub some_prim : (T : Ty) (p : Primitive) → HasShape T (shapes.Prim p) → IsEmptyStruct T → ⊥
some_prim T p h empty = rw h at empty

pub some_enum : (T : Ty) (n : ℕ) → HasShape T (shapes.Enumeration n) → IsEmptyStruct T → ⊥
some_enum T n h empty = rw h.1 at empty

pub some_text : (T : Ty) (bound : Option ℕ) → HasShape T (shapes.Text bound) → IsEmptyStruct T → ⊥
some_text T bound h empty = rw h at empty

pub some_octets : (T : Ty) (bound : Option ℕ) → HasShape T (shapes.Octets bound) → IsEmptyStruct T →
    ⊥
some_octets T bound h empty = rw h at empty

pub some_union : (T : Ty) (n : ℕ) → HasShape T (shapes.Union n) → IsEmptyStruct T → ⊥
some_union T n h empty = rw h.4 at empty

pub some_sequence : (T : Ty) (bound : Option ℕ) → HasShape T (shapes.Sequence bound) →
    IsEmptyStruct T → ⊥
some_sequence T bound h empty = rw h.1 at empty

pub some_recursive : (T : Ty) (bound : Option ℕ) → HasShape T (shapes.Recursive bound) →
    IsEmptyStruct T → ⊥
some_recursive T bound h empty = rw h.2 at empty

pub some_tag : (T : Ty) → HasShape T shapes.Tagged → IsEmptyStruct T → ⊥
some_tag T h empty = rw h.4 at empty

pub some_encapsulation : (T : Ty) → HasShape T shapes.Encapsulation → IsEmptyStruct T → ⊥
some_encapsulation T h empty = rw h.1 at empty

pub ruleset empty_laws = (
  some_tag,
  some_encapsulation,
  empty_is,
  some_is,
  some_array,
  some_prim,
  some_enum,
  some_text,
  some_octets,
  some_union,
  some_sequence,
  some_recursive,
)
