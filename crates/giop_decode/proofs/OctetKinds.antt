-- The kinds of octets that come after their number.
use Rattle.std.proofs.Common.{◌≡◌, ◌<◌, lit<}
use Rattle.giop_sig.specs.Types.{OctetKind, Raw, WideText, WideChar, Octets, Ty, HasShape, IsUnion, octets_shape, size_width}

-- the number has at least one octet
pub size_pos : (kind : OctetKind) → 0 < size_width kind
size_pos (Raw bound) = lit< tt
size_pos WideText = lit< tt
size_pos WideChar = lit< tt

-- octets of a kind are no union
pub octets_no_union : (kind : OctetKind) → IsUnion (octets_shape kind) → ⊥
octets_no_union (Raw bound) u = u
octets_no_union WideText u = u
octets_no_union WideChar u = u

-- the type of a kind has the kind's shape, and a type with that shape is the kind's type
pub octets_has : (T : Ty) (kind : OctetKind) → T ≡ Octets kind → HasShape T (octets_shape kind)
octets_has T (Raw bound) is = is
octets_has T WideText is = is
octets_has T WideChar is = is

pub octets_is : (T : Ty) (kind : OctetKind) → HasShape T (octets_shape kind) → T ≡ Octets kind
octets_is T (Raw bound) has = has
octets_is T WideText has = has
octets_is T WideChar has = has
