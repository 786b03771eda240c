-- CDR's types as finite trees (CDR Transfer Syntax, Constructed Types; meaning). The parts of a
-- type are named by their indices, from 0 on. What a union's discriminator selects depends on the
-- whole number that its octets spell. A label of a signed type is compared with that number taken
-- in two's complement, so that label -1 of a short is selected by the octets of 65535.
use Rattle.std.specs.Prelude.{◌≡◌, ℕ, zero, suc, ◌+◌, ◌<◌, max, cond, nat_lt, Bool, true, codes, List, [], Option, Some, None}
use Rattle.giop_cdr.specs.declared.prim.Primitive.{Primitive}
use Rattle.giop_cdr.specs.declared.number.Number.{Number}
use Rattle.giop_cdr.specs.declared.number.Number.TheVariants as numbers
use Rattle.giop_cdr.specs.Primitives.{size_of}
use Rattle.giop_cdr.specs.Numbers.{interpreted_as}
use Rattle.giop_sig.specs.Kinds.{marked_word}
use Rattle.giop_sig.specs.declared.types.Selected.{Selected}
use Rattle.giop_sig.specs.declared.types.Selected.TheVariants.{Nothing}
use Rattle.giop_sig.specs.declared.types.Shape.{Shape}
use Rattle.giop_sig.specs.declared.types.Shape.TheVariants as shapes

-- A type of one number: a primitive, an enum with n names, or a number of four octets with a mark
-- (Kinds).
pub data Scalar : Type 0 where
  Plain : Primitive → Scalar
  Enum : ℕ → (ℕ → List ℕ) → Scalar
  Marked : ℕ → Scalar

-- how many octets the number takes
abbrev pub width : (scalar : Scalar) → ℕ
width (Plain p) = size_of p
width (Enum count names) = 4
width (Marked mark) = 4

-- the value that a whole number is; none for a boolean above 1
abbrev pub interpreted_by : (scalar : Scalar) (whole_number : ℕ) → Option Number
interpreted_by (Plain p) number = interpreted_as p number
interpreted_by (Enum count names) number = Some (numbers.Unsigned number)
interpreted_by (Marked mark) number = Some (numbers.Unsigned number)

-- what a union's discriminator selects from: n cases; or the discriminator is a tag, which is a
-- member itself, part 0 of three
pub data Choice : Type 0 where
  Cases : ℕ → Choice
  Tag : Choice

-- how many parts there are
abbrev pub case_count : (choice : Choice) → ℕ
case_count (Cases n) = n
case_count Tag = 3

-- The name of the discriminator, if it has one: a tag has that of a member, and a number with a
-- mark is the `kind` of a TypeCode.
abbrev pub discriminator_name : (choice : Choice) (discriminator_type : Scalar)
    (member_names : ℕ → List ℕ) → Option (List ℕ)
discriminator_name (Cases n) (Marked mark) names = Some (codes "kind")
discriminator_name (Cases n) scalar names = None
discriminator_name Tag scalar names = Some (names 0)

-- ---- what a value tells about what comes next in it

-- something in a line that can tell it: a number with a mark, a count of elements, or a piece of a
-- string and whether more come
pub data Sign : Type 0 where
  MarkedNumber : ℕ → ℕ → Sign
  Counted : ℕ → Sign
  Spelt : List ℕ → Bool → Sign

-- What has been told so far.
pub data InferredType : Type 0 where
  -- nothing
  Untold : InferredType
  -- the repository id of a kind comes; the number is that of the front of both, as far as they have
  -- come
  Awaits : ℕ → InferredType
  -- this type, if the count that comes next is that of its members
  Offers : ℕ → InferredType
  -- this type
  Is : ℕ → InferredType
  -- no octets come
  Empty : InferredType
  -- what comes has no known type
  Unknown : InferredType

-- what comes next: the part with a number, no part, or octets of no known type
pub data Sequel : Type 0 where
  Then : ℕ → Sequel
  Ends : Sequel
  Stops : Sequel

-- How a value is heard: what has been told after a sign, and what is selected by that.
pub record TypeInference : Type 0 where
  pub inferred_after : InferredType → Sign → InferredType
  pub selects : InferredType → Sequel

-- what comes next: no part if nothing has been told
abbrev pub sequel : (inference : TypeInference) (inferred : InferredType) → Sequel
sequel h Untold = Ends
sequel h told = h.selects told

-- Octets after a number that counts them: those of a sequence, perhaps with a bound, of a wide
-- string, or of a wide character (CDR Transfer Syntax, Strings and Wide Strings, Wide Characters).
-- The bound of a wide string counts characters, so it is no bound of its octets.
pub data OctetKind : Type 0 where
  Raw : Option ℕ → OctetKind
  WideText : OctetKind
  WideChar : OctetKind

-- how many octets the number before them takes
abbrev pub size_width : (octet_kind : OctetKind) → ℕ
size_width (Raw bound) = 4
size_width WideText = 4
size_width WideChar = 1

-- how many octets there may be
abbrev pub bound_of : (octet_kind : OctetKind) → Option ℕ
bound_of (Raw bound) = bound
bound_of kind = None

pub data Ty : Type 0 where
  Single : Scalar → Ty
  -- a string, perhaps with a bound
  Text : Option ℕ → Ty
  -- counted octets
  Octets : OctetKind → Ty
  -- how many parts there are, their names and their types
  Struct : ℕ → (ℕ → List ℕ) → (ℕ → Ty) → Ty
  -- the choice, the discriminator, what each number of it selects, and the names and types of the
  -- cases
  Union : Choice → Scalar → (ℕ → Selected) → (ℕ → List ℕ) → (ℕ → Ty) → Ty
  Sequence : Option ℕ → Ty → Ty
  Array : ℕ → Ty → Ty
  -- octets with a byte order of their own, which hold a value of a type
  Encapsulation : Ty → Ty
  -- a sequence whose elements have a type that was announced: its bound, whether its elements have
  -- room, and their type
  Recursive : Option ℕ → Bool → Ty → Ty
  -- a part that tells what comes after it: how it is heard, its type, and the types of what may
  -- come
  Led : TypeInference → Ty → (ℕ → Ty) → Ty

-- ---- the parts of a type

-- the part that tells is at index 0, and what may come after it is at the indices from 1 on
abbrev pub led_part : (telling_type : Ty) (later_types : ℕ → Ty) (part_index : ℕ) → Ty
led_part F parts zero = F
led_part F parts (suc index) = parts index

-- the part at an index; an element is at each index
abbrev pub part_of : (type : Ty) (part_index : ℕ) → Ty
part_of (Struct count names parts) index = parts index
part_of (Union choice scalar select names cases) index = cases index
part_of (Array count T) index = T
part_of (Sequence bound T) index = T
part_of (Encapsulation T) index = T
part_of (Recursive bound fits T) index = T
part_of (Led h F parts) index = led_part F parts index
part_of T index = T

-- the name of the part at an index; an element has none
abbrev pub name_in : (type : Ty) (part_index : ℕ) → List ℕ
name_in (Struct count names parts) index = names index
name_in (Union choice scalar select names cases) index = names index
name_in T index = []

-- the name of an enum's number, or the word of a kind
abbrev pub enum_name_in : (type : Ty) (value_number : ℕ) → Option (List ℕ)
enum_name_in (Single (Enum count names)) number =
    cond (nat_lt number count) (Some (names number)) None
enum_name_in (Single (Marked mark)) number = marked_word mark number
enum_name_in T number = None

-- the type of a union's discriminator
abbrev pub switch_of : (type : Ty) → Ty
switch_of (Union choice scalar select names cases) = Single scalar
switch_of T = T

-- what the whole number of a union's discriminator selects
abbrev pub select_in : (type : Ty) (discriminator_number : ℕ) → Selected
select_in (Union choice scalar select names cases) number = select number
select_in T number = Nothing

-- whether the elements of a sequence have room; only those of a recursive sequence may have none
abbrev pub elements_fit : (type : Ty) → Bool
elements_fit (Recursive bound fits T) = fits
elements_fit T = true

-- the value that a discriminator's number is, in a type of one number
abbrev pub interpreted_in : (type : Ty) (whole_number : ℕ) → Option Number
interpreted_in (Single scalar) number = interpreted_by scalar number
interpreted_in T number = None

-- ---- shapes and indices

abbrev pub union_shape : (choice : Choice) → Shape
union_shape (Cases n) = shapes.Union n
union_shape Tag = shapes.Tagged

abbrev pub octets_shape : (octet_kind : OctetKind) → Shape
octets_shape (Raw bound) = shapes.Octets bound
octets_shape WideText = shapes.WideText
octets_shape WideChar = shapes.WideChar

-- the outermost form of a type
abbrev pub shape_in : (type : Ty) → Shape
shape_in (Single (Plain p)) = shapes.Prim p
shape_in (Single (Enum count names)) = shapes.Enumeration count
shape_in (Single (Marked mark)) = shapes.Marked mark
shape_in (Text bound) = shapes.Text bound
shape_in (Octets kind) = octets_shape kind
shape_in (Struct count names parts) = shapes.Members count
shape_in (Union choice scalar select names cases) = union_shape choice
shape_in (Sequence bound T) = shapes.Sequence bound
shape_in (Array count T) = shapes.Array count
shape_in (Encapsulation T) = shapes.Encapsulation
shape_in (Recursive bound fits T) = shapes.Recursive bound
shape_in (Led h F parts) = shapes.Led

-- a type has this outermost form
abbrev pub HasShape : (type : Ty) (shape : Shape) → Type 0
HasShape T (shapes.Prim p) = T ≡ Single (Plain p)
HasShape T (shapes.Enumeration count) = (names : ℕ → List ℕ) × (T ≡ Single (Enum count names))
HasShape T (shapes.Marked mark) = T ≡ Single (Marked mark)
HasShape T shapes.Led = (h : TypeInference) × (F : Ty) × (parts : ℕ → Ty) × (T ≡ Led h F parts)
HasShape T (shapes.Text bound) = T ≡ Text bound
HasShape T (shapes.Octets bound) = T ≡ Octets (Raw bound)
HasShape T shapes.WideText = T ≡ Octets WideText
HasShape T shapes.WideChar = T ≡ Octets WideChar
HasShape T (shapes.Members count) =
    (names : ℕ → List ℕ) × (parts : ℕ → Ty) × (T ≡ Struct count names parts)
HasShape T (shapes.Union count) =
    (scalar : Scalar) × (select : ℕ → Selected) × (names : ℕ → List ℕ) × (cases : ℕ → Ty)
    × (T ≡ Union (Cases count) scalar select names cases)
HasShape T (shapes.Sequence bound) = (E : Ty) × (T ≡ Sequence bound E)
HasShape T (shapes.Array count) = (E : Ty) × (T ≡ Array count E)
HasShape T shapes.Encapsulation = (E : Ty) × (T ≡ Encapsulation E)
HasShape T (shapes.Recursive bound) = (fits : Bool) × (E : Ty) × (T ≡ Recursive bound fits E)
HasShape T shapes.Tagged =
    (scalar : Scalar) × (select : ℕ → Selected) × (names : ℕ → List ℕ) × (cases : ℕ → Ty)
    × (T ≡ Union Tag scalar select names cases)

-- a shape whose parts have names has a part at this index
abbrev pub HasMember : (shape : Shape) (part_index : ℕ) → Type 0
HasMember (shapes.Members count) index = index < count
HasMember (shapes.Union count) index = index < count
HasMember shapes.Tagged index = index < 3
HasMember s index = ⊥

-- a shape has a part at this index; elements are at each index
abbrev pub HasIndex : (shape : Shape) (part_index : ℕ) → Type 0
HasIndex (shapes.Members count) index = index < count
HasIndex (shapes.Union count) index = index < count
HasIndex (shapes.Sequence bound) index = Unit {0}
HasIndex (shapes.Array count) index = Unit {0}
HasIndex shapes.Encapsulation index = Unit {0}
HasIndex (shapes.Recursive bound) index = Unit {0}
HasIndex shapes.Led index = Unit {0}
HasIndex shapes.Tagged index = index < 3
HasIndex s index = ⊥

-- The part at this index has a smaller number than the type. All parts have, apart from what may
-- come after a part that tells it, and from the elements of a recursive sequence.
abbrev pub HasSmallerPart : (shape : Shape) (part_index : ℕ) → Type 0
HasSmallerPart shapes.Led index = index ≡ 0
HasSmallerPart (shapes.Recursive bound) index = ⊥
HasSmallerPart s index = HasIndex s index

abbrev pub IsUnion : (shape : Shape) → Type 0
IsUnion (shapes.Union count) = Unit {0}
IsUnion shapes.Tagged = Unit {0}
IsUnion s = ⊥

-- ---- depth

-- the greatest of the first `count` numbers; 0 if there are none
abbrev pub most : (count : ℕ) (number_at : ℕ → ℕ) → ℕ
most zero number = 0
most (suc count) number = max (most count number) (number count)

-- 1 for a leaf, and otherwise 1 more than the deepest part; a union's discriminator is one of its
-- parts
unfoldable pub depth : (type : Ty) → ℕ
depth (Single scalar) = 1
depth (Text bound) = 1
depth (Octets kind) = 1
depth (Struct count names parts) = 1 + most count (λ i. depth (parts i))
depth (Union choice scalar select names cases) =
    1 + max 1 (most (case_count choice) (λ i. depth (cases i)))
depth (Sequence bound T) = 1 + depth T
depth (Array count T) = 1 + depth T
depth (Encapsulation T) = 1 + depth T
-- the elements of a recursive sequence and what may come after a part that tells it don't count
depth (Recursive bound fits T) = 2
depth (Led h F parts) = 1 + depth F
