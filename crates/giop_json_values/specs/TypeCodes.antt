-- The lines of TypeCodes that have no place in an object if the user doesn't ask for all of them
-- (docs/FORMATS.md, JSON; meaning). The lines alone decide it. The value of an enum at PATH.kind
-- whose word begins with `tk_` is the kind of a TypeCode. From then on, until the next such kind,
-- only the id and the name are written of all below PATH.parameters.
use Rattle.std.specs.Prelude.{◌≡◌, ◌≢◌, ℕ, Bool, true, false, not, ◌&&◌, List, [], ◌∷◌, ◌++◌, codes}
use Rattle.std.specs.Borrow.{Bor}
use Rattle.std.specs.Str.{bytes_eq}
use Rattle.giop_lines.specs.declared.line.Value.{Value}
use Rattle.giop_lines.specs.declared.line.Value.TheVariants.{Enum, Encapsulation, Order}
use Rattle.giop_lines.specs.Paths.{is_part_border}

-- the word at this path is the kind of the TypeCode at the path `of_type`
pub record IsTypeCodeKind (path word type_code_path : List ℕ) : Type 0 where
  pub rest : List ℕ
  pub begins : word ≡ codes "tk_" ++ rest
  pub ends : path ≡ type_code_path ++ codes ".kind"

-- the path of the last TypeCode's parameters, after the name of an enum's value at a path
pub record IsParametersAfterEnum (parameters_before path enum_word parameters_after : List ℕ)
    : Type 0 where
  pub kind : (of_type : List ℕ) → IsTypeCodeKind path enum_word of_type
      → parameters_after ≡ of_type ++ codes ".parameters"
  pub other : ((of_type : List ℕ) → IsTypeCodeKind path enum_word of_type → ⊥)
      → parameters_after ≡ parameters_before

-- whether an encapsulation begins with this line
abbrev pub is_encapsulation_head : Value → Bool
is_encapsulation_head (Encapsulation size) = true
is_encapsulation_head (Order order) = true
is_encapsulation_head _ = false

-- whether a value is left out, by what follows after the path of the parameters: all but the id,
-- the name and the head of the encapsulation
abbrev pub is_left_out_parameter : (path_below_parameters : List ℕ)
    (is_head_of_encapsulation : Bool) → Bool
is_left_out_parameter [] head = not head
is_left_out_parameter (b ∷ bs) head = is_part_border (b ∷ bs)
    && (not (bytes_eq (b ∷ bs) (codes ".id")) && not (bytes_eq (b ∷ bs) (codes ".name")))

-- a value at this path is left out, if the parameters of the last TypeCode have this path; an empty
-- path stands for no TypeCode
pub record IsLeftOut (asks_for_types : Bool) (parameters_path path : List ℕ)
    (is_head_of_encapsulation : Bool) : Type 0 where
  pub below : List ℕ
  pub short : asks_for_types ≡ false
  pub known : parameters_path ≢ []
  pub along : path ≡ parameters_path ++ below
  pub unwanted : is_left_out_parameter below is_head_of_encapsulation ≡ true

-- the path of the last TypeCode's parameters, after a line that is written
pub record IsParametersAfterValue (parameters_before path : List ℕ) (value : Value)
    (parameters_after : List ℕ) : Type 0 where
  pub name : (word : Bor (List ℕ)) → value ≡ Enum word
      → IsParametersAfterEnum parameters_before path word.now parameters_after
  pub other : ((word : Bor (List ℕ)) → value ≢ Enum word) → parameters_after ≡ parameters_before

-- the path of the last TypeCode's parameters after any line: a line that is left out changes
-- nothing
pub record IsParametersAfterLine (asks_for_types : Bool) (parameters_before path : List ℕ)
    (value : Value) (parameters_after : List ℕ) : Type 0 where
  pub left_out : IsLeftOut asks_for_types parameters_before path (is_encapsulation_head value)
      → parameters_after ≡ parameters_before
  pub told : (IsLeftOut asks_for_types parameters_before path (is_encapsulation_head value) → ⊥)
      → IsParametersAfterValue parameters_before path value parameters_after
