-- How open objects and lists are closed (RFC 8259, Objects and Arrays; meaning).
use Rattle.std.specs.Prelude.{Bool, true, false, if◌then◌else◌, List, [], ◌∷◌, ◌++◌}
use Rattle.json.specs.Token.{Token, end_object, end_array}
use Rattle.giop_json_values.specs.declared.frames.Shape.{Shape}
use Rattle.giop_json_values.specs.declared.frames.Shape.TheVariants as shapes

abbrev pub is_list : Shape → Bool
is_list shapes.List = true
is_list shapes.Object = false
is_list shapes.Encapsulation = false

-- the ends of open objects and lists, the innermost first; in the list of these the outermost is
-- first
abbrev pub closing_tokens : (open_shapes_outermost_first : List Shape) → List Token
closing_tokens [] = []
closing_tokens (s ∷ ss) = closing_tokens ss ++ ((if is_list s then end_array else end_object) ∷ [])
