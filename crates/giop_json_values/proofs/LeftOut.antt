-- What is left out, by what follows in a value's path after the path of a TypeCode's parameters.
use Rattle.std.proofs.Common.{◌≡◌, ◌≢◌, ℕ, Bool, false, List, [], ◌++◌, IsTrue, sym, ◌∙◌, ap}
use Rattle.std.proofs.lemmas.List.{append_cancel_left}
use Rattle.giop_json_values.specs.TypeCodes.{IsLeftOut, is_left_out_parameter}

-- if the value's path doesn't begin with the path of the parameters, the value isn't left out
pub not_left_out : (has_types head : Bool) (parameters path : List ℕ)
    → ((rest : List ℕ) → path ≢ parameters ++ rest)
    → (IsTrue false → IsLeftOut has_types parameters path head)
    × (IsLeftOut has_types parameters path head → IsTrue false)
not_left_out has_types head parameters path h = (λ e. cc, λ l. absurd (h l.below l.along))

pub left_out_along : (has_types head unwanted : Bool) (parameters path below : List ℕ)
    → has_types ≡ false → parameters ≢ [] → path ≡ parameters ++ below
    → unwanted ≡ is_left_out_parameter below head
    → (IsTrue unwanted → IsLeftOut has_types parameters path head)
    × (IsLeftOut has_types parameters path head → IsTrue unwanted)
left_out_along has_types head unwanted parameters path below s k p u = (
  λ t. record { below = below; short = s; known = k; along = p; unwanted = sym u ∙ t },
  λ l. let same : below ≡ l.below
      = append_cancel_left parameters below l.below (sym p ∙ l.along)
      in u ∙ ap (λ b. is_left_out_parameter b head) same ∙ l.unwanted,
)
