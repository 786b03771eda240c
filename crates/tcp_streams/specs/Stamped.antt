-- Which flows have a stamp, and which of two flows stands first (meaning).
use Rattle.std.specs.Prelude.{ℕ, ◌<◌, cond, nat_lt, List, get_or, Option, Some, None}
use Rattle.std.specs.List.{AllByRecursion}
use Rattle.tcp_streams.specs.declared.pair.Side.{Side}
use Rattle.tcp_streams.specs.declared.pair.Side.TheVariants.{FromLesser, FromGreater}

-- each flow of the list has a stamp other than 0, or there is no memory for its stamp
abbrev pub AreStamped : (stamps_by_flow flow_ids : List ℕ) → Type 0
AreStamped stamps live = AllByRecursion (λ id. 0 < get_or stamps id 1) live

-- which of the two flows of a slot stands first, from the places of both; the side of the lesser
-- endpoint if neither has a place
unfoldable pub first_side : (place_of_lesser place_of_greater : Option ℕ) → Side
first_side None None = FromLesser
first_side (Some lesser) None = FromLesser
first_side None (Some greater) = FromGreater
first_side (Some lesser) (Some greater) = cond (nat_lt greater lesser) FromGreater FromLesser
