-- The places of ids in an order: which places have no id, and at which place an id stands (state).
use Rattle.std.specs.Prelude.{◌≡◌, ℕ, suc, ◌<◌, ◌≤◌, Bool, cond, eqb, nat_eq, nat_lt, ◌&&◌, List, [], ◌∷◌, length, get_or, take, Option, Some, None}
use Rattle.std.specs.Option.{option_map}
use Rattle.std.specs.List.{filter, IsDistinct}
use Rattle.tcp_streams.specs.Lives.{most_ids}
use Rattle.tcp_streams.specs.Stamped.{AreStamped}

-- whether a place has an id
abbrev pub is_id : (number_at_place : ℕ) → Bool
is_id number = nat_lt number most_ids

-- the ids, in the order of their places
abbrev pub ids_of : (numbers_at_places : List ℕ) → List ℕ
ids_of places = filter is_id places

-- the place at which an id stands
unfoldable pub place_of : (id : ℕ) (numbers_at_places : List ℕ) → Option ℕ
place_of id [] = None
place_of id (x ∷ xs) = cond (is_id x && nat_eq x id) (Some 0) (option_map suc (place_of id xs))

-- the ids differ, and have stamps; `front_id_count` of the first `front_place_count` places have an
-- id, and each place after them has one
pub record IsQueue (numbers_at_places stamps : List ℕ) (front_place_count front_id_count : ℕ)
    : Type 0 where
  pub few : length numbers_at_places ≤ 262144
  pub distinct : IsDistinct eqb (ids_of numbers_at_places)
  pub stamped : AreStamped stamps (ids_of numbers_at_places)
  pub within : front_place_count ≤ length numbers_at_places
  pub counted : front_id_count ≡ length (ids_of (take front_place_count numbers_at_places))
  pub whole : (k : ℕ) → front_place_count ≤ k → k < length numbers_at_places →
      get_or numbers_at_places k 0 < most_ids
