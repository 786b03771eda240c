-- The fields of a table of interfaces as contracts see them (state).
use Rattle.std.specs.Prelude.{◌≡◌, ℕ, ◌<◌, ◌≤◌, Bool, false, List, length, map, None, slice_index_or}
use Rattle.std.specs.List.{All, AllByRecursion}
use Rattle.arrayvec.specs.ArrayVec.{ArrayVec}
use Rattle.giop_sig.specs.declared.types.InterfaceId.{InterfaceId}
use Rattle.giop_sig.specs.Interfaces.{Interfaces, front_text, of_text}

abbrev pub key_view : (key_text_and_interface : ArrayVec ℕ × InterfaceId) → List ℕ × ℕ
key_view entry = (entry.0.items, entry.1.0)

abbrev pub interfaces_view : (names : List (ArrayVec ℕ)) (keys : List (ArrayVec ℕ × InterfaceId)) →
    Interfaces
interfaces_view names keys = record { names = map (λ n. n.items) names; keys = map key_view keys }

-- a KEY of one of the interfaces
pub record IsKeyOf (interface_count : ℕ) (key_text_and_interface : List ℕ × ℕ) : Type 0 where
  pub short : length key_text_and_interface.0 ≤ 128
  pub known : key_text_and_interface.1 < interface_count

-- the names and KEYs are short, and there are only fronts of sizes that are marked
pub record AreInterfacesKept (marked_front_lengths : List Bool) (interfaces : Interfaces) :
    Type 0 where
  pub short : All (λ name. length name ≤ 128) interfaces.names
  pub few : length interfaces.names ≤ 1024
  pub keys : AllByRecursion (IsKeyOf (length interfaces.names)) interfaces.keys
  pub whole : length marked_front_lengths ≡ 65
  pub sizes : (octets : List ℕ)
      → slice_index_or marked_front_lengths (length octets) false ≡ false
      → of_text interfaces (front_text octets) ≡ None
