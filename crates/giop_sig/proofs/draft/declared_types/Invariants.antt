use Rattle.std.proofs.Common.{◌≡◌, ℕ, ◌++◌, map}
use Rattle.std.specs.Map.{lookup}
use Rattle.arrayvec.specs.ArrayVec.{ArrayVec}
use Rattle.giop_sig.specs.declared.announced.Announcement.{Announcement}
use Rattle.giop_sig.specs.RequestList.{option_flatten}
use Rattle.giop_sig.specs.ScopeViews.{same_key_octets}
use Rattle.giop_sig.proofs.draft.declared_types.Given as goal

-- the types so far, and those for the names that are left
abbrev pub invariant-loop-key : goal.invariant-loop-key
invariant-loop-key l =
    l.types.items
    ++ map (λ (e : ArrayVec ℕ × Announcement). option_flatten
    (lookup (same_key_octets e.0) l.names.entries))
    l.key-iterator
    ≡ map (λ (e : ArrayVec ℕ × Announcement). option_flatten
    (lookup (same_key_octets e.0) l.names.entries))
    l.announced.entries
