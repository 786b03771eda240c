use Rattle.std.proofs.Common.{◌≡◌, ◌≤◌, ◌-◌, ◌==◌, length, drop}
use Rattle.std.specs.List.{position_from}
use Rattle.giop_entry_table.proofs.search.skip_blocks_without.Given as goal

-- no block that was skipped has the id
abbrev pub invariant-loop-at : goal.invariant-loop-at
invariant-loop-at l = (l.at ≤ length l.keys)
    × (position_from (λ k. k == l.key) l.fn.from (drop l.fn.from l.keys)
    ≡ position_from (λ k. k == l.key) l.at (drop l.at l.keys))

abbrev pub decreases-loop-at : goal.decreases-loop-at
decreases-loop-at l = length l.keys - l.at
