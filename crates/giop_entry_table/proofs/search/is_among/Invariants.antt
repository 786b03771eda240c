use Rattle.std.proofs.Common.{◌≡◌, ◌==◌, take}
use Rattle.std.specs.List.{list_any}
use Rattle.giop_entry_table.proofs.search.is_among.Given as goal

-- whether the id is among those compared until now
abbrev pub invariant-loop-k : goal.invariant-loop-k
invariant-loop-k l = l.found ≡ list_any (λ k. k == l.key) (take l.k-index l.keys)
