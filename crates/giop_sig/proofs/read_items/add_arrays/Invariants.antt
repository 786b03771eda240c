use Rattle.std.proofs.Common.{◌≡◌, ◌<◌, length}
use Rattle.std.specs.List.{All}
use Rattle.giop_sig.specs.Scopes.{add_arrays}
use Rattle.giop_sig.specs.ScopeViews.{IsKnown}
use Rattle.giop_sig.proofs.read_items.add_arrays.Given as goal

abbrev pub invariant-loop-n : goal.invariant-loop-n
invariant-loop-n l =
    record {
      so_far : add_arrays l.lengths.items (l.draft, l.t.0)
          ≡ add_arrays l.fn.lengths.items (l.fn.draft, l.fn.element.0);
      known : IsKnown l.draft.table.types l.t.0;
      some : All (λ n. 0 < n) l.lengths.items;
    }

abbrev pub decreases-loop-n : goal.decreases-loop-n
decreases-loop-n l = length l.lengths.items
