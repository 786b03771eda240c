use Rattle.std.proofs.Common.{◌≡◌, length}
use Rattle.giop_sig.specs.ScopeViews.{CanBeInner}
use Rattle.giop_sig.specs.TypeReading.{all_openers_closed, element_after}
use Rattle.giop_sig.proofs.read_types.all_openers_closed.Given as goal

abbrev pub invariant-loop-opener : goal.invariant-loop-opener
invariant-loop-opener l =
    record {
      closed : all_openers_closed l.openers.items (l.draft, l.t.0, l.rest)
          ≡ all_openers_closed l.fn.openers.items (l.fn.draft, l.fn.innermost.0, l.fn.text);
      stands : CanBeInner (element_after l.openers.items) l.draft.table.version l.draft.table.types
          l.t.0;
    }

abbrev pub decreases-loop-opener : goal.decreases-loop-opener
decreases-loop-opener l = length l.openers.items
