use Rattle.std.proofs.Common.{◌≡◌, ◌≤◌, length}
use Rattle.giop_sig.specs.Types.{most}
use Rattle.giop_sig.specs.Trees.{part_depth}
use Rattle.giop_sig.specs.Views.{node_view}
use Rattle.giop_sig.proofs.entries.Types.deepest_part.Given as goal

abbrev pub invariant-loop-index : goal.invariant-loop-index
invariant-loop-index l =
    record {
      depth : l.deepest ≡ most l.index (part_depth l.self (node_view l.entry));
      small : l.deepest ≤ length l.self;
    }
