use Rattle.std.proofs.Common.{◌≡◌}
use Rattle.giop_sig.specs.Trees.{part_has_wide_text, any_below}
use Rattle.giop_sig.specs.Views.{node_view}
use Rattle.giop_sig.proofs.entries.Types.some_part_is_wide.Given as goal

abbrev pub invariant-loop-index : goal.invariant-loop-index
invariant-loop-index l = l.wide ≡ any_below l.index (part_has_wide_text l.self (node_view l.entry))
