use Rattle.std.proofs.Common.{◌≡◌, ◌≤◌, length}
use Rattle.std.specs.List.{concat}
use Rattle.tcp_slots.specs.Order.{rows_of, HaveMemory, HasGap}
use Rattle.tcp_slots.proofs.order.move_gap_earlier.Given as goal

abbrev pub invariant-loop-free : goal.invariant-loop-free
invariant-loop-free l = record {
  memory : HaveMemory l.blocks;
  gap : HasGap l.free (rows_of l.blocks);
  items : concat (rows_of l.blocks) ≡ concat (rows_of l.initial.blocks);
  order : l.to ≤ l.free;
  blocks : length l.blocks ≡ length l.initial.blocks;
}

abbrev pub decreases-loop-free : goal.decreases-loop-free
decreases-loop-free l = l.free
