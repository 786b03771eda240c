use Rattle.std.proofs.Common.{◌≡◌, ◌≤◌, ◌-◌, []}
use Rattle.std.specs.List.{AllByRecursion, concat}
use Rattle.std.specs.Vec.{vec_len, vec_capacity}
use Rattle.std.specs.VecDeque.{deque_capacity}
use Rattle.tcp_slots.specs.Order.{rows_of, IsFilled}
use Rattle.tcp_slots.proofs.order.Order.new.Given as goal

abbrev pub invariant-loop-alloc : goal.invariant-loop-alloc
invariant-loop-alloc l = record {
  few : vec_len l.blocks ≤ l.count;
  fit : l.count ≤ vec_capacity l.blocks;
  each : AllByRecursion (λ b. 1024 ≤ deque_capacity b) l.blocks.items;
  filled : IsFilled (rows_of l.blocks.items);
  none : concat (rows_of l.blocks.items) ≡ [];
}

abbrev pub decreases-loop-alloc : goal.decreases-loop-alloc
decreases-loop-alloc l = l.count - vec_len l.blocks
