use Rattle.std.proofs.Common.{arith}
use Rattle.std.proofs.lemmas.List.{length-map}
use Rattle.std.specs.VecDeque.{deque_items}
use Rattle.tcp_slots.specs.Order.{rows_of}
use Rattle.tcp_slots.proofs.Blocks.{most_filled}
use Rattle.tcp_slots.proofs.order.Order.len.Goals as goal

pub returns-clause-small : goal.returns-clause-small
returns-clause-small c =
    let blocks = c.self.inside.blocks.items in
    omega (
      arith,
      most_filled (rows_of blocks) c.self.invariant.filled,
      length-map blocks deque_items,
    )
