use Rattle.std.proofs.Common.{◌-◌, reverse, ap, ◌∙◌, arith}
use Rattle.tcp_waiting.proofs.Reversed.{reverse_insert}
use Rattle.tcp_waiting.proofs.places.insert_from_end.Goals as goal

pub returns-clause-items : goal.returns-clause-items
returns-clause-items c =
    let order = c.args.order.now.items in
    ap reverse c.insert.ensures.items
    ∙ reverse_insert order c.args.place (c.len.result - c.args.place) c.args.slot
    (omega arith)
