use Rattle.std.proofs.Common.{length, ap, ◌∙◌, arith}
use Rattle.std.specs.List.{insert}
use Rattle.tcp_slots.proofs.Blocks.{free_behind, index_inside, block_inserted}
use Rattle.tcp_slots.proofs.order.insert_in_blocks.Goals as goal

pub move_gap_earlier-requires-clause-gap : goal.move_gap_earlier-requires-clause-gap
move_gap_earlier-requires-clause-gap c =
    free_behind c.args.blocks.now c.args.len c.requires.filled c.requires.len c.requires.some

pub insert-inserted-requires : goal.insert-inserted-requires
insert-inserted-requires c =
    let e = ap length c.move_gap_earlier.ensures.items in
    index_inside c.move_gap_earlier.new.blocks c.args.index c.index-blocks-block.result
    c.move_gap_earlier.ensures.gap (omega arith)

pub returns-clause-filled : goal.returns-clause-filled
returns-clause-filled c =
    let e = ap length c.move_gap_earlier.ensures.items in
    (block_inserted c.move_gap_earlier.new.blocks c.args.index c.args.slot _ _ _
    c.move_gap_earlier.ensures.gap c.move_gap_earlier.ensures.memory
    (omega arith) c.insert-inserted.ensures.items
    c.insert-inserted.ensures.full).0

pub returns-clause-items : goal.returns-clause-items
returns-clause-items c =
    let e = ap length c.move_gap_earlier.ensures.items in
    (block_inserted c.move_gap_earlier.new.blocks c.args.index c.args.slot _ _ _
    c.move_gap_earlier.ensures.gap c.move_gap_earlier.ensures.memory
    (omega arith) c.insert-inserted.ensures.items
    c.insert-inserted.ensures.full).1
    ∙ ap (λ l. insert l c.args.index c.args.slot) c.move_gap_earlier.ensures.items
