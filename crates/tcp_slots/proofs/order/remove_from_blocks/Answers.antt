use Rattle.std.proofs.Common.{◌/◌, ◌-◌, length, ap, ◌∙◌, arith}
use Rattle.std.specs.List.{concat}
use Rattle.std.proofs.lemmas.List.Edits.{length-remove}
use Rattle.tcp_slots.specs.Order.{rows_of}
use Rattle.tcp_slots.proofs.Blocks.{block_of, block_removed, closed}
use Rattle.tcp_slots.proofs.order.remove_from_blocks.Goals as goal

pub bounds-blocks-block : goal.bounds-blocks-block
bounds-blocks-block c =
    block_of c.args.blocks.now c.args.index c.requires.filled
    (omega arith)

pub move_gap_later-requires-clause-gap : goal.move_gap_later-requires-clause-gap
move_gap_later-requires-clause-gap c =
    (block_removed c.args.blocks.now c.args.index _ c.index-blocks-block.result
    c.remove-removed.new.self _ c.requires.filled
    (omega arith) (c.remove-removed.ensures.succeeds 0)
    c.remove-removed.ensures.items).0

pub move_gap_later-requires-clause-many : goal.move_gap_later-requires-clause-many
move_gap_later-requires-clause-many c =
    let r = block_removed c.args.blocks.now c.args.index _ c.index-blocks-block.result
    c.remove-removed.new.self _ c.requires.filled
    (omega arith) (c.remove-removed.ensures.succeeds 0)
    c.remove-removed.ensures.items in
    let n = length-remove (concat (rows_of c.args.blocks.now)) c.args.index
    (omega arith) in
    omega (arith, ap length r.1)

pub returns-clause-filled : goal.returns-clause-filled
returns-clause-filled c =
    let r = block_removed c.args.blocks.now c.args.index _ c.index-blocks-block.result
    c.remove-removed.new.self _ c.requires.filled
    (omega arith) (c.remove-removed.ensures.succeeds 0)
    c.remove-removed.ensures.items in
    let n = length-remove (concat (rows_of c.args.blocks.now)) c.args.index
    (omega arith) in
    let e = ap length (c.move_gap_later.ensures.items ∙ r.1) in
    closed ((c.args.len - 1) / 1024) (rows_of c.move_gap_later.new.blocks)
    c.move_gap_later.ensures.gap (omega arith)
    (omega arith)

pub returns-clause-items : goal.returns-clause-items
returns-clause-items c = c.move_gap_later.ensures.items
    ∙ (block_removed c.args.blocks.now c.args.index _ c.index-blocks-block.result
    c.remove-removed.new.self _ c.requires.filled
    (omega arith) (c.remove-removed.ensures.succeeds 0)
    c.remove-removed.ensures.items).1
