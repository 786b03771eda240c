use Rattle.std.proofs.Common.{◌-◌, arith}
use Rattle.tcp_slots.proofs.Blocks.{block_of, stands, block_last}
use Rattle.tcp_slots.proofs.order.remove_last_of_blocks.Goals as goal

pub bounds-blocks-block : goal.bounds-blocks-block
bounds-blocks-block c = block_of c.args.blocks.now (c.args.len - 1) c.requires.filled
    (omega arith)

pub returns-in-Some-clause-filled : goal.returns-in-Some-clause-filled
returns-in-Some-clause-filled c = (block_last c.args.blocks.now c.args.len c.in-Some.slot
    c.index-blocks-block.result c.pop_back.new.self c.requires.filled c.requires.len
    c.requires.some c.in-Some.ensures.items).0

pub returns-in-Some-clause-items : goal.returns-in-Some-clause-items
returns-in-Some-clause-items c = (block_last c.args.blocks.now c.args.len c.in-Some.slot
    c.index-blocks-block.result c.pop_back.new.self c.requires.filled c.requires.len
    c.requires.some c.in-Some.ensures.items).1

pub unreachable-requires : goal.unreachable-requires
unreachable-requires c =
    let s = stands c.args.blocks.now (c.args.len - 1) 0 c.index-blocks-block.result
    c.requires.filled (omega arith) in
    c.in_default.not-Some _ (c.pop_back.ensures.value 0 (omega arith))
