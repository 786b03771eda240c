use Rattle.std.proofs.Common.{◌≡◌, ◌+◌, suc, arith}
use Rattle.std.proofs.lemmas.List.{length-set}
use Rattle.tcp_slots.proofs.Blocks.{gap_block, full_before, room_at, block_passed_on}
use Rattle.tcp_slots.proofs.order.move_last_to_next.Goals as goal

pub offset_bounds-blocks-block : goal.offset_bounds-blocks-block
offset_bounds-blocks-block c =
    let l = gap_block c.args.blocks.now (suc c.args.block) c.requires.gap in
    omega arith

pub bounds-blocks-block : goal.bounds-blocks-block
bounds-blocks-block c =
    let l = gap_block c.args.blocks.now (suc c.args.block) c.requires.gap in omega arith

pub overflow_add-block : goal.overflow_add-block
overflow_add-block c =
    let l = gap_block c.args.blocks.now (suc c.args.block) c.requires.gap in
    omega arith

pub offset_bounds-blocks-block-in-Some : goal.offset_bounds-blocks-block-in-Some
offset_bounds-blocks-block-in-Some c =
    let l = gap_block c.args.blocks.now (suc c.args.block) c.requires.gap in
    omega arith

pub bounds-blocks-block-in-Some : goal.bounds-blocks-block-in-Some
bounds-blocks-block-in-Some c =
    let l = gap_block c.args.blocks.now (suc c.args.block) c.requires.gap in
    let n = length-set c.args.blocks.now c.args.block c.pop_back.new.self in omega arith

pub push_front_reserved-requires : goal.push_front_reserved-requires
push_front_reserved-requires c =
    let next : c.args.block + 1 ≡ suc c.args.block = omega arith in
    rw next (room_at c.args.blocks.now (suc c.args.block) c.args.block c.pop_back.new.self
    c.index-blocks-block-in-Some.result c.requires.gap c.requires.memory (λ e. omega arith))

pub returns-in-Some-clause-gap : goal.returns-in-Some-clause-gap
returns-in-Some-clause-gap c = (block_passed_on c.args.blocks.now c.args.block
    c.index-blocks-block.result c.index-blocks-block-in-Some.result c.pop_back.new.self
    c.push_front_reserved.new.self c.in-Some.slot c.requires.gap c.in-Some.ensures.items
    c.push_front_reserved.ensures.items).0

pub returns-in-Some-clause-items : goal.returns-in-Some-clause-items
returns-in-Some-clause-items c = (block_passed_on c.args.blocks.now c.args.block
    c.index-blocks-block.result c.index-blocks-block-in-Some.result c.pop_back.new.self
    c.push_front_reserved.new.self c.in-Some.slot c.requires.gap c.in-Some.ensures.items
    c.push_front_reserved.ensures.items).1

pub returns-in_default-clause-gap : goal.returns-in_default-clause-gap
returns-in_default-clause-gap c = absurd (c.in_default.not-Some _ (c.pop_back.ensures.value 0
    (omega (
      arith,
      full_before c.args.blocks.now c.args.block c.index-blocks-block.result c.requires.gap,
    ))))

pub returns-in_default-clause-items : goal.returns-in_default-clause-items
returns-in_default-clause-items c = absurd (c.in_default.not-Some _ (c.pop_back.ensures.value 0
    (omega (
      arith,
      full_before c.args.blocks.now c.args.block c.index-blocks-block.result c.requires.gap,
    ))))
