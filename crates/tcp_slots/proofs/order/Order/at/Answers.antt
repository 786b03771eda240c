use Rattle.std.proofs.Common.{◌<◌, ◌%◌, length, get_or, sym, ap, ◌∙◌, subst, arith}
use Rattle.std.specs.VecDeque.{deque_len}
use Rattle.std.proofs.lemmas.List.{get_or_read}
use Rattle.tcp_slots.specs.Order.{OrderView}
use Rattle.tcp_slots.proofs.Blocks.{block_of, stands}
use Rattle.tcp_slots.proofs.order.Order.at.Goals as goal

pub index-requires : goal.index-requires
index-requires c =
    let b = block_of c.self.inside.blocks.items c.args.index c.self.invariant.filled
    (subst (λ (v : OrderView). c.args.index < length v.items) (sym c.self.view_is) c.requires) in
    omega arith

pub index-requires-2 : goal.index-requires-2
index-requires-2 c =
    let s = stands c.self.inside.blocks.items c.args.index 0 c.index.result.now
    c.self.invariant.filled
    (subst (λ (v : OrderView). c.args.index < length v.items) (sym c.self.view_is) c.requires) in
    let e = ap deque_len c.index.ensures in omega arith

pub returns : goal.returns
returns c =
    let s = stands c.self.inside.blocks.items c.args.index 0 c.index.result.now
    c.self.invariant.filled
    (subst (λ (v : OrderView). c.args.index < length v.items) (sym c.self.view_is) c.requires) in
    let e = ap deque_len c.index.ensures in
    let inside : c.args.index % 1024 < length c.index.result.now.items =
    omega arith in
    get_or_read c.index.result.now.items (c.args.index % 1024) c.index-2.result.now inside
    c.index-2.ensures 0
    ∙ ap (λ b. get_or b.items (c.args.index % 1024) 0) c.index.ensures ∙ sym s.1
    ∙ ap (λ (v : OrderView). get_or v.items c.args.index 0) c.self.view_is
