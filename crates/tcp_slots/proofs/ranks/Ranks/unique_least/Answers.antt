use Rattle.std.proofs.Common.{◌-◌, sym, ◌∙◌, arith}
use Rattle.tcp_slots.proofs.Leaves.{root_leads, left_leads, right_leads, leaf_first, none_first, children}
use Rattle.tcp_slots.proofs.ranks.Ranks.unique_least.Goals as goal

pub loop-node-init : goal.loop-node-init
loop-node-init c = root_leads _ _ (omega arith)

pub returns-then-left-right-clause-none : goal.returns-then-left-right-clause-none
returns-then-left-right-clause-none c none =
    let tree = c.args.self.now.tree in
    let read = children _ _ c.loop-node.node _ _ tree (omega arith)
    c.index-left.ensures c.index-right.ensures in
    none_first _ _ c.loop-node.node tree c.loop-node.invariant
    (omega arith) (read.0 ∙ c.if-left-right.true ∙ sym read.1)

pub loop-node-preserved-then-left-right-2 : goal.loop-node-preserved-then-left-right-2
loop-node-preserved-then-left-right-2 c =
    let tree = c.args.self.now.tree in
    let read = children _ _ c.loop-node.node _ _ tree (omega arith)
    c.index-left.ensures c.index-right.ensures in
    left_leads _ _ c.loop-node.node tree c.loop-node.invariant
    (omega arith)
    (omega arith)

pub loop-node-preserved : goal.loop-node-preserved
loop-node-preserved c =
    let tree = c.args.self.now.tree in
    let read = children _ _ c.loop-node.node _ _ tree (omega arith)
    c.index-left.ensures c.index-right.ensures in
    right_leads _ _ c.loop-node.node tree c.loop-node.invariant
    (omega arith)
    (omega arith)

pub returns-clause-some : goal.returns-clause-some
returns-clause-some c =
    leaf_first c.args.self.now.slots c.args.self.now.nodes.items c.loop-node.node
    (c.loop-node.node - c.args.self.now.slots) c.loop-node.invariant
    (omega arith)
