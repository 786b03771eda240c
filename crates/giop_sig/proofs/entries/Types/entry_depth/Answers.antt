use Rattle.std.proofs.Common.{◌+◌, sym, ap, ◌∙◌, arith}
use Rattle.giop_sig.specs.Trees.{depth_in}
use Rattle.giop_sig.specs.Views.{node_view}
use Rattle.giop_sig.proofs.Depths.{depth_at_shape}
use Rattle.giop_sig.proofs.entries.Types.entry_depth.Goals as goal

pub returns-in-Prim : goal.returns-in-Prim
returns-in-Prim c = sym (depth_at_shape c.args.self.now (node_view c.args.entry.now) _
    c.in-Prim.ensures)

pub returns-in-Enumeration : goal.returns-in-Enumeration
returns-in-Enumeration c = sym (depth_at_shape c.args.self.now
    (node_view c.args.entry.now) _ c.in-Enumeration.ensures)

pub returns-in-Text : goal.returns-in-Text
returns-in-Text c = sym (depth_at_shape c.args.self.now (node_view c.args.entry.now) _
    c.in-Text.ensures)

pub returns-in-Octets : goal.returns-in-Octets
returns-in-Octets c = sym (depth_at_shape c.args.self.now (node_view c.args.entry.now)
    _ c.in-Octets.ensures)

pub returns-in-Members : goal.returns-in-Members
returns-in-Members c =
    ap (λ n. 1 + n) c.deepest_part.ensures.depth
    ∙ sym (depth_at_shape c.args.self.now (node_view c.args.entry.now) _ c.in-Members.ensures)

pub returns-in-Union : goal.returns-in-Union
returns-in-Union c =
    let shape = depth_at_shape c.args.self.now (node_view c.args.entry.now) _ c.in-Union.ensures in
    omega (arith, shape, c.max.ensures, c.deepest_part-in-Union.ensures.depth)

pub returns-in-Sequence : goal.returns-in-Sequence
returns-in-Sequence c =
    ap (λ n. 1 + n) (c.depth_at.ensures.depth
    ∙ ap (depth_in c.args.self.now) c.part.ensures)
    ∙ sym (depth_at_shape c.args.self.now (node_view c.args.entry.now) _ c.in-Sequence.ensures)

pub returns-in-Array : goal.returns-in-Array
returns-in-Array c =
    ap (λ n. 1 + n) (c.depth_at-in-Array.ensures.depth
    ∙ ap (depth_in c.args.self.now) c.part-in-Array.ensures)
    ∙ sym (depth_at_shape c.args.self.now (node_view c.args.entry.now) _ c.in-Array.ensures)

pub returns-in-Encapsulation : goal.returns-in-Encapsulation
returns-in-Encapsulation c =
    ap (λ n. 1 + n) (c.depth_at-in-Encapsulation.ensures.depth
    ∙ ap (depth_in c.args.self.now) c.part-in-Encapsulation.ensures)
    ∙ sym (depth_at_shape c.args.self.now (node_view c.args.entry.now) _ c.in-Encapsulation.ensures)

pub returns-in-Tagged : goal.returns-in-Tagged
returns-in-Tagged c =
    let shape = depth_at_shape c.args.self.now (node_view c.args.entry.now) _ c.in-Tagged.ensures in
    omega (arith, shape, c.max-in-Tagged.ensures, c.deepest_part-in-Tagged.ensures.depth)
