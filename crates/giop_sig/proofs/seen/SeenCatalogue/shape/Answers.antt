use Rattle.std.proofs.Common.{◌∙◌, refl}
use Rattle.giop_sig.specs.Views.{node_view}
use Rattle.giop_sig.proofs.Tables.{entered, shape_entered, has_shape_entered, root_entered}
use Rattle.giop_sig.proofs.seen.SeenCatalogue.shape.Goals as goal

pub returns-clause-tree : goal.returns-clause-tree
returns-clause-tree c =
    let e = entered _ c.args.self.now c.args.t.0 (node_view c.entry.result.now) c.laws.ensures refl
    c.requires c.entry.ensures.node in
    c.shape.ensures ∙ shape_entered c.args.self.now c.args.t.0 24 (node_view c.entry.result.now) e

pub returns-clause-shape : goal.returns-clause-shape
returns-clause-shape c =
    let e = entered _ c.args.self.now c.args.t.0 (node_view c.entry.result.now) c.laws.ensures refl
    c.requires c.entry.ensures.node in
    has_shape_entered c.args.self.now c.args.t.0 24 (node_view c.entry.result.now) c.shape.result e
    c.shape.ensures

pub returns-clause-root : goal.returns-clause-root
returns-clause-root c =
    let e = entered _ c.args.self.now c.args.t.0 (node_view c.entry.result.now) c.laws.ensures refl
    c.requires c.entry.ensures.node in
    root_entered c.args.self.now c.args.t.0 (node_view c.entry.result.now) e

pub returns-clause-rooms : goal.returns-clause-rooms
returns-clause-rooms c = λ n.
    let e = entered _ c.args.self.now c.args.t.0 (node_view c.entry.result.now) c.laws.ensures refl
    c.requires c.entry.ensures.node in
    c.shape.ensures ∙ shape_entered c.args.self.now c.args.t.0 n (node_view c.entry.result.now) e

pub returns-clause-shapes : goal.returns-clause-shapes
returns-clause-shapes c = λ n.
    let e = entered _ c.args.self.now c.args.t.0 (node_view c.entry.result.now) c.laws.ensures refl
    c.requires c.entry.ensures.node in
    has_shape_entered c.args.self.now c.args.t.0 n (node_view c.entry.result.now) c.shape.result e
    c.shape.ensures
