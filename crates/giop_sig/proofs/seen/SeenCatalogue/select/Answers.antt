use Rattle.std.proofs.Common.{refl}
use Rattle.giop_sig.specs.Views.{node_view}
use Rattle.giop_sig.proofs.Tables.{entered, select_tree, select_index}
use Rattle.giop_sig.proofs.seen.SeenCatalogue.select.Goals as goal

pub returns-clause-tree : goal.returns-clause-tree
returns-clause-tree c =
    let e = entered _ c.args.self.now c.args.t.0 (node_view c.entry.result.now) c.laws.ensures refl
    c.requires c.entry.ensures.node in
    select_tree c.args.self.now c.args.t.0 24 (node_view c.entry.result.now) c.args.number
    c.select.result e c.select.ensures

pub returns-clause-index : goal.returns-clause-index
returns-clause-index c =
    let e = entered _ c.args.self.now c.args.t.0 (node_view c.entry.result.now) c.laws.ensures refl
    c.requires c.entry.ensures.node in
    select_index c.args.self.now c.args.t.0 (node_view c.entry.result.now) c.args.number
    c.select.result e c.select.ensures

pub returns-clause-rooms : goal.returns-clause-rooms
returns-clause-rooms c = λ m.
    let e = entered _ c.args.self.now c.args.t.0 (node_view c.entry.result.now) c.laws.ensures refl
    c.requires c.entry.ensures.node in
    select_tree c.args.self.now c.args.t.0 m (node_view c.entry.result.now) c.args.number
    c.select.result e c.select.ensures
