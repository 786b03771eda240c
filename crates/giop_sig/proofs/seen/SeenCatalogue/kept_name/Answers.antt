use Rattle.std.proofs.Common.{refl}
use Rattle.giop_sig.specs.Views.{node_view}
use Rattle.giop_sig.proofs.Tables.{entered, member_entered, name_tree, name_within}
use Rattle.giop_sig.proofs.seen.SeenCatalogue.kept_name.Goals as goal

pub part_name-requires : goal.part_name-requires
part_name-requires c =
    let e = entered _ c.args.self.now c.args.t.0 (node_view c.entry.result.now) c.laws.ensures refl
    c.requires.known c.entry.ensures.node in
    member_entered c.args.self.now c.args.t.0 c.args.index (node_view c.entry.result.now) e
    c.requires.index

pub returns-clause-tree : goal.returns-clause-tree
returns-clause-tree c =
    let e = entered _ c.args.self.now c.args.t.0 (node_view c.entry.result.now) c.laws.ensures refl
    c.requires.known c.entry.ensures.node in
    name_tree c.args.self.now c.args.t.0 c.args.index 24 (node_view c.entry.result.now)
    c.part_name.result.now e c.requires.index c.part_name.ensures

pub returns-clause-short : goal.returns-clause-short
returns-clause-short c =
    let e = entered _ c.args.self.now c.args.t.0 (node_view c.entry.result.now) c.laws.ensures refl
    c.requires.known c.entry.ensures.node in
    name_within c.args.self.now c.args.t.0 c.args.index (node_view c.entry.result.now)
    c.part_name.result.now e c.requires.index c.part_name.ensures

pub returns-clause-rooms : goal.returns-clause-rooms
returns-clause-rooms c = λ n.
    let e = entered _ c.args.self.now c.args.t.0 (node_view c.entry.result.now) c.laws.ensures refl
    c.requires.known c.entry.ensures.node in
    name_tree c.args.self.now c.args.t.0 c.args.index n (node_view c.entry.result.now)
    c.part_name.result.now e c.requires.index c.part_name.ensures
