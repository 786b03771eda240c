use Rattle.std.proofs.Common.{refl}
use Rattle.giop_sig.specs.Views.{node_view}
use Rattle.giop_sig.proofs.Tables.{entered, part_in_room, part_known_in, index_entered}
use Rattle.giop_sig.proofs.seen.SeenCatalogue.part_in.Goals as goal

pub part_in-requires : goal.part_in-requires
part_in-requires c =
    let e = entered _ c.args.self.now c.args.t.0 (node_view c.entry.result.now) c.laws.ensures refl
    c.requires.known c.entry.ensures.node in
    index_entered c.args.self.now c.args.t.0 c.args.index (node_view c.entry.result.now) e
    c.requires.index

pub returns-clause-known : goal.returns-clause-known
returns-clause-known c =
    let e = entered _ c.args.self.now c.args.t.0 (node_view c.entry.result.now) c.laws.ensures refl
    c.requires.known c.entry.ensures.node in
    part_known_in c.args.self.now c.args.t.0 c.args.index c.part_in.result.0 c.args.room
    (node_view c.entry.result.now) e c.requires.index c.requires.led c.part_in.ensures

pub returns-clause-tree : goal.returns-clause-tree
returns-clause-tree c =
    let e = entered _ c.args.self.now c.args.t.0 (node_view c.entry.result.now) c.laws.ensures refl
    c.requires.known c.entry.ensures.node in
    part_in_room c.args.self.now c.args.t.0 c.args.index c.part_in.result.0 c.args.room
    (node_view c.entry.result.now) e c.requires.index c.part_in.ensures
