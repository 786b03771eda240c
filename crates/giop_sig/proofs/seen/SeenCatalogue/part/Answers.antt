use Rattle.std.proofs.Common.{refl}
use Rattle.giop_sig.specs.Views.{node_view}
use Rattle.giop_sig.proofs.Tables.{entered, part_below, part_known, part_room, index_entered}
use Rattle.giop_sig.proofs.seen.SeenCatalogue.part.Goals as goal

pub part-requires : goal.part-requires
part-requires c =
    let e = entered _ c.args.self.now c.args.t.0 (node_view c.entry.result.now) c.laws.ensures refl
    c.requires.known c.entry.ensures.node in
    index_entered c.args.self.now c.args.t.0 c.args.index (node_view c.entry.result.now) e
    c.requires.index

pub returns-clause-known : goal.returns-clause-known
returns-clause-known c =
    let e = entered _ c.args.self.now c.args.t.0 (node_view c.entry.result.now) c.laws.ensures refl
    c.requires.known c.entry.ensures.node in
    part_known c.args.self.now c.args.t.0 c.args.index c.part.result.0
    (node_view c.entry.result.now) e c.requires.index c.requires.led c.part.ensures

pub returns-clause-below : goal.returns-clause-below
returns-clause-below c inner =
    let e = entered _ c.args.self.now c.args.t.0 (node_view c.entry.result.now) c.laws.ensures refl
    c.requires.known c.entry.ensures.node in
    part_below c.args.self.now c.args.t.0 c.args.index c.part.result.0
    (node_view c.entry.result.now) e inner c.part.ensures

pub returns-clause-rooms : goal.returns-clause-rooms
returns-clause-rooms c none n =
    let e = entered _ c.args.self.now c.args.t.0 (node_view c.entry.result.now) c.laws.ensures refl
    c.requires.known c.entry.ensures.node in
    part_room c.args.self.now c.args.t.0 c.args.index c.part.result.0 n
    (node_view c.entry.result.now) e none c.requires.index c.part.ensures
