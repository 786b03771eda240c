use Rattle.std.proofs.Common.{refl}
use Rattle.giop_sig.specs.Views.{node_view}
use Rattle.giop_sig.proofs.Tables.{entered, union_entered, switch_below, switch_room}
use Rattle.giop_sig.proofs.seen.SeenCatalogue.switch_type.Goals as goal

pub switch_type-requires : goal.switch_type-requires
switch_type-requires c =
    let e = entered _ c.args.self.now c.args.t.0 (node_view c.entry.result.now) c.laws.ensures refl
    c.requires.known c.entry.ensures.node in
    union_entered c.args.self.now c.args.t.0 (node_view c.entry.result.now) e c.requires.union

pub returns-clause-below : goal.returns-clause-below
returns-clause-below c =
    let e = entered _ c.args.self.now c.args.t.0 (node_view c.entry.result.now) c.laws.ensures refl
    c.requires.known c.entry.ensures.node in
    switch_below c.args.self.now c.args.t.0 c.switch_type.result.0 (node_view c.entry.result.now) e
    c.requires.union c.switch_type.ensures

pub returns-clause-tree : goal.returns-clause-tree
returns-clause-tree c =
    let e = entered _ c.args.self.now c.args.t.0 (node_view c.entry.result.now) c.laws.ensures refl
    c.requires.known c.entry.ensures.node in
    switch_room c.args.self.now c.args.t.0 c.switch_type.result.0 24 23
    (node_view c.entry.result.now) e
    c.requires.union c.switch_type.ensures

pub returns-clause-rooms : goal.returns-clause-rooms
returns-clause-rooms c = λ m n.
    let e = entered _ c.args.self.now c.args.t.0 (node_view c.entry.result.now) c.laws.ensures refl
    c.requires.known c.entry.ensures.node in
    switch_room c.args.self.now c.args.t.0 c.switch_type.result.0 m n
    (node_view c.entry.result.now) e c.requires.union c.switch_type.ensures
