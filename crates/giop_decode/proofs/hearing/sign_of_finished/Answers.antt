use Rattle.std.proofs.Common.{suc}
use Rattle.giop_decode.proofs.Rooms.{number_moved, union_in_room}
use Rattle.giop_sig.specs.Trees.{tree_at}
use Rattle.giop_sig.specs.Types.{switch_of}
use Rattle.giop_decode.proofs.hearing.sign_of_finished.Goals as goal

pub switch_type-requires-clause-union : goal.switch_type-requires-clause-union
switch_type-requires-clause-union c =
    let has = rw c.in-Switch.is at c.requires.has_output.1 in
    union_in_room c.args.catalogue.now (suc c.requires.has_output.0) 24 c.args.finished.of.0 has.0

pub returns-in-Number : goal.returns-in-Number
returns-in-Number c n at path lines says =
    let is = rw c.in-Number.is at says in
    rw is.1 (c.sign_of_number.ensures (suc n) at path is.0)

pub returns-in-Switch : goal.returns-in-Switch
returns-in-Switch c n at path lines says =
    let C = c.args.catalogue.now in
    let is = rw c.in-Switch.is at says in
    let moved = number_moved (switch_of (tree_at C (suc n) c.args.finished.of.0))
    (tree_at C 24 c.switch_type.result.0) c.in-Switch.number is.0 (c.switch_type.ensures.rooms 24 n)
    in
    rw is.1 (c.sign_of_number-in-Switch.ensures 24 at _ moved)
