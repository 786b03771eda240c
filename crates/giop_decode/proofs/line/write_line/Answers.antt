use Rattle.std.proofs.Common.{◌≡◌, suc, ◌-◌, [], ◌∷◌, ◌++◌, length, arith}
use Rattle.giop_decode.specs.ReadingSteps.{path_in}
use Rattle.giop_decode.specs.Transitions.{open_parts, switch_segment, tree_in}
use Rattle.giop_decode.proofs.Segments.{said_one, said_none}
use Rattle.giop_decode.proofs.FieldsRead.{stands_at, switch_at}
use Rattle.giop_decode.proofs.Rooms.{union_in_room}
use Rattle.giop_decode.proofs.line.write_line.Goals as goal
use Rattle.giop_print.proofs.Writing.{wrote-nil}
use Rattle.giop_print.specs.Lines.{kind_line}

pub switch_type-switch-requires-clause-union : goal.switch_type-switch-requires-clause-union
switch_type-switch-requires-clause-union g c =
    let has = rw c.in-Switch.is at c.requires.has_output in
    union_in_room c.args.catalogue.now (24 - length c.args.outer.now) 24 c.args.finished.of.0 has.0

pub invariant_of-path : goal.invariant_of-path
invariant_of-path g c =
    let has = rw c.in-Switch.is at c.requires.has_output in (
      c.requires.known_outer,
      c.requires.room,
      (
        c.requires.known,
        union_in_room c.args.catalogue.now (24 - length c.args.outer.now) 24 c.args.finished.of.0
            has.0,
      ),
    )

pub number_line-requires-in-Switch-clause-number : goal.number_line-requires-in-Switch-clause-number
number_line-requires-in-Switch-clause-number g c =
    let has = rw c.in-Switch.is at c.requires.has_output in
    let outer = c.args.outer.now in
    let one : suc (23 - length outer) ≡ 24 - length outer = omega (arith, c.requires.room) in
    (24, rw (c.switch_type-switch.ensures.rooms 24 (23 - length outer), one) has.1)

pub returns-in-Nothing : goal.returns-in-Nothing
returns-in-Nothing g c here at lines h = rw (said_none c.args.head.now.message
    c.args.head.now.root lines
    (rw c.in-Nothing.is at h)) (wrote-nil _)

pub returns-in-Length : goal.returns-in-Length
returns-in-Length g c here at lines h = rw (said_none c.args.head.now.message
    c.args.head.now.root lines
    (rw c.in-Length.is at h)) (wrote-nil _)

pub returns-in-Number : goal.returns-in-Number
returns-in-Number g c here at lines h =
    let path = path_in [] (open_parts c.args.catalogue.now here c.args.outer.now) in
    let k = rw c.in-Number.is at h in
    rw (← said_one c.args.head.now.message c.args.head.now.root at path _ _ lines
    (stands_at c.args.catalogue.now here c.args.head.now.root c.args.outer.now) k.1)
    (c.number_line.ensures _ k.0)

pub returns-in-Count : goal.returns-in-Count
unfolding kind_line
returns-in-Count g c here at lines h =
    let path = path_in [] (open_parts c.args.catalogue.now here c.args.outer.now) in
    let k = rw c.in-Count.is at h in
    rw (← said_one c.args.head.now.message c.args.head.now.root at path _ _ lines
    (stands_at c.args.catalogue.now here c.args.head.now.root c.args.outer.now) k)
    c.value_line.ensures

pub returns-in-Piece : goal.returns-in-Piece
returns-in-Piece g c here at lines h =
    let path = path_in [] (open_parts c.args.catalogue.now here c.args.outer.now) in
    let k = rw c.in-Piece.is at h in
    rw (← said_one c.args.head.now.message c.args.head.now.root at path _ _ lines
    (stands_at c.args.catalogue.now here c.args.head.now.root c.args.outer.now) k)
    (c.octets_line.ensures _)

pub returns-in-Switch : goal.returns-in-Switch
returns-in-Switch g c here at lines h =
    let path = path_in [] (open_parts c.args.catalogue.now here c.args.outer.now) in
    let k = rw c.in-Switch.is at h in
    let outer = c.args.outer.now in
    let one : suc (23 - length outer) ≡ 24 - length outer = omega (arith, c.requires.room) in
    let f = rw (c.switch_type-switch.ensures.rooms 24 (23 - length outer), one) at
    (c.number_line-in-Switch.ensures 24) in
    let seg = switch_segment (tree_in c.args.catalogue.now outer c.args.finished.of.0) in
    rw (← said_one c.args.head.now.message c.args.head.now.root at (path ++ seg ∷ []) _ _ lines
    (switch_at c.args.catalogue.now here c.args.head.now.root c.args.outer.now seg) k.1) (f k.0)

pub returns-in-Size : goal.returns-in-Size
unfolding kind_line
returns-in-Size g c here at lines h =
    let path = path_in [] (open_parts c.args.catalogue.now here c.args.outer.now) in
    let k = rw c.in-Size.is at h in
    rw (← said_one c.args.head.now.message c.args.head.now.root at path _ _ lines
    (stands_at c.args.catalogue.now here c.args.head.now.root c.args.outer.now) k)
    c.encapsulation_line.ensures

pub returns-in-Ordered : goal.returns-in-Ordered
unfolding kind_line
returns-in-Ordered g c here at lines h =
    let path = path_in [] (open_parts c.args.catalogue.now here c.args.outer.now) in
    let k = rw c.in-Ordered.is at h in
    rw (← said_one c.args.head.now.message c.args.head.now.root at path _ _ lines
    (stands_at c.args.catalogue.now here c.args.head.now.root c.args.outer.now) k)
    c.order_line.ensures
