use Rattle.std.proofs.Common.{◌-◌, length, refl, ◌∙◌, rules}
use Rattle.giop_decode.specs.declared.leaf.Leaf.TheVariants as innermost
use Rattle.giop_decode.proofs.Advancing.{stands_at}
use Rattle.giop_decode.proofs.Whole.{comes_leading, comes_long, comes_number, width_in}
use Rattle.giop_decode.proofs.Rooms.{begins_in_room}
use Rattle.giop_decode.proofs.decoder.Decoder.take_number.Goals as goal

pub complete_unit-requires-clause-ahead : goal.complete_unit-requires-clause-ahead
complete_unit-requires-clause-ahead g c =
    let a = c.lookahead_of-ahead.ensures in
    rw (a.of, a.count, a.step, c.ended_step-step.ensures, a.rest) (comes_number c.args.catalogue.now
    c.args.self.now c.args.of c.args.octets.now c.in-Some.count c.requires.fits c.requires.leaf
    c.args.coded.0 c.args.coded.1 c.requires.coded c.in-Some.number (c.if-is_empty.ensures.0 refl)
    (c.in-Some.ensures (24 - length c.args.self.now.outer.items)) c.requires.ahead)

pub complete_unit-requires-in-Some-whole_long-clause-ahead :
    goal.complete_unit-requires-in-Some-whole_long-clause-ahead
complete_unit-requires-in-Some-whole_long-clause-ahead g c =
    let a = c.lookahead_of-ahead-in-Some-whole_long.ensures in
    let v = c.length_step-step.ensures in
    rw (a.of, a.count, a.step, a.rest) (comes_long c.args.catalogue.now c.args.self.now c.args.of
    c.args.octets.now c.in-Some-whole_long.count c.requires.fits c.requires.leaf c.args.coded.0
    c.args.coded.1 c.requires.coded c.in-Some-whole_long.n c.length_step-step.result
    (rw (c.in-Text.ensures.shapes (24 - length c.args.self.now.outer.items)) refl)
    (c.if-is_empty.ensures.0 refl) c.in-Some-whole_long.ensures
    c.requires.ahead v.fits v.transitions)

pub complete_unit-requires-in-Some-whole_long-2-clause-ahead :
    goal.complete_unit-requires-in-Some-whole_long-2-clause-ahead
complete_unit-requires-in-Some-whole_long-2-clause-ahead g c =
    let a = c.lookahead_of-ahead-in-Some-whole_long-2.ensures in
    let v = c.size_step-step.ensures in
    rw (a.of, a.count, a.step, a.rest) (comes_long c.args.catalogue.now c.args.self.now c.args.of
    c.args.octets.now c.in-Some-whole_long-2.count c.requires.fits c.requires.leaf c.args.coded.0
    c.args.coded.1 c.requires.coded c.in-Some-whole_long-2.n c.size_step-step.result
    (rw (c.in-Octets.ensures.shapes (24 - length c.args.self.now.outer.items)) refl)
    (c.if-is_empty.ensures.0 refl)
    c.in-Some-whole_long-2.ensures c.requires.ahead v.fits v.transitions)

pub complete_unit-requires-in-Some-whole_long-3-clause-ahead :
    goal.complete_unit-requires-in-Some-whole_long-3-clause-ahead
complete_unit-requires-in-Some-whole_long-3-clause-ahead g c =
    let a = c.lookahead_of-ahead-in-Some-whole_long-3.ensures in
    let v = c.count_step-step.ensures in
    rw (a.of, a.count, a.step, a.rest) (comes_long c.args.catalogue.now c.args.self.now c.args.of
    c.args.octets.now c.in-Some-whole_long-3.count c.requires.fits c.requires.leaf c.args.coded.0
    c.args.coded.1 c.requires.coded c.in-Some-whole_long-3.n c.count_step-step.result
    (rw ((c.in-Sequence.ensures.shapes (24 - length c.args.self.now.outer.items)).1) refl)
    (c.if-is_empty.ensures.0 refl)
    c.in-Some-whole_long-3.ensures c.requires.ahead v.fits v.transitions)

pub value_step-step-requires : goal.value_step-step-requires
value_step-step-requires g c =
    let C = c.args.catalogue.now in
    let d = c.args.self.now in
    let s = stands_at C d c.requires.fits (innermost.Number c.args.of) c.requires.leaf in
    let head = begins_in_room C (24 - length d.outer.items) 24 c.args.of.0 s.fits.kind in
    record {
      known = search rules;
      head = head;
      fit = (_, _, s.fit);
      whole = c.in-Some-whole_octets.ensures.width ∙ c.leading_width.ensures.width 23 head;
    }

pub complete_unit-requires-in-Some-whole_octets : goal.complete_unit-requires-in-Some-whole_octets
complete_unit-requires-in-Some-whole_octets g c =
    let C = c.args.catalogue.now in
    let d = c.args.self.now in
    let a = c.lookahead_of-ahead-in-Some-whole_octets.ensures in
    let v = c.value_step-step.ensures in
    let whole = c.in-Some-whole_octets in
    let empty = c.if-is_empty.ensures.0 refl in
    let wide = width_in C d c.requires.fits c.args.of c.requires.leaf c.leading_width.result
    c.leading_width.ensures.width in
    record {
      fits = c.requires.fits;
      ahead = rw (a.of, a.count, a.step, a.rest) (comes_leading C d c.args.of c.args.octets.now
          whole.count c.requires.fits c.requires.leaf c.args.coded.0 c.args.coded.1
          c.requires.coded d.carry whole.whole.now c.value_step-step.result empty
          (rw empty (rw wide at whole.ensures.stands))
          c.requires.ahead v.fits v.transitions);
    }
