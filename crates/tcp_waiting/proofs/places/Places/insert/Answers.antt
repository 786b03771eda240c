use Rattle.std.proofs.Common.{reverse, arith}
use Rattle.std.proofs.lemmas.List.{length-map}
use Rattle.tcp_waiting.specs.Places.{numbers_of}
use Rattle.tcp_waiting.proofs.Numbered.{SlabInserts, is_put}
use Rattle.tcp_waiting.proofs.places.Places.insert.Goals as goal

put : (c : goal.After-insert_from_end) → SlabInserts (numbers_of c.self.inside)
    (reverse c.insert_from_end.new.order.items) c.self.inside.slots
    c.insert_reserved-number.new.self
    c.args.place c.args.waiting
put c =
    let a = c.self.inside in
    let place = rw (← c.self.view_is, length-map) at c.requires.place in
    let number = c.insert_reserved-number.ensures in
    is_put (numbers_of a) (reverse c.insert_from_end.new.order.items) a.slots
    c.insert_reserved-number.new.self
    c.args.place c.insert_reserved-number.result c.args.waiting c.self.invariant.tied place
    c.insert_from_end.ensures.items number.was_vacant number.updates number.len

pub invariant_of-self : goal.invariant_of-self
invariant_of-self c = record {
  tied = (put c).tied;
  order = omega arith;
  slots = omega arith;
  small = omega arith;
}

pub returns-clause-items : goal.returns-clause-items
returns-clause-items c = rw (← c.self.view_is) (put c).items
