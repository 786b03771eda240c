use Rattle.std.proofs.lemmas.List.{length-map}
use Rattle.slab.specs.Slab.{with_value}
use Rattle.tcp_waiting.specs.Places.{numbers_of}
use Rattle.tcp_waiting.proofs.Numbered.{SlabReplaces, is_replaced}
use Rattle.tcp_waiting.proofs.places.Places.replace.Goals as goal

replaced : (c : goal.After-self-1) → SlabReplaces (numbers_of c.self.inside) c.self.inside.slots
    (with_value c.self.inside.slots c.slot_from_end-number.result c.args.waiting) c.args.place
    c.args.waiting
replaced c =
    let a = c.self.inside in
    let within = rw (← c.self.view_is, length-map) at c.requires in
    is_replaced (numbers_of a) a.slots c.args.place c.slot_from_end-number.result c.args.waiting
    c.self.invariant.tied within
    c.slot_from_end-number.ensures

pub invariant_of-self : goal.invariant_of-self
invariant_of-self c = record {
  tied = (replaced c).tied;
  order = c.self.invariant.order;
  slots = c.self.invariant.slots;
  small = c.self.invariant.small;
}

pub returns-clause-items : goal.returns-clause-items
returns-clause-items c = rw (← c.self.view_is) (replaced c).items
