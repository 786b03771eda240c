use Rattle.std.proofs.Common.{reverse, IsSome, arith}
use Rattle.std.proofs.lemmas.List.{length-map}
use Rattle.slab.specs.Slab.{get}
use Rattle.tcp_waiting.specs.Places.{numbers_of}
use Rattle.tcp_waiting.proofs.Held.{all_at}
use Rattle.tcp_waiting.proofs.Numbered.{SlabRemoves, is_taken, some_so}
use Rattle.tcp_waiting.proofs.places.Places.remove.Goals as goal

taken : (c : goal.After-try_remove) → SlabRemoves (numbers_of c.self.inside)
    (reverse c.remove_from_end-number.new.order.items) c.self.inside.slots c.try_remove.new.self
    c.args.place
taken c =
    let a = c.self.inside in
    let within = rw (← c.self.view_is, length-map) at c.requires in
    let number = c.remove_from_end-number.ensures.slot in
    let there : IsSome c.try_remove.result =
    rw (c.try_remove.ensures.value, number)
    (all_at (λ n. IsSome (get a.slots n)) (numbers_of a) c.args.place 0
    c.self.invariant.tied.held within) in
    is_taken (numbers_of a) (reverse c.remove_from_end-number.new.order.items) a.slots
    c.try_remove.new.self c.args.place
    c.self.invariant.tied within c.remove_from_end-number.ensures.items
    (rw number at c.try_remove.ensures.updates)
    (some_so c.try_remove.result _ there c.try_remove.ensures.len)

pub invariant_of-self : goal.invariant_of-self
invariant_of-self c = record {
  tied = (taken c).tied;
  order = omega arith;
  slots = omega arith;
  small = omega arith;
}

pub returns-clause-items : goal.returns-clause-items
returns-clause-items c = rw (← c.self.view_is) (taken c).items
