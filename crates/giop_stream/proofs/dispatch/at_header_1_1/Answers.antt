use Rattle.std.proofs.Common.{refl}
use Rattle.giop_stream.proofs.SlotSteps.Performing.{does_nothing}
use Rattle.giop_stream.proofs.SlotSteps.AtHeader.{nothing_named, owner_new, opener_first, fragment_first, opener_old, fragment_old, at_place, named_here, owner_opener, owner_fragment}
use Rattle.giop_stream.proofs.dispatch.at_header_1_1.Goals as goal

pub returns-then-is_opener_1_1-clause-does : goal.returns-then-is_opener_1_1-clause-does
returns-then-is_opener_1_1-clause-does g c =
    λ C l c' m h.
    let o = c.if-is_opener_1_1.ensures in
    let old = opener_old C l c.args.slots.now c' m c.args.now h o in
    rw (
      named_here C l c.args.slots.now c' m c.args.now h old,
      owner_opener C l c.args.slots.now c' m c.args.now h o,
    ) (c.open_or_fault.ensures.does C l c' m (at_place C l c.args.slots.now c' m c.args.now h old)
    (opener_first C l c.args.slots.now c' m c.args.now h o))

pub returns-then-is_fragment_1_1-clause-does : goal.returns-then-is_fragment_1_1-clause-does
returns-then-is_fragment_1_1-clause-does g c =
    λ C l c' m h.
    let f = c.if-is_fragment_1_1.ensures in
    let old = fragment_old C l c.args.slots.now c' m c.args.now h f in
    rw (
      named_here C l c.args.slots.now c' m c.args.now h old,
      owner_fragment C l c.args.slots.now c' m c.args.now h f,
    ) (c.join_fragment.ensures.does C l c' m (at_place C l c.args.slots.now c' m c.args.now h old)
    (fragment_first C l c.args.slots.now c' m c.args.now h f))

pub returns-clause-does : goal.returns-clause-does
returns-clause-does g c =
    λ C l c' m h.
    let o = c.if-is_opener_1_1.ensures in
    let f = c.if-is_fragment_1_1.ensures in
    rw (
      nothing_named C l c.args.slots.now c' m c.args.now h o f,
      owner_new C l c.args.slots.now c' m c.args.now h o f,
    ) (does_nothing _ _ refl h.keeps)
