use Rattle.std.proofs.Common.{refl, sym, ◌∙◌}
use Rattle.giop_stream.proofs.SlotSteps.Performing.{does_nothing, performs_on}
use Rattle.giop_stream.proofs.SlotSteps.AtRequestId.{opens_one, opens_lines, opener_placed}
use Rattle.giop_stream.proofs.dispatch.open_or_fault.Goals as goal

pub returns-in-Some-clause-does : goal.returns-in-Some-clause-does
returns-in-Some-clause-does g c =
    λ C l c' m h f. c.refuse_opening.ensures.does C l c' m h f
    (sym c.in-Some.is ∙ c.opening_fault.ensures.value C l c' _ h.keeps)

pub returns-in-None-clause-does : goal.returns-in-None-clause-does
returns-in-None-clause-does g c =
    λ C l c' m h f.
    let keeps = c.open_current.ensures.kept C l c' _ c.args.now.place h.keeps
    (h.not_open (opener_placed m.header f)) h.current.number h.current.header in
    rw (opens_one C l c.args.slots.now c' m c.args.now c.args.id h f
    (sym c.in-None.is ∙ c.opening_fault.ensures.value C l c' _ h.keeps))
    (performs_on _ _ _ (opens_lines C l c' m c.args.now.place c.args.id) (λ k. k)
    (does_nothing _ _ refl keeps))
