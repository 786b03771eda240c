use Rattle.std.proofs.Common.{[], arith, sym, ◌∙◌}
use Rattle.giop_stream.proofs.SlotSteps.Performing.{all_ok, no_faults, wrote_line, line_then, line_failed}
use Rattle.giop_stream.proofs.SlotSteps.AtHeader.{ready_later, starts_faults, apart, begins, refuses, refuses_calm, starts_text, starts_first}
use Rattle.giop_stream.proofs.dispatch.begin_message.Goals as goal

pub returns-in_err-start_line-clause-does : goal.returns-in_err-start_line-clause-does
returns-in_err-start_line-clause-does g c =
    λ l c' who m h. line_failed c.from_residual.result _ _ _
    (starts_first c.args.catalogue.now l c.args.slots.now c' who m c.args.now h)
    (starts_text c.args.catalogue.now l c.args.slots.now c' who m c.args.now h)
    c.from_residual.ensures.0 c.in_err-start_line.ensures

pub returns-in-Some-clause-does : goal.returns-in-Some-clause-does
returns-in-Some-clause-does g c =
    λ l c' who m h.
    let keeps =
    c.begin.ensures.kept l c' who _ h.keeps h.current.number h.current.header h.unknown
    (apart c.args.catalogue.now l c.args.slots.now c' who m c.args.now h) in
    rw (refuses c.args.catalogue.now l c.args.slots.now c' who m c.args.now h c.in-Some.fault
    (sym c.in-Some.is ∙ c.header_fault.ensures))
    (line_then c.fault_message.result _ _ _ _
    (starts_text c.args.catalogue.now l c.args.slots.now c' who m c.args.now h)
    (starts_faults m _) c.in_ok-start_line.ensures
    (c.fault_message.ensures.does c.args.catalogue.now l c' _ keeps h.current.number h.rising
    (refuses_calm c.args.catalogue.now l c.args.slots.now c' who m c.args.now h c.in-Some.fault
    (sym c.in-Some.is ∙ c.header_fault.ensures))))

pub returns-in-Some-clause-ready : goal.returns-in-Some-clause-ready
returns-in-Some-clause-ready g c =
    all_ok c.fault_message.result (c.fault_message.ensures.room.ready _ _
    (c.begin.ensures.ready _ (ready_later _ _ _ _ (omega arith) c.requires.ready)
    (omega (arith, c.args.now.after_header))))

pub returns-in-None-clause-does : goal.returns-in-None-clause-does
returns-in-None-clause-does g c =
    λ l c' who m h.
    let keeps =
    c.begin.ensures.kept l c' who _ h.keeps h.current.number h.current.header h.unknown
    (apart c.args.catalogue.now l c.args.slots.now c' who m c.args.now h) in
    rw (begins c.args.catalogue.now l c.args.slots.now c' who m c.args.now h
    (sym c.in-None.is ∙ c.header_fault.ensures))
    (wrote_line _ _ _ _ (starts_text c.args.catalogue.now l c.args.slots.now c' who m c.args.now h)
    (starts_faults m [] ∙ no_faults) c.in_ok-start_line.ensures keeps)

pub returns-in-None-clause-ready : goal.returns-in-None-clause-ready
returns-in-None-clause-ready g c =
    c.begin.ensures.ready _ (ready_later _ _ _ _ (omega arith) c.requires.ready)
    (omega (arith, c.args.now.after_header))
