use Rattle.std.proofs.Common.{refl}
use Rattle.giop_stream.proofs.SlotSteps.Performing.{does_nothing, wrote_line, line_failed}
use Rattle.giop_stream.proofs.SlotSteps.ReadingEffects.{over_part, faulted_part, faulted_text, faulted_one, no_message}
use Rattle.giop_stream.proofs.open_message.fault_message.Goals as goal

pub returns-then-is_none-clause-does : goal.returns-then-is_none-clause-does
returns-then-is_none-clause-does g c =
    λ C l w o k n.
    let none = no_message c.args.message.now
    c.if-is_none.ensures in
    rw (over_part C l w o _ (rw none at k), none) (does_nothing _ _ refl tt)

pub returns-in_err-framing_fault_line-clause-does :
    goal.returns-in_err-framing_fault_line-clause-does
returns-in_err-framing_fault_line-clause-does g c =
    λ C l w o k n.
    let part = faulted_part C l c.args.message.now w o c.args.place c.args.fault
    c.if-is_none.ensures k in
    rw part (line_failed c.from_residual.result _ _ _ (record { more = _; is = refl })
    (faulted_text c.args.place c.args.number c.args.fault w n) c.from_residual.ensures.0
    c.in_err-framing_fault_line.ensures)

pub returns-clause-does : goal.returns-clause-does
returns-clause-does g c =
    λ C l w o k n.
    let part = faulted_part C l c.args.message.now w o c.args.place c.args.fault
    c.if-is_none.ensures k in
    rw (c.forget.ensures, part) (wrote_line _ _ _ _
    (faulted_text c.args.place c.args.number c.args.fault w n)
    (faulted_one c.args.place w.number c.args.fault) c.in_ok-framing_fault_line.ensures tt)
