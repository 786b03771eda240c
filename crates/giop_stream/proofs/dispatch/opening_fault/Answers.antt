use Rattle.std.proofs.Common.{true, false, sym}
use Rattle.giop_stream.proofs.SlotSteps.AtRequestId.{refuses_doubtful, refuses_taken, full_if}
use Rattle.giop_stream.proofs.dispatch.opening_fault.Goals as goal

pub returns-then-is_owner_unknown-clause-value : goal.returns-then-is_owner_unknown-clause-value
returns-then-is_owner_unknown-clause-value c =
    λ C l c' who h. refuses_doubtful C l c.args.slots.now c' who h c.args.id
    (sym c.if-is_owner_unknown.ensures)

pub returns-then-is_some-clause-value : goal.returns-then-is_some-clause-value
returns-then-is_some-clause-value c =
    λ C l c' who h. rw c.already_open_fault.ensures (refuses_taken C l c.args.slots.now c' who h
    c.args.id
    c.find_under.result c.find_under.ensures.value (sym c.if-is_some.ensures))

pub returns-then-is_full-clause-value : goal.returns-then-is_full-clause-value
returns-then-is_full-clause-value c =
    λ C l c' who h. full_if C l c.args.slots.now c' who h c.args.id c.find_under.result
    c.find_under.ensures.value (sym c.if-is_some.ensures) (sym c.if-is_owner_unknown.ensures) true
    c.if-is_full.ensures

pub returns-clause-value : goal.returns-clause-value
returns-clause-value c =
    λ C l c' who h. full_if C l c.args.slots.now c' who h c.args.id c.find_under.result
    c.find_under.ensures.value (sym c.if-is_some.ensures) (sym c.if-is_owner_unknown.ensures) false
    c.if-is_full.ensures
