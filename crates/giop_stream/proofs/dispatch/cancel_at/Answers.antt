use Rattle.std.proofs.Common.{refl, sym}
use Rattle.giop_message.specs.ReaderOfTable.{message_reader}
use Rattle.giop_stream.proofs.SlotSteps.Performing.{does_nothing}
use Rattle.giop_stream.proofs.SlotSteps.Cases.{cancel_spares}
use Rattle.giop_stream.proofs.SlotSteps.AtRequestId.{closes_one, header_may, cancel_placed}
use Rattle.giop_stream.proofs.dispatch.cancel_at.Goals as goal

pub returns-then-may_be_cancelled-clause-does : goal.returns-then-may_be_cancelled-clause-does
returns-then-may_be_cancelled-clause-does g c =
    λ C l c' m i o h b here.
    let may = header_may C l c.args.slots.now c' m c.args.now i h o _ c.args.index _ here
    c.open_at.ensures (sym c.if-may_be_cancelled.ensures) in
    rw (closes_one C l c.args.slots.now c' m c.args.now i h o may)
    (c.cancel.ensures.does C l c' _ o h.keeps (h.not_open (cancel_placed m.header b)) here h.rising)

pub returns-clause-does : goal.returns-clause-does
returns-clause-does g c =
    λ C l c' m i o h b here.
    let may = header_may C l c.args.slots.now c' m c.args.now i h o _ c.args.index _ here
    c.open_at.ensures (sym c.if-may_be_cancelled.ensures) in
    rw (cancel_spares (message_reader C l) c' m o may) (does_nothing _ _ refl h.keeps)
