use Rattle.std.proofs.Common.{[], refl, sym, ◌∙◌}
use Rattle.giop_stream.proofs.SlotSteps.Performing.{no_faults, wrote_line, line_then, line_failed}
use Rattle.giop_stream.proofs.SlotSteps.AtRequestId.{opener_slot}
use Rattle.giop_stream.proofs.SlotSteps.Continuing.{in_order, out_of_order, goes_text, goes_faults, goes_first, seam_here, seam_rising, orders}
use Rattle.giop_message.specs.ReaderOfTable.{message_reader}
use Rattle.giop_stream.specs.declared.fault.FramingFault.TheVariants.{FragmentOrder}
use Rattle.giop_stream.proofs.SlotSteps.OneSlotChanges.{calm_fault}
use Rattle.giop_stream.proofs.SlotSteps.Cases.{seam_effect}
use Rattle.giop_stream.proofs.SlotSteps.SlotLists.{room_then}
use Rattle.giop_stream.proofs.dispatch.continue_message.Goals as goal

pub returns-in_err-continues_line-clause-does : goal.returns-in_err-continues_line-clause-does
returns-in_err-continues_line-clause-does g c =
    λ C l c' owner m o h f e here.
    let number =
    sym (opener_slot C l c.args.slots.now c' owner h.keeps c.args.index o _ here
    c.open_at-opener.ensures).0
    in
    line_failed c.from_residual.result _ _ _
    (goes_first C l c.args.slots.now c' owner m c.args.now h o f e)
    (goes_text C l c.args.slots.now c' owner m c.args.now h o _ number) c.from_residual.ensures.0
    c.in_err-continues_line.ensures

pub returns-then-same_order-clause-does : goal.returns-then-same_order-clause-does
returns-then-same_order-clause-does g c =
    λ C l c' owner m o h f e here.
    let number =
    sym (opener_slot C l c.args.slots.now c' owner h.keeps c.args.index o _ here
    c.open_at-opener.ensures).0
    in
    let header =
    (opener_slot C l c.args.slots.now c' owner h.keeps c.args.index o _ here
    c.open_at-opener.ensures).1
    in
    let order = orders C l c.args.slots.now c' owner m c.args.now h o _ _ _ _ c.order_of.ensures
    c.order_of-order.ensures header (sym c.if-same_order.ensures) in
    rw (in_order C l c.args.slots.now c' owner m c.args.now h o f e order)
    (wrote_line _ _ _ _ (goes_text C l c.args.slots.now c' owner m c.args.now h o _ number)
    (goes_faults m o [] ∙ no_faults) c.in_ok-continues_line.ensures
    (rw (seam_here C l c.args.slots.now c' owner m c.args.now h o) at
    (c.note_seam.ensures.kept C l c' c.args.index o (c.set_open_owner.ensures.kept C l c' _ o
    h.keeps
    here) here h.rising)))

pub returns-clause-does : goal.returns-clause-does
returns-clause-does g c =
    λ C l c' owner m o h f e here.
    let number =
    sym (opener_slot C l c.args.slots.now c' owner h.keeps c.args.index o _ here
    c.open_at-opener.ensures).0
    in
    let header =
    (opener_slot C l c.args.slots.now c' owner h.keeps c.args.index o _ here
    c.open_at-opener.ensures).1
    in
    let order = orders C l c.args.slots.now c' owner m c.args.now h o _ _ _ _ c.order_of.ensures
    c.order_of-order.ensures header (sym c.if-same_order.ensures) in
    let passed = rw (seam_here C l c.args.slots.now c' owner m c.args.now h o) at
    (c.note_seam.ensures.kept C l c' c.args.index o (c.set_open_owner.ensures.kept C l c' _ o
    h.keeps
    here) here h.rising) in
    let seamed = (seam_effect (message_reader C l) c' m o).tracked in
    rw (out_of_order C l c.args.slots.now c' owner m c.args.now h o f e order)
    (line_then c.fault_message.result _ _ _ _
    (goes_text C l c.args.slots.now c' owner m c.args.now h o _ number)
    (goes_faults m o _) c.in_ok-continues_line.ensures
    (c.fault_message.ensures.does C l seamed _ passed number
    (seam_rising C l c.args.slots.now c' owner m c.args.now h o)
    (calm_fault seamed c.args.now.place o.opener FragmentOrder refl)))

pub returns-clause-room : goal.returns-clause-room
returns-clause-room g c =
    room_then (room_then c.set_open_owner.ensures.room c.note_seam.ensures.room)
    c.fault_message.ensures.room

pub returns-then-same_order-clause-room : goal.returns-then-same_order-clause-room
returns-then-same_order-clause-room g c =
    room_then c.set_open_owner.ensures.room c.note_seam.ensures.room
