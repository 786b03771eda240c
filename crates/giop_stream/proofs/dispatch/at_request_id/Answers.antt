use Rattle.std.proofs.Common.{Some, false, true, refl, sym}
use Rattle.giop_message.specs.Headers.{is_cancel_request}
use Rattle.giop_stream.specs.PayloadOwner.{before_with}
use Rattle.giop_stream.proofs.SlotSteps.Performing.{does_nothing, call_failed, counts_as}
use Rattle.giop_stream.proofs.SlotSteps.AtRequestId.{owner_fragment, owner_other, header_is, fragment_here, opener_here, no_name}
use Rattle.giop_stream.proofs.dispatch.at_request_id.Goals as goal

pub returns-then-is_fragment_1_2-clause-does : goal.returns-then-is_fragment_1_2-clause-does
returns-then-is_fragment_1_2-clause-does g c =
    λ C l c' m h.
    let f = fragment_here C l c.args.slots.now c' m c.args.now c.args.id h true
    (sym c.if-is_fragment_1_2.ensures) in
    rw (owner_fragment (before_with C l c') m f) (c.join_fragment.ensures.does C l c' m h f)

pub returns-then-is_opener_1_2-clause-does : goal.returns-then-is_opener_1_2-clause-does
returns-then-is_opener_1_2-clause-does g c =
    λ C l c' m h.
    let f = fragment_here C l c.args.slots.now c' m c.args.now c.args.id h false
    (sym c.if-is_fragment_1_2.ensures) in
    let o = opener_here C l c.args.slots.now c' m c.args.now c.args.id h true
    (sym c.if-is_opener_1_2.ensures) in
    rw (owner_other (before_with C l c') m f) (c.open_or_fault.ensures.does C l c' m h o)

pub returns-then-not-is_cancel_request-clause-does :
    goal.returns-then-not-is_cancel_request-clause-does
returns-then-not-is_cancel_request-clause-does g c =
    λ C l c' m h.
    let f = fragment_here C l c.args.slots.now c' m c.args.now c.args.id h false
    (sym c.if-is_fragment_1_2.ensures) in
    rw (
      owner_other (before_with C l c') m f,
      no_name C l c.args.slots.now c' m c.args.now c.args.id h (sym c.if-is_fragment_1_2.ensures)
          (sym c.if-is_opener_1_2.ensures) (sym c.if-not-is_cancel_request.ensures),
    ) (does_nothing _ _ refl h.keeps)

pub returns-in_err-cancel_message-clause-does : goal.returns-in_err-cancel_message-clause-does
returns-in_err-cancel_message-clause-does g c =
    λ C l c' m h.
    let f = fragment_here C l c.args.slots.now c' m c.args.now c.args.id h false
    (sym c.if-is_fragment_1_2.ensures) in
    let o = opener_here C l c.args.slots.now c' m c.args.now c.args.id h false
    (sym c.if-is_opener_1_2.ensures) in
    let b = header_is C l c.args.slots.now c' m c.args.now (Some c.args.id) h is_cancel_request true
    (sym c.if-not-is_cancel_request.ensures) in
    call_failed _ c.from_residual.result _ _ c.from_residual.ensures.0
    (c.in_err-cancel_message.ensures.does C l c' m h f o b)

pub returns-clause-does : goal.returns-clause-does
returns-clause-does g c =
    λ C l c' m h.
    let f = fragment_here C l c.args.slots.now c' m c.args.now c.args.id h false
    (sym c.if-is_fragment_1_2.ensures) in
    let o = opener_here C l c.args.slots.now c' m c.args.now c.args.id h false
    (sym c.if-is_opener_1_2.ensures) in
    let b = header_is C l c.args.slots.now c' m c.args.now (Some c.args.id) h is_cancel_request true
    (sym c.if-not-is_cancel_request.ensures) in
    rw (owner_other (before_with C l c') m f) (counts_as _ _ _ _ refl
    (c.in_ok-cancel_message.ensures.does C l c' m h f o b))
