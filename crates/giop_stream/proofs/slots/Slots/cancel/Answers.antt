use Rattle.std.proofs.Common.{Some, refl, sym}
use Rattle.std.proofs.lemmas.Bool.{false≢true}
use Rattle.giop_stream.proofs.SlotSteps.ReadingEffects.{cancel_says, cancelled_text, cancelled_none, no_lines, no_message}
use Rattle.giop_stream.proofs.SlotSteps.EventsOnSlots.{open_slot, open_there, cancel_keeps}
use Rattle.giop_stream.proofs.SlotSteps.Performing.{does_nothing, performs_on, writes_line}
use Rattle.giop_stream.proofs.slots.Slots.cancel.Goals as goal

pub returns-then-is_none-clause-does : goal.returns-then-is_none-clause-does
returns-then-is_none-clause-does g c =
    λ C l c' w o h free here rising.
    let was = open_slot C l c.args.self.now c.in-Some.entry c' (Some w) c.args.index o h here
    (sym c.in-Some.ensures.value) in
    let over = no_lines C l o.opener _ _ (rw (no_message c.in-Some.entry.value.message
    c.if-is_none.ensures) at was.message) in
    let keeps = cancel_keeps C l c.args.self.now c.take.new.self c' w c.args.index o c.args.place
    c.args.by h free here rising c.in-Some.ensures.entries in
    performs_on _ _ _ over (λ k. k) (does_nothing _ _ refl keeps)

pub returns-else-is_none-clause-does : goal.returns-else-is_none-clause-does
returns-else-is_none-clause-does g c =
    λ C l c' w o h free here rising.
    let was = open_slot C l c.args.self.now c.in-Some.entry c' (Some w) c.args.index o h here
    (sym c.in-Some.ensures.value) in
    let says = cancel_says C l c.in-Some.entry.value.message o.opener _ c.args.place c.args.by
    c.if-is_none.ensures was.message in
    let keeps = cancel_keeps C l c.args.self.now c.take.new.self c' w c.args.index o c.args.place
    c.args.by h free here rising c.in-Some.ensures.entries in
    performs_on _ _ _ says (λ k. k)
    (writes_line c.cancelled_line.result _ _ _
    (cancelled_text c.args.place _ c.args.by o.opener (sym was.number))
    (λ x. cancelled_none c.args.place o.opener.number c.args.by) c.cancelled_line.ensures keeps)

pub returns-in-None-clause-does : goal.returns-in-None-clause-does
returns-in-None-clause-does g c =
    λ C l c' w o h free here rising. open_there C l c.args.self.now c' (Some w) c.args.index o
    (λ l. false≢true (c.in-None.ensures.variant.1 l)) h here
