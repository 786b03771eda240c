use Rattle.std.proofs.Common.{refl, sym, ◌∙◌}
use Rattle.std.proofs.lemmas.Bool.{eq-eqb, ne_eqb}
use Rattle.giop_stream.proofs.SlotSteps.Performing.{does_nothing}
use Rattle.giop_stream.proofs.SlotSteps.AfterOctet.{end_here, no_end, last_here, after_here, after_still}
use Rattle.giop_stream.proofs.dispatch.at_last_octet.Goals as goal

pub returns-then-now-size_of-clause-does : goal.returns-then-now-size_of-clause-does
returns-then-now-size_of-clause-does g c =
    λ l c' m h payload_count.
    let here = eq-eqb _ _ (c.if-now-size_of.true ∙ c.size_of.ensures) in
    rw (
      end_here c.args.catalogue.now l c.args.slots.now c' m c.args.now h payload_count here,
      after_here c.args.catalogue.now l c.args.slots.now c' m c.args.now h payload_count here,
    )
    (c.at_message_end.ensures.does l c' m h (last_here c.args.catalogue.now l c.args.slots.now c' m
    c.args.now
    h payload_count here))

pub returns-then-now-size_of-clause-ready : goal.returns-then-now-size_of-clause-ready
returns-then-now-size_of-clause-ready g c = c.at_message_end.ensures.room.ready _ _ c.requires.ready

pub returns-clause-does : goal.returns-clause-does
returns-clause-does g c =
    λ l c' m h payload_count.
    let other = ne_eqb _ _ (λ e. c.if-now-size_of.false (e ∙ sym c.size_of.ensures)) in
    rw (
      no_end c.args.catalogue.now l c.args.slots.now c' m c.args.now h payload_count other,
      after_still c.args.catalogue.now l c.args.slots.now c' m c.args.now h payload_count other,
    ) (does_nothing _ _ refl h.keeps)
