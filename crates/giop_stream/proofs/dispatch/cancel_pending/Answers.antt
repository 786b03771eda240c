use Rattle.std.proofs.Common.{Some, refl, sym, ◌∙◌}
use Rattle.giop_message.specs.ReaderOfTable.{message_reader}
use Rattle.giop_stream.proofs.SlotSteps.Performing.{does_nothing}
use Rattle.giop_stream.proofs.SlotSteps.Cases.{effects_none}
use Rattle.giop_stream.proofs.SlotSteps.AtRequestId.{cancels_none, pending_at}
use Rattle.giop_stream.proofs.dispatch.cancel_pending.Goals as goal

pub returns-in_default-clause-does : goal.returns-in_default-clause-does
returns-in_default-clause-does g c =
    λ C l c' m h f o b none.
    rw (cancels_none C l c.args.slots.now c' m c.args.now (Some c.args.id) h f o b none
    (sym c.find_1_1.ensures.value ∙ c.in_default.is)) (does_nothing _ _ refl h.keeps)

pub returns-then-has_given_id-clause-does : goal.returns-then-has_given_id-clause-does
returns-then-has_given_id-clause-does g c =
    λ C l c' m h f o b none.
    let p = pending_at C l c.args.slots.now c' m c.args.now (Some c.args.id) h f o b c.in-Some.k
    (sym c.find_1_1.ensures.value ∙ c.in-Some.is) none in
    rw (p.2, ← c.if-has_given_id.ensures C l c' _ p.0 h.keeps p.1)
    (c.cancel_at.ensures.does C l c' m (Some c.args.id) p.0 h b p.1)

pub returns-clause-does : goal.returns-clause-does
returns-clause-does g c =
    λ C l c' m h f o b none.
    let p = pending_at C l c.args.slots.now c' m c.args.now (Some c.args.id) h f o b c.in-Some.k
    (sym c.find_1_1.ensures.value ∙ c.in-Some.is) none in
    rw (
      p.2,
      ← c.if-has_given_id.ensures C l c' _ p.0 h.keeps p.1,
      effects_none (message_reader C l) c',
    )
    (does_nothing _ _ refl h.keeps)
