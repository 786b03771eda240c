use Rattle.std.proofs.Common.{sym, ◌∙◌}
use Rattle.giop_message.specs.Signatures.{signatures_of}
use Rattle.giop_message.proofs.MessageLaws.{is_causal, is_ending}
use Rattle.giop_stream.specs.Rules.{rules_by}
use Rattle.giop_stream.proofs.SlotSteps.Parts.{in_turn}
use Rattle.giop_stream.proofs.CodeSteps.EngineLaws.{final_is, finish_is}
use Rattle.giop_stream.proofs.engine.Engine.close.Goals as goal

pub returns-in-Ok-clause-text : goal.returns-in-Ok-clause-text
returns-in-Ok-clause-text g c = λ a p h.
    let k = rw (← c.self.view_is) at h in
    let C = c.self.inside.catalogue.now in
    rw (
      ← c.self.view_is,
      finish_is (rules_by C a c.self.inside.framing.slots.slots.most)
          (is_causal (λ phase number. signatures_of C (a number) phase)) (in_turn C a)
          (is_ending (λ phase number. signatures_of C (a number) phase)) p,
    ) (c.in-Ok.ensures _ _ _ k.shows)

pub returns-in-Ok-clause-totals : goal.returns-in-Ok-clause-totals
returns-in-Ok-clause-totals g c = λ a p h.
    let k = rw (← c.self.view_is) at h in
    let C = c.self.inside.catalogue.now in
    rw (← c.self.view_is) (c.final_totals.ensures.value _ _ _ k.shows
    ∙ sym (final_is (rules_by C a c.self.inside.framing.slots.slots.most)
    (is_causal (λ phase number. signatures_of C (a number) phase)) (in_turn C a) p))

pub returns-in-Err-clause-text : goal.returns-in-Err-clause-text
returns-in-Err-clause-text g c = λ a p h.
    let k = rw (← c.self.view_is) at h in
    let C = c.self.inside.catalogue.now in
    rw (
      ← c.self.view_is,
      finish_is (rules_by C a c.self.inside.framing.slots.slots.most)
          (is_causal (λ phase number. signatures_of C (a number) phase)) (in_turn C a)
          (is_ending (λ phase number. signatures_of C (a number) phase)) p,
    ) (c.in-Err.ensures _ _ _ k.shows)
