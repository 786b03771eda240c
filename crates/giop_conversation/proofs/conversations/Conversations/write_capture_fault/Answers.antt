use Rattle.std.proofs.Common.{ap, ◌∙◌}
use Rattle.giop_conversation.specs.Lines.{capture_fault_line}
use Rattle.giop_conversation.specs.TaggedState.{Tagging}
use Rattle.giop_conversation.proofs.FailingLemmas.{once, none_failed, by_writes}
use Rattle.std.proofs.Common.{refl}
use Rattle.giop_conversation.proofs.WrittenLemmas.{fault_told, still_sound}
use Rattle.giop_conversation.proofs.conversations.Conversations.write_capture_fault.Goals as goal

pub returns-clause-fails : goal.returns-clause-fails
returns-clause-fails g c =
    let r = c.capture_fault_line.result in
    once r c.set_tag.new.self c.capture_fault_line.new.out
    (ap (λ (t : Tagging). t.failures) c.set_tag.ensures
    ∙ none_failed c.args.self.now.out.failures c.if-has_failed.ensures.1)
    (by_writes r c.set_tag.new.self c.capture_fault_line.new.out
    (capture_fault_line c.args.word.now c.args.at) c.capture_fault_line.ensures)

pub returns-clause-told : goal.returns-clause-told
returns-clause-told g c = λ S written events told.
    let now = c.args.self.now in
    let slots = now.slots in
    let t = now.totals in
    fault_told S written events slots.items now.out now.arrival now.first t
    now.cut c.capture_fault_line.result
    c.args.word.now c.args.at c.no_tag.result c.set_tag.new.self c.capture_fault_line.new.out
    told c.set_tag.ensures c.no_tag.ensures
    c.capture_fault_line.ensures

pub returns-then-has_failed-clause-told : goal.returns-then-has_failed-clause-told
returns-then-has_failed-clause-told g c = λ S written events told.
    absurd (still_sound c.args.self.now.out.failures told.holds.ready.sound
    (c.if-has_failed.ensures.0 refl))
