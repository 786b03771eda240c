use Rattle.std.proofs.Common.{◌≡◌, ◌<◌}
use Rattle.std.proofs.lemmas.Result.{MatchResult-from_err}
use Rattle.giop_conversation.proofs.FailingBelow.{counted_more}
use Rattle.std.proofs.Common.{refl, ℕ, Result, Ok, Err, Bool, subst, sym}
use Rattle.giop_conversation.specs.DumpHeld.{HasFinished}
use Rattle.giop_conversation.proofs.WrittenLemmas.{finished, still_sound}
use Rattle.giop_conversation.proofs.conversations.Conversations.finish.Goals as goal

pub returns-in_err-capture_total_line-clause-fails :
    goal.returns-in_err-capture_total_line-clause-fails
returns-in_err-capture_total_line-clause-fails g c =
    MatchResult-from_err c.from_residual.result (λ _. c.capture_total_line.new.out.failures ≡ 0)
    (λ _. 0 < c.capture_total_line.new.out.failures)
    c.from_residual.ensures.0 (λ _. rw c.in_err-capture_total_line.ensures.failures
    (counted_more c.set_tag.new.self.failures))

pub returns-in_err-capture_total_line-clause-told :
    goal.returns-in_err-capture_total_line-clause-told
returns-in_err-capture_total_line-clause-told g c = λ S written events told.
    let now = c.args.self.now in
    let slots = now.slots in
    let t = now.totals in
    let failed : Result ℕ ℕ = Err 0 in
    MatchResult-from_err c.from_residual.result _ _ c.from_residual.ensures.0 (λ _.
    finished S written events slots.items now.out now.arrival now.first t
    now.cut
    failed c.args.packets c.args.octets
    c.no_tag.result c.set_tag.new.self c.capture_total_line.new.out told c.set_tag.ensures
    c.no_tag.ensures
    c.in_err-capture_total_line.ensures)

pub returns-clause-told : goal.returns-clause-told
returns-clause-told g c = λ S written events told.
    let now = c.args.self.now in
    let slots = now.slots in
    let t = now.totals in
    let done : Result ℕ ℕ = Ok 0 in
    subst (λ (b : Bool). HasFinished S written events c.args.packets c.args.octets
    c.capture_total_line.new.out b) (sym c.is_faulted.ensures)
    (finished S written events slots.items now.out now.arrival now.first t
    now.cut
    done c.args.packets c.args.octets
    c.no_tag.result c.set_tag.new.self c.capture_total_line.new.out told c.set_tag.ensures
    c.no_tag.ensures
    c.in_ok-capture_total_line.ensures)

pub returns-then-has_failed-clause-told : goal.returns-then-has_failed-clause-told
returns-then-has_failed-clause-told g c = λ S written events told.
    absurd (still_sound c.args.self.now.out.failures told.holds.ready.sound
    (c.if-has_failed.ensures.0 refl))
