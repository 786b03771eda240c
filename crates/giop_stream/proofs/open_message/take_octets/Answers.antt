use Rattle.std.proofs.Common.{◌≡◌, refl, ℕ, Bool, Some, length, take}
use Rattle.giop_message.specs.HeaderEnds.{AgreesAtEnds, after_ends}
use Rattle.giop_message.specs.DueOctets.{StaysUndue}
use Rattle.giop_stream.specs.DoesEffect.{count_one_if}
use Rattle.giop_stream.proofs.CodeSteps.OwnerRuns.{over_takes, failed_takes, on_takes, fault_takes, fault_told}
use Rattle.giop_stream.proofs.CodeSteps.HeaderEndSteps.{given_ends, none_ends}
use Rattle.giop_stream.proofs.open_message.take_octets.Goals as goal

pub returns-in_default-clause-does : goal.returns-in_default-clause-does
returns-in_default-clause-does g c = λ a w o k agrees.
    rw c.in_default.is (over_takes c.args.catalogue.now a w c.args.before c.args.octets.now o
    (rw c.in_default.is at k) (StaysUndue g.Q.Correspondent.due g.Q.Correspondent.notified
    c.args.catalogue.now _) _ (λ xs calm. calm))

pub returns-in_default-clause-told : goal.returns-in_default-clause-told
returns-in_default-clause-told g c = λ a w o k agrees.
    let st = g.Q.Correspondent.state c.args.correspondent.now in
    let octets = c.args.octets.now in
    none_ends (λ ends. st ≡ after_ends g.Q.Correspondent.notified c.args.catalogue.now st
    (ends (take (length octets) octets))) c.args.catalogue.now a w o (rw c.in_default.is at k) refl

pub returns-in_err-count-clause-does : goal.returns-in_err-count-clause-does
returns-in_err-count-clause-does g c = λ a w o k agrees.
    failed_takes c.args.catalogue.now a w c.args.before c.args.octets.now c.in-Some.m _ _
    (λ (r : ℕ × Bool). r.0) (λ (r : ℕ × Bool). count_one_if r.1) c.from_residual.result
    c.from_residual.ensures.0 (Some c.take.new.self)
    (StaysUndue g.Q.Correspondent.due g.Q.Correspondent.notified c.args.catalogue.now _) _ _ o
    (rw c.in-Some.is at k)
    (λ s e f. c.in_err-count.ensures.writes a s.phase w.number w.header s.octets f (rw e at agrees))

pub returns-then-not-is_over-clause-does : goal.returns-then-not-is_over-clause-does
returns-then-not-is_over-clause-does g c = λ a w o k agrees.
    on_takes c.args.catalogue.now a w c.args.before c.args.octets.now c.in-Some.m _ _
    c.take.new.self c.in_ok-count.count
    (StaysUndue g.Q.Correspondent.due g.Q.Correspondent.notified c.args.catalogue.now _) o
    (rw c.in-Some.is at k)
    (λ s e f. rw c.if-not-is_over.true at
    (c.in_ok-count.ensures.writes a s.phase w.number w.header s.octets f (rw e at agrees)))
    (λ s e f. rw c.if-not-is_over.true at
    (c.in_ok-count.ensures.took a s.phase w.number w.header s.octets f (rw e at agrees)))

pub returns-then-not-is_over-clause-told : goal.returns-then-not-is_over-clause-told
returns-then-not-is_over-clause-told g c = λ a w o k agrees.
    given_ends (λ ends. AgreesAtEnds g.Q.Correspondent.answer g.Q.Correspondent.notified
    c.args.catalogue.now (g.Q.Correspondent.state c.args.correspondent.now) a
    (ends c.args.octets.now) → g.Q.Correspondent.state c.take.new.correspondent
    ≡ after_ends g.Q.Correspondent.notified c.args.catalogue.now
    (g.Q.Correspondent.state c.args.correspondent.now)
    (ends (take c.in_ok-count.count c.args.octets.now)))
    c.args.catalogue.now a c.in-Some.m w o (rw c.in-Some.is at k)
    (λ s e f agrees. c.in_ok-count.ensures.told a s.phase w.number w.header s.octets f agrees)
    agrees

pub returns-clause-does : goal.returns-clause-does
returns-clause-does g c = λ a w o k agrees.
    rw c.forget.ensures
    (fault_takes c.args.catalogue.now a w c.args.before c.args.octets.now c.in-Some.m _ _
    g.Q.Correspondent.due g.Q.Correspondent.notified _ _ c.in_ok-count.count o
    (rw c.in-Some.is at k)
    (λ s e f. rw c.if-not-is_over.false at
    (c.in_ok-count.ensures.writes a s.phase w.number w.header s.octets f (rw e at agrees)))
    (λ s e f. rw c.if-not-is_over.false at
    (c.in_ok-count.ensures.took a s.phase w.number w.header s.octets f (rw e at agrees)))
    (λ s e f. c.in_ok-count.ensures.told a s.phase w.number w.header s.octets f (rw e at agrees))
    (λ calm. c.in_ok-count.ensures.over calm c.if-not-is_over.false))

pub returns-clause-told : goal.returns-clause-told
returns-clause-told g c = λ a w o k agrees.
    fault_told c.args.catalogue.now a w c.args.before c.args.octets.now c.in-Some.m
    (g.O.Out.log c.args.out.now) (g.O.Out.log c.args.out.now)
    g.Q.Correspondent.due g.Q.Correspondent.notified _ _ c.in_ok-count.count o
    (rw c.in-Some.is at k)
    (λ s e f. rw c.if-not-is_over.false at
    (c.in_ok-count.ensures.took a s.phase w.number w.header s.octets f (rw e at agrees)))
    (λ s e f. c.in_ok-count.ensures.told a s.phase w.number w.header s.octets f (rw e at agrees))
