use Rattle.std.proofs.Common.{is_some, None, sym, ◌∙◌}
use Rattle.std.proofs.lemmas.Bool.{cond-true, cond-false}
use Rattle.tcp_flow.specs.Flow.{without_stale_fin}
use Rattle.tcp_flow.specs.State.{state}
use Rattle.tcp_flow.proofs.flow.FlowState.drop_stale_fin.Goals as goal

pub returns-then-not-is_in_step-clause-does : goal.returns-then-not-is_in_step-clause-does
unfolding without_stale_fin
returns-then-not-is_in_step-clause-does c =
    λ held events. sym (cond-false (is_some c.args.self.now.live)
    (state c.args.self.now held events) (record (state c.args.self.now held events) {
      fin =
          None;
    }) (sym c.is_in_step.ensures ∙ c.if-not-is_in_step.true))

pub returns-else-not-is_in_step-clause-does : goal.returns-else-not-is_in_step-clause-does
unfolding without_stale_fin
returns-else-not-is_in_step-clause-does c =
    λ held events. sym (cond-true (is_some c.args.self.now.live) (state c.args.self.now held events)
    (record (state c.args.self.now held events) { fin = None })
    (sym c.is_in_step.ensures ∙ c.if-not-is_in_step.false))
