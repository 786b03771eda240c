use Rattle.std.proofs.Common.{◌≡◌, true, false, nat_lt, ◌&&◌, is_some, not, refl, sym, ◌∙◌}
use Rattle.std.proofs.lemmas.Bool.{lt-ltb, le-ltb, and_left, and_right, not_from_true}
use Rattle.tcp_waiting.specs.Numbers.{age}
use Rattle.tcp_waiting.specs.Payload.{window}
use Rattle.tcp_flow.specs.Flow.{without_old_octets}
use Rattle.tcp_flow.proofs.Lefts.{cut}
use Rattle.tcp_flow.proofs.flow.FlowState.without_old_octets.Goals as goal
use Rattle.tcp_flow.proofs.flow.FlowState.without_old_octets.Goals.{else-age-gt-WINDOW-via-then-age-gt-WINDOW+else-not-is_in_step, else-age-gt-WINDOW-via-else-age-gt-WINDOW}

pub returns-then-not-is_in_step-clause-left : goal.returns-then-not-is_in_step-clause-left
unfolding without_old_octets
returns-then-not-is_in_step-clause-left c arrival =
    let e : nat_lt window (age c.args.self.now.next c.args.number) ≡ true =
    rw (← c.age-age.ensures) (lt-ltb 1048576 c.age-age.result c.if-age-gt-WINDOW.true) in
    rw (e, sym c.is_in_step.ensures ∙ c.if-not-is_in_step.true) refl

pub returns-clause-left : goal.returns-clause-left
unfolding without_old_octets
returns-clause-left c arrival =
    let e : (nat_lt window (age c.args.self.now.next c.args.number)
    && not (is_some c.args.self.now.live)) ≡ false =
    elim c.else-age-gt-WINDOW.branch [
      | else-age-gt-WINDOW-via-then-age-gt-WINDOW+else-not-is_in_step w ↦
          and_right (nat_lt window (age c.args.self.now.next c.args.number))
          (not (is_some c.args.self.now.live))
          (not_from_true (is_some c.args.self.now.live)
          (sym w.is_in_step.ensures ∙ w.if-not-is_in_step.false))
      | else-age-gt-WINDOW-via-else-age-gt-WINDOW w ↦
          and_left (nat_lt window (age c.args.self.now.next c.args.number))
          (not (is_some c.args.self.now.live))
          (rw (← c.age-age.ensures) (le-ltb 1048576 c.age-age.result w.if-age-gt-WINDOW.false))
    ] in
    rw (
      e,
      cut c.age-age.result c.min-old.result c.args.octets.now c.min-old.ensures,
      c.onward.ensures,
      c.age-age.ensures,
    ) refl
