use Rattle.std.proofs.Common.{◌≡◌, ◌-◌, true, false, refl, sym, ◌∙◌, subst}
use Rattle.tcp_waiting.specs.Payload.{holds_beyond_window}
use Rattle.tcp_flow.specs.Flow.{Flow, within_window, with_gap}
use Rattle.tcp_flow.specs.State.{state, IsState}
use Rattle.tcp_flow.proofs.Steps.{window_stops, window_goes, window_none}
use Rattle.tcp_flow.proofs.States.{by_state}
use Rattle.tcp_flow.proofs.flow.FlowState.keep_within_window.Goals as goal

pub loop-left-init : goal.loop-left-init
loop-left-init g c = ((λ f h. (f, (h, refl))), refl, refl)

pub returns-then-not-holds_beyond_window-clause-does :
    goal.returns-then-not-holds_beyond_window-clause-does
returns-then-not-holds_beyond_window-clause-does g c f h =
    let F = g.T.Listener.reader in
    let s = c.loop-left.self in
    let held = c.loop-left.pool.held in
    let G = IsState (g.T.Listener.observed c.loop-left.to) s held in
    let i = c.loop-left.invariant.0 f h in
    by_state (λ d. within_window F c.loop-left.left d ≡ within_window F c.args.count f →
    G (within_window F c.args.count f)) _ s held i.0 i.1.0 (λ events o e.
    let few : holds_beyond_window s.id s.next held ≡ false =
    sym c.holds_beyond_window.ensures ∙ c.if-not-holds_beyond_window.true in
    subst G (sym (window_stops F c.loop-left.left (state s held events) few) ∙ e)
    (record { observed = o; same = refl })) i.1.1

pub loop-left-preserved : goal.loop-left-preserved
loop-left-preserved g c =
    let F = g.T.Listener.reader in
    let s = c.loop-left.self in
    let held = c.loop-left.pool.held in (
      (λ f h.
          let i = c.loop-left.invariant.0 f h in
          by_state (λ d. within_window F c.loop-left.left d ≡ within_window F c.args.count f →
          (n : Flow) × (IsState (g.T.Listener.observed c.make_gap.new.to) c.make_gap.new.self
          c.make_gap.new.pool.held n × (within_window F (c.loop-left.left - 1) n
          ≡ within_window F c.args.count f))) _ s held i.0 i.1.0 (λ events o e.
          let much : holds_beyond_window s.id s.next held ≡ true =
          sym c.holds_beyond_window.ensures ∙ c.if-not-holds_beyond_window.false in (
            with_gap F (state s held events),
            (
              c.in_ok-make_gap.ensures.does (state s held events)
                  (record { observed = o; same = refl }),
              sym (window_goes F c.loop-left.left (state s held events) c.loop-left-test.true
                  much) ∙ e,
            ),
          )) i.1.1),
      c.make_gap.ensures.id ∙ c.loop-left.invariant.1,
      c.make_gap.ensures.blocks ∙ c.loop-left.invariant.2,
    )

pub returns-clause-does : goal.returns-clause-does
returns-clause-does g c f h =
    let F = g.T.Listener.reader in
    let i = c.loop-left.invariant.0 f h in
    subst (IsState (g.T.Listener.observed c.loop-left.to) c.loop-left.self c.loop-left.pool.held)
    (sym (window_none F c.loop-left.left i.0 c.loop-left-test.false) ∙ i.1.1) i.1.0
