use Rattle.std.proofs.Common.{◌≡◌, ◌-◌, ℕ, length, refl, sym, ◌∙◌, ap, subst}
use Rattle.tcp_flow.specs.Flow.{Flow, heard, with_gap}
use Rattle.tcp_flow.specs.State.{state, IsState}
use Rattle.tcp_flow.proofs.Steps.{heard_stops, heard_goes, heard_none}
use Rattle.tcp_flow.proofs.States.{by_state}
use Rattle.tcp_flow.proofs.flow.FlowState.give_up.Goals as goal

pub loop-left-init : goal.loop-left-init
loop-left-init g c = (
  (λ f h. (
    f,
    (
      h,
      ap (λ (k : ℕ).
          heard g.T.Listener.reader k c.args.packet f) refl,
    ),
  )),
  refl,
  refl,
)

pub returns-then-not-is_lost-clause-does : goal.returns-then-not-is_lost-clause-does
returns-then-not-is_lost-clause-does g c f h =
    let F = g.T.Listener.reader in
    let s = c.loop-left.self in
    let held = c.loop-left.pool.held in
    let G = IsState (g.T.Listener.observed c.loop-left.to) s held in
    let i = c.loop-left.invariant.0 f h in
    let all = ap (λ (k : ℕ). heard F k c.args.packet f) c.len-left.ensures.held in
    by_state (λ d. heard F c.loop-left.left c.args.packet d
    ≡ heard F c.len-left.result c.args.packet f →
    G (heard F (length c.args.pool.now.held) c.args.packet f)) _ s held i.0 i.1.0
    (λ events o e.
    subst G (sym (heard_stops F c.loop-left.left c.args.packet (state s held events)
    (sym (c.is_lost.ensures events) ∙ c.if-not-is_lost.true)) ∙ e ∙ all)
    (record { observed = o; same = refl })) i.1.1

pub loop-left-preserved : goal.loop-left-preserved
loop-left-preserved g c =
    let F = g.T.Listener.reader in
    let s = c.loop-left.self in
    let held = c.loop-left.pool.held in
    let n = c.args.packet in (
      (λ f h.
          let i = c.loop-left.invariant.0 f h in
          by_state (λ d. heard F c.loop-left.left n d
          ≡ heard F c.len-left.result n f → (m : Flow)
          × (IsState (g.T.Listener.observed c.make_gap.new.to) c.make_gap.new.self
          c.make_gap.new.pool.held m
          × (heard F (c.loop-left.left - 1) n m
          ≡ heard F c.len-left.result n f))) _ s held i.0 i.1.0 (λ events o e.
          let goes = heard_goes F c.loop-left.left n (state s held events) c.loop-left-test.true
          (sym (c.is_lost.ensures events) ∙ c.if-not-is_lost.false) in (
            with_gap F (state s held events),
            (
              c.in_ok-make_gap.ensures.does (state s held events)
                  (record { observed = o; same = refl }),
              sym goes ∙ e,
            ),
          )) i.1.1),
      c.make_gap.ensures.id ∙ c.loop-left.invariant.1,
      c.make_gap.ensures.blocks ∙ c.loop-left.invariant.2,
    )

pub returns-clause-does : goal.returns-clause-does
returns-clause-does g c f h =
    let F = g.T.Listener.reader in
    let i = c.loop-left.invariant.0 f h in
    let all = ap (λ (k : ℕ). heard F k c.args.packet f) c.len-left.ensures.held in
    subst (IsState (g.T.Listener.observed c.loop-left.to) c.loop-left.self c.loop-left.pool.held)
    (sym (heard_none F c.loop-left.left c.args.packet i.0 c.loop-left-test.false) ∙ i.1.1
    ∙ all) i.1.0
