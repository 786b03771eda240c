use Rattle.std.proofs.Common.{◌≡◌, ℕ, length, true, false, sym, ap, ◌∙◌, arith}
use Rattle.tcp_waiting.specs.Payload.{count_of}
use Rattle.tcp_connections.specs.Connections.{State, gapped, gaps_at, is_holding, flow_at}
use Rattle.tcp_connections.proofs.Cases.{at_none, at_over, at_gap}
use Rattle.tcp_connections.proofs.Ending.{idle}
use Rattle.tcp_connections.proofs.Shown.{gapped_fewer, none_counts}
use Rattle.tcp_connections.proofs.States.{moved}
use Rattle.tcp_connections.proofs.connections.Connections.empty_flow.Goals as goal

pub returns-then-not-is_holding-clause-does : goal.returns-then-not-is_holding-clause-does
returns-then-not-is_holding-clause-does g c w h =
    let i = c.loop-left.invariant w h in
    let over : is_holding i.0.held (flow_at i.0 c.args.id) ≡ false =
    sym (ap (λ (u : State). is_holding u.held (flow_at u c.args.id)) i.1.0.same)
    ∙ sym c.is_holding.ensures ∙ c.if-not-is_holding.true in
    moved _ _ _ _ _ (sym i.1.1.0
    ∙ at_over g.L.Listener.reader c.loop-left.left i.0 c.args.id over) i.1.0

pub returns-clause-does : goal.returns-clause-does
returns-clause-does g c w h =
    let i = c.loop-left.invariant w h in
    moved _ _ _ _ _ (sym i.1.1.0
    ∙ at_none g.L.Listener.reader c.loop-left.left i.0 c.args.id c.loop-left-test.false) i.1.0

pub loop-left-preserved : goal.loop-left-preserved
loop-left-preserved g c w h =
    let F = g.L.Listener.reader in
    let i = c.loop-left.invariant w h in
    let v = i.0 in
    let holds : is_holding v.held (flow_at v c.args.id) ≡ true =
    sym (ap (λ (u : State). is_holding u.held (flow_at u c.args.id)) i.1.0.same)
    ∙ sym c.is_holding.ensures ∙ c.if-not-is_holding.false in (
      gapped F v c.args.id,
      (
        c.in_ok-make_gap.ensures.does 0 v i.1.0,
        (
          sym (at_gap F c.loop-left.left v c.args.id c.loop-left-test.true holds) ∙ i.1.1.0,
          omega (arith, i.1.1.1, gapped_fewer F v c.args.id holds),
        ),
      ),
    )

pub loop-left-init : goal.loop-left-init
loop-left-init g c w h = (
  w,
  (
    h,
    (
      ap (λ (k : ℕ). gaps_at g.L.Listener.reader k w c.args.id)
          (c.len-left.ensures.held ∙ ap (λ (u : State). length u.held) h.same),
      omega (arith, c.len-left.ensures.held, ap (λ (u : State). length u.held) h.same),
    ),
  ),
)

pub returns-then-not-is_holding-clause-none : goal.returns-then-not-is_holding-clause-none
returns-then-not-is_holding-clause-none g c =
    let i = c.loop-left.invariant c.requires.state.0 c.requires.state.1 in
    let over : is_holding i.0.held (flow_at i.0 c.args.id) ≡ false =
    sym (ap (λ (u : State). is_holding u.held (flow_at u c.args.id)) i.1.0.same)
    ∙ sym c.is_holding.ensures ∙ c.if-not-is_holding.true in
    ap (λ (u : State). count_of c.args.id u.held) i.1.0.same
    ∙ idle i.0 c.args.id i.1.0.sound over

pub returns-clause-none : goal.returns-clause-none
returns-clause-none g c =
    let i = c.loop-left.invariant c.requires.state.0 c.requires.state.1 in
    ap (λ (u : State). count_of c.args.id u.held) i.1.0.same
    ∙ none_counts c.args.id i.0.held (omega (arith, i.1.1.1, c.loop-left-test.false))
