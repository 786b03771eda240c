use Rattle.std.proofs.Common.{◌≡◌, ℕ, ◌+◌, ◌<◌, ◌≤◌, ◌-◌, length, get_or, sym, ap, subst, ◌∙◌, arith}
use Rattle.tcp_streams.specs.Lives.{lives}
use Rattle.tcp_connections.specs.Connections.{State, gaps_from, gapped, is_holding, flow_at}
use Rattle.tcp_connections.proofs.Cases.{gaps_none, gaps_over, gaps_gap, gaps_next}
use Rattle.tcp_connections.proofs.Ending.{HoldNothingBefore, start_so_far, next_so_far, gap_so_far, all_so_far, none_so_far}
use Rattle.tcp_connections.proofs.States.{moved}
use Rattle.tcp_connections.proofs.connections.Connections.make_end_gaps.Goals as goal

pub returns-in_default-clause-does : goal.returns-in_default-clause-does
returns-in_default-clause-does g c w h =
    let i = c.loop-left.invariant w h in
    let over = gaps_over g.L.Listener.reader c.loop-left.left c.loop-left.rank i.0
    (omega (arith, c.live.ensures.none c.in_default.is, ap length i.1.0.live)) in
    moved _ _ _ _ _ (sym i.1.1.0 ∙ over) i.1.0

pub returns-clause-does : goal.returns-clause-does
returns-clause-does g c w h =
    let i = c.loop-left.invariant w h in
    moved _ _ _ _ _ (sym i.1.1.0 ∙ gaps_none g.L.Listener.reader c.loop-left.left c.loop-left.rank
    i.0 c.loop-left-test.false) i.1.0

pub loop-left-preserved-then-not-is_holding : goal.loop-left-preserved-then-not-is_holding
loop-left-preserved-then-not-is_holding g c w h =
    let F = g.L.Listener.reader in
    let i = c.loop-left.invariant w h in
    let v = i.0 in
    let less : c.loop-left.rank < length (lives v.events) =
    omega (arith, c.in-Some.ensures.some.0, ap length i.1.0.live) in
    let id : c.in-Some.id ≡ get_or (lives v.events) c.loop-left.rank 0 =
    c.in-Some.ensures.some.1 ∙ ap (λ xs. get_or xs c.loop-left.rank 0) i.1.0.live in
    let holds = ap (λ (n : ℕ). is_holding v.held (flow_at v n)) (sym id)
    ∙ sym (ap (λ (u : State). is_holding u.held (flow_at u c.in-Some.id)) i.1.0.same)
    ∙ sym c.is_holding.ensures ∙ c.if-not-is_holding.true in (
      v,
      (
        i.1.0,
        (
          sym (gaps_next F c.loop-left.left c.loop-left.rank v c.loop-left-test.true less holds)
              ∙ i.1.1.0,
          next_so_far c.loop-left.left c.loop-left.rank v i.1.0.sound c.loop-left-test.true less
              holds i.1.1.1,
        ),
      ),
    )

pub loop-left-preserved : goal.loop-left-preserved
loop-left-preserved g c w h =
    let F = g.L.Listener.reader in
    let i = c.loop-left.invariant w h in
    let v = i.0 in
    let less : c.loop-left.rank < length (lives v.events) =
    omega (arith, c.in-Some.ensures.some.0, ap length i.1.0.live) in
    let id : c.in-Some.id ≡ get_or (lives v.events) c.loop-left.rank 0 =
    c.in-Some.ensures.some.1 ∙ ap (λ xs. get_or xs c.loop-left.rank 0) i.1.0.live in
    let holds = ap (λ (n : ℕ). is_holding v.held (flow_at v n)) (sym id)
    ∙ sym (ap (λ (u : State). is_holding u.held (flow_at u c.in-Some.id)) i.1.0.same)
    ∙ sym c.is_holding.ensures ∙ c.if-not-is_holding.false in (
      gapped F v c.in-Some.id,
      (
        c.in_ok-make_gap.ensures.does 0 v i.1.0,
        (
          ap (λ (n : ℕ). gaps_from F (c.loop-left.left - 1) c.loop-left.rank (gapped F v n)) id
              ∙ sym (gaps_gap F c.loop-left.left c.loop-left.rank v c.loop-left-test.true less
              holds) ∙ i.1.1.0,
          subst (λ (n : ℕ). HoldNothingBefore (c.loop-left.left - 1) c.loop-left.rank
              (gapped F v n)) (sym id)
              (gap_so_far F c.loop-left.left c.loop-left.rank v i.1.0.sound c.loop-left-test.true
              less holds i.1.1.1),
        ),
      ),
    )

pub returns-in_default-clause-held : goal.returns-in_default-clause-held
returns-in_default-clause-held g c =
    let i = c.loop-left.invariant c.requires.state.0 c.requires.state.1 in
    let over : length (lives i.0.events) ≤ c.loop-left.rank =
    omega (arith, c.live.ensures.none c.in_default.is, ap length i.1.0.live) in
    ap (λ (u : State). u.held) i.1.0.same ∙ all_so_far c.loop-left.left c.loop-left.rank i.0
    i.1.0.sound i.1.0.told over i.1.1.1

pub returns-clause-held : goal.returns-clause-held
returns-clause-held g c =
    let i = c.loop-left.invariant c.requires.state.0 c.requires.state.1 in
    ap (λ (u : State). u.held) i.1.0.same ∙ none_so_far c.loop-left.left c.loop-left.rank i.0
    c.loop-left-test.false i.1.1.1

pub loop-left-init : goal.loop-left-init
loop-left-init g c w h =
    let all : c.len.result + c.len-2.result ≡ length w.held + length (lives w.events) =
    omega (
      arith,
      c.len.ensures.held,
      c.len-2.ensures.live,
      ap (λ (u : State). length u.held) h.same,
      ap length h.live,
    ) in (
      w,
      (
        h,
        (
          ap (λ (k : ℕ). gaps_from g.L.Listener.reader k 0 w) all,
          subst (λ (k : ℕ). HoldNothingBefore k 0 w) (sym all) (start_so_far w),
        ),
      ),
    )
