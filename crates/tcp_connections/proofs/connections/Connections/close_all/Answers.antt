use Rattle.std.proofs.Common.{◌≡◌, ◌<◌, ◌≤◌, ◌+◌, ℕ, List, length, drop, get_or, sym, ap, ◌∙◌, arith}
use Rattle.std.proofs.Math.ListN.{drop_of_length-le}
use Rattle.tcp_streams.specs.Lives.{lives}
use Rattle.tcp_connections.specs.Connections.{State, all_closed, closed_at, end_cause, flow_at}
use Rattle.tcp_connections.proofs.Closing.{end_lives, closes_next}
use Rattle.tcp_connections.proofs.States.{moved_end}
use Rattle.tcp_connections.proofs.connections.Connections.close_all.Goals as goal

pub returns-in_default-clause-does : goal.returns-in_default-clause-does
returns-in_default-clause-does g c w h =
    let i = c.loop-rank.invariant.0 w h in
    absurd (omega (
      arith,
      c.live.ensures.none c.in_default.is,
      c.loop-rank-test.true,
      c.len-count.ensures.live,
      ap length h.live,
      ap length i.1.0.live,
      ap length i.1.1.0,
    ))

pub loop-rank-preserved : goal.loop-rank-preserved
loop-rank-preserved g c = (
  (λ w h.
      let i = c.loop-rank.invariant.0 w h in
      let v = i.0 in
      let rank : ℕ = c.loop-rank.rank in
      let all : List ℕ = lives w.events in
      let less : rank < length all =
      omega (arith, c.loop-rank-test.true, c.len-count.ensures.live, ap length h.live) in
      let n : ℕ = get_or all rank 0 in
      let id : c.in-Some.id ≡ n = c.in-Some.ensures.some.1
      ∙ ap (λ xs. get_or xs rank 0) (i.1.0.live ∙ i.1.1.0) in
      let cause = c.end_cause.ensures ∙ ap end_cause
      (ap (λ (u : State). flow_at u c.in-Some.id) i.1.0.same) in
      let same : closed_at v c.in-Some.id c.end_cause.result
      ≡ closed_at v n (end_cause (flow_at v n)) = ap (closed_at v c.in-Some.id) cause
      ∙ ap (λ n. closed_at v n (end_cause (flow_at v n))) id in (
        closed_at v c.in-Some.id c.end_cause.result,
        (
          c.in_ok-close.ensures.does v i.1.0,
          (
            ap (λ (u : State). lives u.events) same ∙ end_lives v n ∙ i.1.1.0,
            ap (all_closed (drop (rank + 1) all)) same ∙ sym (closes_next all rank v less)
                ∙ i.1.1.1,
          ),
        ),
      )),
  c.close.ensures.held ∙ c.loop-rank.invariant.1,
)

pub returns-clause-does : goal.returns-clause-does
unfolding all_closed
returns-clause-does g c w h =
    let i = c.loop-rank.invariant.0 w h in
    let over : length (lives w.events) ≤ c.loop-rank.rank =
    omega (arith, c.loop-rank-test.false, c.len-count.ensures.live, ap length h.live) in
    moved_end _ _ _ _ _ (sym i.1.1.1
    ∙ ap (λ xs. all_closed xs i.0) (drop_of_length-le (lives w.events) over)) i.1.0
