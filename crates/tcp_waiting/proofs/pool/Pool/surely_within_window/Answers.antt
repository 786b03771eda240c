use Rattle.std.proofs.Common.{◌≡◌, ℕ, false, subst, arith}
use Rattle.tcp_waiting.specs.Layout.{holds_beyond_window_but}
use Rattle.tcp_waiting.proofs.Ends.{far_by}
use Rattle.tcp_waiting.proofs.pool.Pool.surely_within_window.Goals as goal

pub returns-then-near-next : goal.returns-then-near-next
returns-then-near-next c h =
    let near = c.in-Some.near in
    let held = c.args.self.now.held in
    let but = subst (λ (base : ℕ). holds_beyond_window_but c.args.flow base near.number near.count
    held ≡ false)
    c.if-near-next.true c.in-Some.ensures in
    grind (
      arith,
      far_by c.args.flow c.args.next near.number near.count held but,
      c.ends_beyond_window.ensures,
      h,
    )
