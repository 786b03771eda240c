use Rattle.std.proofs.Common.{ℕ, [], cond, refl, sym, ap, ◌∙◌, arith}
use Rattle.tcp_connections.specs.Connections.{makes_room_before, eldest}
use Rattle.tcp_connections.specs.State.{state_of}
use Rattle.tcp_connections.proofs.Cases.{eldest_more}
use Rattle.tcp_connections.proofs.connections.Connections.eldest_by_walk.Goals as goal

pub loop-index-init : goal.loop-index-init
unfolding eldest
loop-index-init c = (
  omega arith,
  omega (arith, c.requires.some),
  refl,
)

pub loop-index-preserved : goal.loop-index-preserved
loop-index-preserved c =
    let w = state_of c.args.self.now [] in
    let n = c.loop-index.index in (
      omega (arith, c.loop-index-test.true, c.len.ensures),
      omega (arith, c.elder-best.ensures.within),
      c.elder-best.ensures.index ∙ ap (λ (b : ℕ). cond (makes_room_before w n b) n b)
          c.loop-index.invariant.2 ∙ sym (eldest_more w n),
    )
