use Rattle.std.proofs.Common.{◌≡◌, false, ◌&&◌, nat_eq, refl, sym, ◌∙◌, arith}
use Rattle.std.proofs.lemmas.Bool.{and_left, and_right, eq-eqb, ne_eqb}
use Rattle.tcp_waiting.specs.Payload.{ends_beyond_window}
use Rattle.tcp_waiting.proofs.Queries.{here, far_turn, far_end}
use Rattle.tcp_waiting.proofs.pool.Pool.beyond_window_by_walk.Goals.{else-here-flow-via-then-here-flow+else-ends_beyond_window, else-here-flow-via-else-here-flow}
use Rattle.tcp_waiting.proofs.pool.Pool.beyond_window_by_walk.Goals as goal

pub returns-then-ends_beyond_window : goal.returns-then-ends_beyond_window
returns-then-ends_beyond_window c =
    let a = c.self.inside in
    let w = c.at-here.result in
    let h = here a.octets.items a.waiting.items c.loop-index.index w c.self.invariant.within
    (omega arith) c.at-here.ensures in
    rw (← c.self.view_is) (sym (sym c.loop-index.invariant.1
    ∙ far_turn a.octets.items a.waiting.items c.loop-index.index w c.args.flow c.args.next h
    ∙ rw (
      eq-eqb w.flow c.args.flow c.if-here-flow.true,
      sym c.ends_beyond_window.ensures ∙ c.if-ends_beyond_window.true,
    ) refl))

pub loop-index-preserved : goal.loop-index-preserved
loop-index-preserved c =
    let a = c.self.inside in
    let w = c.at-here.result in
    let h = here a.octets.items a.waiting.items c.loop-index.index w c.self.invariant.within
    (omega arith) c.at-here.ensures in
    let e : (nat_eq w.flow c.args.flow && ends_beyond_window c.args.next w.number w.count) ≡ false =
    elim c.else-here-flow.branch [
      | else-here-flow-via-then-here-flow+else-ends_beyond_window b ↦
          and_right (nat_eq w.flow c.args.flow) (ends_beyond_window c.args.next w.number w.count)
          (sym b.ends_beyond_window.ensures ∙ b.if-ends_beyond_window.false)
      | else-here-flow-via-else-here-flow b ↦
          and_left (nat_eq w.flow c.args.flow) (ends_beyond_window c.args.next w.number w.count)
          (ne_eqb w.flow c.args.flow b.if-here-flow.false)
    ] in (
      omega arith,
      sym (far_turn a.octets.items a.waiting.items c.loop-index.index w c.args.flow c.args.next h
          ∙ rw e refl) ∙ c.loop-index.invariant.1,
    )

pub returns : goal.returns
returns c =
    let a = c.self.inside in
    rw (← c.self.view_is) (sym (sym c.loop-index.invariant.1
    ∙ far_end a.octets.items a.waiting.items c.loop-index.index c.args.flow c.args.next
    (omega arith)))
