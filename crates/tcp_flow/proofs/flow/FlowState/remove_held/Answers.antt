use Rattle.std.proofs.Common.{◌≡◌, ◌<◌, ◌≤◌, List, length, get_or, is_some, refl, sym, ◌∙◌, ap, subst, arith}
use Rattle.tcp_waiting.specs.Payload.{Payload, no_payload, blocks_of}
use Rattle.tcp_waiting.proofs.Order.{first_within, first_own}
use Rattle.tcp_flow.specs.Flow.{held_by_others, without_held}
use Rattle.tcp_flow.specs.State.{state}
use Rattle.tcp_flow.proofs.Steps.{length_remove}
use Rattle.tcp_flow.proofs.Others.{others_keep, others_all, others_blocks}
use Rattle.tcp_flow.proofs.flow.FlowState.remove_held.Goals as goal

pub loop-first-init : goal.loop-first-init
loop-first-init c = (c.oldest_index-first.ensures, refl, refl)

pub remove-requires : goal.remove-requires
remove-requires c =
    let within : c.in-Some.own < length c.loop-first.pool.held =
    rw (sym c.loop-first.invariant.0 ∙ c.in-Some.is) at
    (first_within c.args.self.now.id c.args.self.now.next c.loop-first.pool.held) in
    within

pub loop-first-smaller : goal.loop-first-smaller
loop-first-smaller c =
    let within : c.in-Some.own < length c.loop-first.pool.held =
    rw (sym c.loop-first.invariant.0 ∙ c.in-Some.is) at
    (first_within c.args.self.now.id c.args.self.now.next c.loop-first.pool.held) in
    omega (
      arith,
      length_remove c.loop-first.pool.held c.in-Some.own within,
      ap length c.remove.ensures.held,
    )

pub loop-first-preserved : goal.loop-first-preserved
loop-first-preserved c =
    let s = c.args.self.now in
    let held = c.loop-first.pool.held in
    let within : c.in-Some.own < length held =
    rw (sym c.loop-first.invariant.0 ∙ c.in-Some.is) at (first_within s.id s.next held) in
    let own : (get_or held c.in-Some.own no_payload).flow ≡ s.id =
    rw (sym c.loop-first.invariant.0 ∙ c.in-Some.is) at
    (first_own s.id s.next no_payload held) in (
      c.oldest_index-first-in-Some.ensures,
      ap (held_by_others s.id) c.remove.ensures.held
          ∙ others_keep s.id held c.in-Some.own within own ∙ c.loop-first.invariant.1,
      c.remove.ensures.blocks ∙ c.loop-first.invariant.2,
    )

pub returns-clause-held : goal.returns-clause-held
returns-clause-held c =
    let s = c.args.self.now in
    sym (others_all s.id s.next c.loop-first.pool.held
    (ap is_some (sym c.loop-first.invariant.0 ∙ c.in_default.is))) ∙ c.loop-first.invariant.1

pub returns-clause-does : goal.returns-clause-does
unfolding without_held
returns-clause-does c events =
    let s = c.args.self.now in
    ap (λ (ps : List Payload). state s ps events)
    (sym (others_all s.id s.next c.loop-first.pool.held
    (ap is_some (sym c.loop-first.invariant.0 ∙ c.in_default.is))) ∙ c.loop-first.invariant.1)

pub returns-clause-room : goal.returns-clause-room
returns-clause-room c =
    let s = c.args.self.now in
    let e = sym (others_all s.id s.next c.loop-first.pool.held
    (ap is_some (sym c.loop-first.invariant.0 ∙ c.in_default.is))) ∙ c.loop-first.invariant.1 in
    subst (λ (ps : List Payload). blocks_of ps ≤ blocks_of c.args.pool.now.held) (sym e)
    (others_blocks s.id c.args.pool.now.held)

pub returns-clause-blocks : goal.returns-clause-blocks
returns-clause-blocks c = c.loop-first.invariant.2
