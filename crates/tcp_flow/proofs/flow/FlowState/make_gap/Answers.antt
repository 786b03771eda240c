use Rattle.std.proofs.Common.{◌≡◌, ◌<◌, ◌≤◌, length, is_some, true, subst, sym, arith}
use Rattle.tcp_waiting.specs.Payload.{blocks_of}
use Rattle.tcp_flow.specs.Flow.{Flow, closed_for_gap, octets_passed_over, with_gap, oldest_held}
use Rattle.tcp_flow.proofs.Direct.{gap_settled}
use Rattle.tcp_flow.proofs.Room.{gap_blocks, gap_fewer}
use Rattle.tcp_flow.proofs.States.{held_of, next_of, parted_on, settled_state}
use Rattle.tcp_flow.proofs.Truth.{gap_true}
use Rattle.tcp_flow.proofs.Others.{gap_others}
use Rattle.tcp_flow.proofs.States.{others_of}
use Rattle.tcp_flow.proofs.flow.FlowState.make_gap.Goals as goal

pub returns-clause-does : goal.returns-clause-does
unfolding with_gap
returns-clause-does g c f h =
    let over = c.in_ok-passed.ensures.does f h in
    c.in_ok-go_on_with_held.ensures.does (closed_for_gap f
    (octets_passed_over g.T.Listener.reader f))
    (parted_on _ _ _ f _ _ over.1 (c.in_ok-close_for_gap.ensures.does _ f over.0))

pub returns-clause-gapless : goal.returns-clause-gapless
returns-clause-gapless g c payloads f h t = gap_true g.T.Listener.reader payloads f t

pub returns-clause-room : goal.returns-clause-room
unfolding with_gap
returns-clause-room g c f h =
    let over = c.in_ok-passed.ensures.does f h in
    let n = c.in_ok-go_on_with_held.ensures.does
    (closed_for_gap f (octets_passed_over g.T.Listener.reader f))
    (parted_on _ _ _ f _ _ over.1 (c.in_ok-close_for_gap.ensures.does _ f over.0)) in
    let less = gap_blocks g.T.Listener.reader f in
    subst (λ ps. blocks_of c.go_on_with_held.new.pool.held ≤ blocks_of ps) (sym (held_of _ _ _ f h))
    (subst (λ ps. blocks_of ps ≤ blocks_of f.held) (sym (held_of _ _ _ _ n)) less)

pub returns-clause-shorter : goal.returns-clause-shorter
unfolding with_gap oldest_held
returns-clause-shorter g c f h some =
    let over = c.in_ok-passed.ensures.does f h in
    let n = c.in_ok-go_on_with_held.ensures.does
    (closed_for_gap f (octets_passed_over g.T.Listener.reader f))
    (parted_on _ _ _ f _ _ over.1 (c.in_ok-close_for_gap.ensures.does _ f over.0)) in
    let own : is_some (oldest_held f) ≡ true =
    subst (λ (d : Flow). is_some (oldest_held d) ≡ true) h.same some in
    let less = gap_fewer g.T.Listener.reader f own in
    subst (λ ps. length c.go_on_with_held.new.pool.held < length ps) (sym (held_of _ _ _ f h))
    (subst (λ ps. length ps < length f.held) (sym (held_of _ _ _ _ n)) less)

pub returns-clause-settled : goal.returns-clause-settled
unfolding with_gap
returns-clause-settled g c f h =
    let over = c.in_ok-passed.ensures.does f h in
    let n = c.in_ok-go_on_with_held.ensures.does
    (closed_for_gap f (octets_passed_over g.T.Listener.reader f))
    (parted_on _ _ _ f _ _ over.1 (c.in_ok-close_for_gap.ensures.does _ f over.0)) in
    settled_state _ _ _ _ n (gap_settled g.T.Listener.reader f (next_of _ _ _ _ n (omega arith)))

pub returns-clause-beside : goal.returns-clause-beside
unfolding with_gap
returns-clause-beside g c f h =
    let over = c.in_ok-passed.ensures.does f h in
    let n = c.in_ok-go_on_with_held.ensures.does
    (closed_for_gap f (octets_passed_over g.T.Listener.reader f))
    (parted_on _ _ _ f _ _ over.1 (c.in_ok-close_for_gap.ensures.does _ f over.0)) in
    others_of _ _ c.args.self.now c.go_on_with_held.new.self c.args.pool.now.held
    c.go_on_with_held.new.pool.held f
    (with_gap g.T.Listener.reader f) h n (gap_others g.T.Listener.reader f)
