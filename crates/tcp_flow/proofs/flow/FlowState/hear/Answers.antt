use Rattle.std.proofs.Common.{◌≡◌, false, ◌≤◌, ℕ, length, sym, subst, ap, arith}
use Rattle.tcp_waiting.specs.Payload.{blocks_of}
use Rattle.tcp_flow.specs.Flow.{Flow, at, oldest_held, heard, is_lost, step}
use Rattle.tcp_flow.specs.State.{IsState}
use Rattle.tcp_flow.proofs.Direct.{heard_settled}
use Rattle.tcp_flow.proofs.States.{held_of, next_of, settled_state, settled_flow}
use Rattle.tcp_flow.proofs.Truth.{heard_true}
use Rattle.tcp_flow.proofs.Room.{heard_ends, heard_blocks}
use Rattle.tcp_flow.proofs.Others.{step_others}
use Rattle.tcp_flow.proofs.States.{others_of}
use Rattle.tcp_flow.specs.Flow.{Hears}
use Rattle.tcp_flow.proofs.flow.FlowState.hear.Goals as goal

pub returns-clause-does : goal.returns-clause-does
unfolding step
returns-clause-does g c f h =
    subst (λ (k : ℕ). IsState (g.T.Listener.observed c.give_up.new.to)
    c.give_up.new.self c.give_up.new.pool.held
    (heard g.T.Listener.reader k c.args.packet f))
    (ap length (held_of _ _ _ f h)) (c.in_ok-give_up.ensures.does f h)

pub returns-clause-gapless : goal.returns-clause-gapless
unfolding step
returns-clause-gapless g c payloads f h t =
    heard_true g.T.Listener.reader payloads (length f.held) c.args.packet f t

pub returns-clause-room : goal.returns-clause-room
returns-clause-room g c f h =
    let n = c.in_ok-give_up.ensures.does f h in
    let less = heard_blocks g.T.Listener.reader (length c.args.pool.now.held) c.args.packet f in
    subst (λ ps. blocks_of c.give_up.new.pool.held ≤ blocks_of ps)
    (sym (held_of _ _ _ f h)) (subst (λ ps. blocks_of ps ≤ blocks_of f.held)
    (sym (held_of _ _ _ _ n)) less)

pub returns-clause-settled : goal.returns-clause-settled
returns-clause-settled g c f h t =
    let n = c.in_ok-give_up.ensures.does f h in
    settled_state _ _ _ _ n (heard_settled g.T.Listener.reader (length c.args.pool.now.held)
    c.args.packet f (settled_flow _ _ _ f h t) (next_of _ _ _ _ n (omega arith)))

pub returns-clause-over : goal.returns-clause-over
unfolding is_lost oldest_held at
returns-clause-over g c f h =
    let n = c.in_ok-give_up.ensures.does f h in
    let all : length f.held ≤ length c.args.pool.now.held =
    omega (arith, ap length (held_of _ _ _ f h)) in
    subst (λ (d : Flow). is_lost c.args.packet d ≡ false) (sym n.same)
    (heard_ends g.T.Listener.reader (length c.args.pool.now.held) c.args.packet f all)

pub returns-clause-beside : goal.returns-clause-beside
unfolding step
returns-clause-beside g c f h =
    let n = subst (λ (k : ℕ). IsState (g.T.Listener.observed c.give_up.new.to)
    c.give_up.new.self c.give_up.new.pool.held
    (heard g.T.Listener.reader k c.args.packet f))
    (ap length (held_of _ _ _ f h)) (c.in_ok-give_up.ensures.does f h) in
    others_of _ _ c.args.self.now c.give_up.new.self c.args.pool.now.held
    c.give_up.new.pool.held f _ h n
    (step_others g.T.Listener.reader f (Hears c.args.packet))
