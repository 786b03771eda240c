use Rattle.std.proofs.Common.{◌≤◌, sym, subst, arith}
use Rattle.tcp_waiting.specs.Payload.{blocks_of}
use Rattle.tcp_flow.specs.Flow.{step}
use Rattle.tcp_flow.proofs.Direct.{fin_settled}
use Rattle.tcp_flow.proofs.States.{held_of, next_of, settled_state, settled_flow}
use Rattle.tcp_flow.proofs.Truth.{fin_true}
use Rattle.tcp_flow.proofs.Room.{fin_blocks}
use Rattle.tcp_flow.proofs.Others.{step_others}
use Rattle.tcp_flow.proofs.States.{others_of}
use Rattle.tcp_flow.specs.Flow.{End}
use Rattle.tcp_flow.proofs.flow.FlowState.fin_came.Goals as goal

pub returns-clause-does : goal.returns-clause-does
unfolding step
returns-clause-does g c f h = c.in_ok-take_fin.ensures.does f h

pub returns-clause-gapless : goal.returns-clause-gapless
unfolding step
returns-clause-gapless g c payloads f h t = fin_true g.T.Listener.reader payloads f c.args.number t

pub returns-clause-room : goal.returns-clause-room
returns-clause-room g c f h =
    let n = c.in_ok-take_fin.ensures.does f h in
    let less = fin_blocks g.T.Listener.reader f c.args.number in
    subst (λ ps. blocks_of c.take_fin.new.pool.held ≤ blocks_of ps) (sym (held_of _ _ _ f h))
    (subst (λ ps. blocks_of ps ≤ blocks_of f.held) (sym (held_of _ _ _ _ n)) less)

pub returns-clause-settled : goal.returns-clause-settled
returns-clause-settled g c f h t =
    let n = c.in_ok-take_fin.ensures.does f h in
    settled_state _ _ _ _ n (fin_settled g.T.Listener.reader f c.args.number
    (settled_flow _ _ _ f h t) (next_of _ _ _ _ n (omega arith)))

pub returns-clause-beside : goal.returns-clause-beside
unfolding step
returns-clause-beside g c f h =
    let n = c.in_ok-take_fin.ensures.does f h in
    others_of _ _ c.args.self.now c.take_fin.new.self c.args.pool.now.held c.take_fin.new.pool.held
    f _ h n (step_others g.T.Listener.reader f (End c.args.number))
