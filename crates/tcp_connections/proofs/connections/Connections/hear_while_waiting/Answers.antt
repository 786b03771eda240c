use Rattle.std.proofs.Common.{◌+◌, ◌≡◌, ◌≤◌, Some, refl, sym, ◌∙◌, arith}
use Rattle.tcp_flow.specs.Flow.{Flow}
use Rattle.tcp_waiting.specs.Payload.{blocks_of}
use Rattle.tcp_flow.specs.State.{state}
use Rattle.tcp_connections.specs.Connections.{State, flow_at, heard}
use Rattle.tcp_connections.specs.State.{state_of}
use Rattle.tcp_connections.proofs.Cases.{arrived_none, arrived_some, kept_heard}
use Rattle.tcp_connections.proofs.Living.{step_turn}
use Rattle.tcp_connections.proofs.States.{makes_by, moved, flow_start, flow_turned, set_rest}
use Rattle.tcp_connections.proofs.connections.Connections.hear_while_waiting.Goals as goal

pub returns-in_default-clause-does : goal.returns-in_default-clause-does
unfolding heard
returns-in_default-clause-does g c w h =
    makes_by _ _ _ _ _ _ (λ w. heard g.L.Listener.reader w c.args.id c.args.acknowledged
    c.args.answers) (λ es h0.
    let S = state_of c.args.self.now es in
    moved _ _ _ _ _ (arrived_none g.L.Listener.reader S c.args.id _
    (sym c.flow.ensures ∙ c.in_default.is)) h0) w h

pub returns-then-not-is_lost-clause-does : goal.returns-then-not-is_lost-clause-does
unfolding heard
returns-then-not-is_lost-clause-does g c w h =
    makes_by _ _ _ _ _ _ (λ w. heard g.L.Listener.reader w c.args.id c.args.acknowledged
    c.args.answers) (λ es h0.
    let S = state_of c.args.self.now es in
    moved _ _ _ _ _ (kept_heard g.L.Listener.reader S c.args.id _ c.in-Some.flow
    (sym c.flow.ensures ∙ c.in-Some.is)
    (sym (c.is_lost.ensures es) ∙ c.if-not-is_lost.true)) h0) w h

pub returns-clause-does : goal.returns-clause-does
unfolding heard
returns-clause-does g c w h =
    makes_by {over = 0} _ _ _ _ c.args.self.now _ (λ w. heard g.L.Listener.reader w c.args.id
    c.args.acknowledged c.args.answers) (λ es h0.
    let S : State = state_of c.args.self.now es in
    let e : flow_at S c.args.id ≡ Some c.in-Some.flow =
    sym c.flow.ensures ∙ c.in-Some.is in
    let f : Flow = state c.in-Some.flow S.held es in
    let start = flow_start _ _ c.args.self.now es c.in-Some.flow h0 in
    let fewer : blocks_of c.hear.new.pool.held ≤ c.args.self.now.pool.blocks + 0 =
    omega (arith, h0.blocks, c.hear.ensures.blocks, c.in_ok-hear.ensures.room f start) in
    rw (c.note.ensures.listener, c.note.ensures.live)
    (moved _ _ _ _ _
    (arrived_some g.L.Listener.reader S c.args.id _ c.in-Some.flow e)
    (flow_turned _ _ _ _ c.args.self.now _ es c.args.id c.in-Some.flow
    c.hear.new.self _ h0 e
    (c.in_ok-hear.ensures.does f start) c.hear.ensures.id
    (c.in_ok-hear.ensures.beside f start) fewer
    (c.in_ok-hear.ensures.settled f start
    (h0.sound.settled c.args.id c.in-Some.flow e))
    (λ l t. step_turn _ c.args.id es f _ l t)
    (set_rest c.args.self.now c.set.new.self c.hear.new.pool c.note.new.self
    c.set.ensures.came c.set.ensures.stamps)
    c.set.ensures.states c.hear.ensures.blocks refl refl c.note.ensures.noted))) w h
