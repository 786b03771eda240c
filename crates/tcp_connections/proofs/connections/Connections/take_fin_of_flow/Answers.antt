use Rattle.std.proofs.Common.{◌+◌, ◌≡◌, ◌≤◌, Some, refl, sym, ◌∙◌, arith}
use Rattle.tcp_flow.specs.Flow.{Flow, End}
use Rattle.tcp_waiting.specs.Payload.{blocks_of}
use Rattle.tcp_flow.specs.State.{state}
use Rattle.tcp_connections.specs.Connections.{State, flow_at, arrived}
use Rattle.tcp_connections.specs.State.{state_of}
use Rattle.tcp_connections.proofs.Cases.{arrived_none, arrived_some}
use Rattle.tcp_connections.proofs.Living.{step_turn}
use Rattle.tcp_connections.proofs.States.{makes_by, moved, flow_start, flow_turned, set_rest}
use Rattle.tcp_connections.proofs.connections.Connections.take_fin_of_flow.Goals as goal

pub returns-in_default-clause-does : goal.returns-in_default-clause-does
returns-in_default-clause-does g c w h =
    makes_by _ _ _ _ _ _ (λ w. arrived g.L.Listener.reader w c.args.id
    (End c.args.number)) (λ es h0.
    let S = state_of c.args.self.now es in
    moved _ _ _ _ _ (arrived_none g.L.Listener.reader S c.args.id (End c.args.number)
    (sym c.flow.ensures ∙ c.in_default.is)) h0) w h

pub returns-clause-does : goal.returns-clause-does
returns-clause-does g c w h =
    makes_by {over = 0} _ _ _ _ c.args.self.now _
    (λ w. arrived g.L.Listener.reader w c.args.id (End c.args.number)) (λ es h0.
    let S : State = state_of c.args.self.now es in
    let e : flow_at S c.args.id ≡ Some c.in-Some.flow = sym c.flow.ensures ∙ c.in-Some.is in
    let f : Flow = state c.in-Some.flow S.held es in
    let start = flow_start _ _ c.args.self.now es c.in-Some.flow h0 in
    let fewer : blocks_of c.fin_came.new.pool.held ≤ c.args.self.now.pool.blocks + 0 =
    omega (arith, h0.blocks, c.fin_came.ensures.blocks, c.in_ok-fin_came.ensures.room f start) in
    rw (c.note.ensures.listener, c.note.ensures.live)
    (moved _ _ _ _ _
    (arrived_some g.L.Listener.reader S c.args.id (End c.args.number) c.in-Some.flow e)
    (flow_turned _ _ _ _ c.args.self.now _ es c.args.id c.in-Some.flow c.fin_came.new.self _ h0 e
    (c.in_ok-fin_came.ensures.does f start) c.fin_came.ensures.id
    (c.in_ok-fin_came.ensures.beside f start) fewer
    (c.in_ok-fin_came.ensures.settled f start
    (h0.sound.settled c.args.id c.in-Some.flow e))
    (λ l t. step_turn _ c.args.id es f _ l t)
    (set_rest c.args.self.now c.set.new.self c.fin_came.new.pool c.note.new.self
    c.set.ensures.came c.set.ensures.stamps)
    c.set.ensures.states c.fin_came.ensures.blocks refl refl c.note.ensures.noted))) w h
