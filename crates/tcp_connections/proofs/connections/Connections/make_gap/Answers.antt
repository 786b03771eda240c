use Rattle.std.proofs.Common.{◌+◌, ◌≡◌, ◌≤◌, Some, refl, sym, ◌∙◌, arith}
use Rattle.tcp_flow.specs.Flow.{Flow}
use Rattle.tcp_waiting.specs.Payload.{blocks_of}
use Rattle.tcp_flow.specs.State.{state}
use Rattle.tcp_connections.specs.Connections.{State, flow_at, gapped}
use Rattle.tcp_connections.specs.State.{state_of}
use Rattle.tcp_connections.proofs.Cases.{gapped_none, gapped_some}
use Rattle.tcp_connections.proofs.Living.{gap_turn}
use Rattle.tcp_connections.proofs.States.{makes_by, moved, flow_start, flow_turned, set_rest}
use Rattle.tcp_connections.proofs.connections.Connections.make_gap.Goals as goal

pub returns-in_default-clause-does : goal.returns-in_default-clause-does
returns-in_default-clause-does g c over w h =
    makes_by _ _ _ _ _ _ (λ w. gapped g.L.Listener.reader w c.args.id)
    (λ es h0. moved _ _ _ _ _ (gapped_none g.L.Listener.reader (state_of c.args.self.now es)
    c.args.id (sym c.flow.ensures ∙ c.in_default.is)) h0) w h

pub returns-clause-does : goal.returns-clause-does
returns-clause-does g c over w h =
    makes_by {over = over} _ _ _ _ c.args.self.now _ (λ w. gapped g.L.Listener.reader w c.args.id)
    (λ es h0.
    let S : State = state_of c.args.self.now es in
    let e : flow_at S c.args.id ≡ Some c.in-Some.flow = sym c.flow.ensures ∙ c.in-Some.is in
    let f : Flow = state c.in-Some.flow S.held es in
    let start = flow_start _ _ c.args.self.now es c.in-Some.flow h0 in
    let fewer : blocks_of c.make_gap.new.pool.held ≤ c.args.self.now.pool.blocks + over =
    omega (arith, h0.blocks, c.make_gap.ensures.blocks, c.in_ok-make_gap.ensures.room f start) in
    rw (c.note.ensures.listener, c.note.ensures.live)
    (moved _ _ _ _ _ (gapped_some g.L.Listener.reader S c.args.id c.in-Some.flow e)
    (flow_turned _ _ _ _ c.args.self.now _ es c.args.id c.in-Some.flow c.make_gap.new.self _ h0 e
    (c.in_ok-make_gap.ensures.does f start) c.make_gap.ensures.id
    (c.in_ok-make_gap.ensures.beside f start) fewer
    (c.in_ok-make_gap.ensures.settled f start)
    (λ l t. gap_turn _ c.args.id es f l t)
    (set_rest c.args.self.now c.set.new.self c.make_gap.new.pool c.note.new.self
    c.set.ensures.came c.set.ensures.stamps)
    c.set.ensures.states c.make_gap.ensures.blocks refl refl c.note.ensures.noted))) w h
