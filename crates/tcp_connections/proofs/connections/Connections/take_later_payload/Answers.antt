use Rattle.std.proofs.Common.{◌≤◌, ◌+◌, refl, sym, ap, ◌∙◌, arith}
use Rattle.tcp_segment.specs.Segments.{segment_view}
use Rattle.tcp_flow.specs.Flow.{Flow, Octets, step as flow_step}
use Rattle.tcp_waiting.specs.Payload.{blocks_of}
use Rattle.tcp_flow.specs.State.{state}
use Rattle.tcp_connections.specs.Connections.{State, arrived, first_number, with_flow}
use Rattle.tcp_connections.specs.State.{state_of}
use Rattle.tcp_connections.proofs.Cases.{arrived_some}
use Rattle.tcp_connections.proofs.Living.{step_turn}
use Rattle.tcp_connections.proofs.States.{makes_by, moved, flow_start, flow_turned, sound_of, set_rest}
use Rattle.tcp_connections.proofs.connections.Connections.take_later_payload.Goals as goal

pub payload_came-requires-clause-room : goal.payload_came-requires-clause-room
payload_came-requires-clause-room g c =
    let h = c.requires.state.1 in
    omega (
      arith,
      h.blocks,
      ap (λ (u : State). blocks_of u.held) h.same,
      ap (λ (u : State). u.blocks) h.same,
    )

pub payload_came-requires-clause-settled : goal.payload_came-requires-clause-settled
payload_came-requires-clause-settled g c =
    (sound_of _ _ _ _ c.requires.state.1).settled c.args.id c.args.flow c.requires.flow

pub returns-clause-does : goal.returns-clause-does
returns-clause-does g c w h =
    makes_by {over = 0} _ _ _ _ c.args.self.now _ (λ w. arrived g.L.Listener.reader w c.args.id
    (Octets (first_number (segment_view c.args.segment)) c.args.segment.payload.now w.arrival))
    (λ es h0.
    let S : State = state_of c.args.self.now es in
    let f : Flow = state c.args.flow S.held es in
    let start = flow_start _ _ c.args.self.now es c.args.flow h0 in
    let fewer : blocks_of c.payload_came.new.pool.held ≤ c.args.self.now.pool.blocks + 256 =
    omega (
      arith,
      c.payload_came.ensures.blocks,
      c.in_ok-payload_came.ensures.room f start,
    ) in
    rw (c.note.ensures.listener, c.note.ensures.live)
    (moved _ _ _ _ _
    (arrived_some g.L.Listener.reader S c.args.id
    (Octets (first_number (segment_view c.args.segment)) c.args.segment.payload.now S.arrival)
    c.args.flow c.requires.flow ∙ ap (λ n. with_flow S c.args.id
    (flow_step g.L.Listener.reader f
    (Octets n c.args.segment.payload.now S.arrival)))
    (sym c.first_number.ensures))
    (flow_turned _ _ _ _ c.args.self.now _ es c.args.id c.args.flow c.payload_came.new.self _ h0
    c.requires.flow
    (c.in_ok-payload_came.ensures.does f start) c.payload_came.ensures.id
    (c.in_ok-payload_came.ensures.beside f start) fewer
    (c.in_ok-payload_came.ensures.settled f start)
    (λ l t. step_turn _ c.args.id es f _ l t)
    (set_rest c.args.self.now c.set.new.self c.payload_came.new.pool c.note.new.self
    c.set.ensures.came c.set.ensures.stamps)
    c.set.ensures.states c.payload_came.ensures.blocks refl refl c.note.ensures.noted))) w h
