use Rattle.std.proofs.Common.{◌+◌, ◌<◌, ◌≤◌, length, is_some, refl, sym, ap, arith}
use Rattle.tcp_segment.specs.Segments.{segment_view}
use Rattle.tcp_waiting.specs.Payload.{blocks_of}
use Rattle.tcp_waiting.proofs.Counts.{first_none}
use Rattle.tcp_connections.specs.Connections.{State, began, first_number}
use Rattle.tcp_connections.specs.State.{state_of}
use Rattle.tcp_connections.proofs.Sound.{apart_taken}
use Rattle.tcp_connections.proofs.Living.{first_turn}
use Rattle.tcp_connections.proofs.States.{makes_by, moved, flow_done, sound_of, small_id, set_rest}
use Rattle.tcp_connections.proofs.connections.Connections.begin_flow.Goals as goal

pub begin-requires-clause-none : goal.begin-requires-clause-none
begin-requires-clause-none g c =
    ap is_some (first_none c.args.id _ c.args.self.now.pool.held
    ((sound_of _ _ _ _ c.requires.state.1).vacant c.args.id c.requires.vacant))

pub returns-clause-does : goal.returns-clause-does
unfolding began
returns-clause-does g c w h =
    makes_by (g.L.Listener.observed c.args.to.now.listener)
    (g.L.Listener.observed c.note.new.to.listener) c.args.to.now.live.items
    c.note.new.to.live.items c.args.self.now _
    (λ w. began g.L.Listener.reader w c.args.id (first_number (segment_view c.args.segment))
    (segment_view c.args.segment).payload) (λ es h0.
    let S : State = state_of c.args.self.now es in
    let within : c.args.id < length S.flows =
    omega (arith, c.requires.within, c.args.self.now.flows.states.ok.0) in
    let fewer : blocks_of c.begin.new.pool.held ≤ c.args.self.now.pool.blocks + 0 =
    omega (arith, c.begin.ensures.blocks, c.in_ok-flow.ensures.room es (h0.observed, h0.live))
    in
    rw (c.note.ensures.listener, c.note.ensures.live)
    (moved (g.L.Listener.observed c.begin.new.to.listener) c.begin.new.to.live.items _ _ _
    (ap (λ n. began g.L.Listener.reader S c.args.id n (segment_view c.args.segment).payload)
    (sym c.first_number-number.ensures))
    (flow_done (g.L.Listener.observed c.args.to.now.listener)
    (g.L.Listener.observed c.begin.new.to.listener) c.args.to.now.live.items
    c.begin.new.to.live.items c.args.self.now _ es c.args.id _ _ h0 within
    (c.in_ok-flow.ensures.does es (h0.observed, h0.live)) c.in_ok-flow.ensures.id
    (c.in_ok-flow.ensures.beside es (h0.observed, h0.live))
    fewer (c.in_ok-flow.ensures.settled es (h0.observed, h0.live))
    (apart_taken S c.args.id h0.sound c.requires.taken)
    (first_turn _ c.args.id _ _ _ _ es (small_id S c.args.id h0.sound within))
    (set_rest c.args.self.now c.set.new.self c.begin.new.pool c.note.new.self
    c.set.ensures.came c.set.ensures.stamps)
    c.set.ensures.states c.begin.ensures.blocks refl refl c.note.ensures.noted))) w h
