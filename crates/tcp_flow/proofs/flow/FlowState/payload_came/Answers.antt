use Rattle.std.proofs.Common.{ap, ◌+◌, ◌≤◌, ◌++◌, ◌∷◌, [], refl, arith}
use Rattle.tcp_waiting.specs.Payload.{payload, blocks_of}
use Rattle.tcp_flow.specs.Flow.{payload_came, step}
use Rattle.tcp_flow.specs.State.{state, IsState}
use Rattle.tcp_flow.specs.Laws.{IsGapless}
use Rattle.tcp_flow.proofs.Direct.{came_settled}
use Rattle.tcp_flow.proofs.States.{by_state, held_of, next_of, settled_state, settled_flow}
use Rattle.tcp_flow.proofs.Truth.{came_true}
use Rattle.tcp_flow.proofs.Room.{came_blocks}
use Rattle.tcp_flow.proofs.Others.{step_others}
use Rattle.tcp_flow.proofs.States.{others_of}
use Rattle.tcp_flow.specs.Flow.{Octets}
use Rattle.tcp_flow.proofs.flow.FlowState.payload_came.Goals as goal

pub returns-clause-does : goal.returns-clause-does
unfolding step
returns-clause-does g c f h =
    let F = g.T.Listener.reader in
    by_state (λ f. IsState (g.T.Listener.observed c.take_payload.new.to) c.take_payload.new.self
    c.take_payload.new.pool.held (payload_came F f
    (payload f.id c.args.number c.args.octets.now c.args.arrival))) _ c.args.self.now
    c.args.pool.now.held f h
    (λ events o.
    c.in_ok-take_payload.ensures.does _ (record { observed = o; same = refl }))

pub returns-clause-gapless : goal.returns-clause-gapless
unfolding step
returns-clause-gapless g c payloads f h t =
    let F = g.T.Listener.reader in
    let n = c.args.number in
    let octets = c.args.octets.now in
    let arrival = c.args.arrival in
    by_state (λ f. IsGapless payloads f → IsGapless
    (payloads ++ (payload c.args.self.now.id n octets arrival) ∷ [])
    (payload_came F f (payload f.id n octets arrival))) _ c.args.self.now c.args.pool.now.held f h
    (λ events o u.
    came_true F payloads (state c.args.self.now c.args.pool.now.held events)
    (payload c.args.self.now.id n octets arrival) refl (omega arith) u) t

pub returns-clause-room : goal.returns-clause-room
returns-clause-room g c f h =
    let F = g.T.Listener.reader in
    let p = payload c.args.self.now.id c.args.number c.args.octets.now c.args.arrival in
    by_state (λ f. blocks_of c.take_payload.new.pool.held ≤ c.take_payload.new.pool.blocks + 256) _
    c.args.self.now c.args.pool.now.held f h (λ events o.
    let S = state c.args.self.now c.args.pool.now.held events in
    let n = c.in_ok-take_payload.ensures.does S (record { observed = o; same = refl }) in
    omega (
      arith,
      came_blocks F S p,
      ap blocks_of (held_of _ _ _ _ n),
      c.requires.room,
      c.requires.whole,
      c.take_payload.ensures.blocks,
    ))

pub returns-clause-settled : goal.returns-clause-settled
returns-clause-settled g c f h =
    let F = g.T.Listener.reader in
    let p = payload c.args.self.now.id c.args.number c.args.octets.now c.args.arrival in
    let n = c.in_ok-take_payload.ensures.does f h in
    settled_state _ _ _ _ n (came_settled F f p (settled_flow _ _ _ f h c.requires.settled)
    (next_of _ _ _ _ n (omega arith)))

pub returns-clause-beside : goal.returns-clause-beside
unfolding step
returns-clause-beside g c f h =
    let F = g.T.Listener.reader in
    let n : IsState (g.T.Listener.observed c.take_payload.new.to) c.take_payload.new.self
    c.take_payload.new.pool.held (payload_came F f
    (payload f.id c.args.number c.args.octets.now c.args.arrival)) =
    by_state (λ f. IsState (g.T.Listener.observed c.take_payload.new.to) c.take_payload.new.self
    c.take_payload.new.pool.held (payload_came F f
    (payload f.id c.args.number c.args.octets.now c.args.arrival))) _ c.args.self.now
    c.args.pool.now.held f h
    (λ events o.
    c.in_ok-take_payload.ensures.does _ (record { observed = o; same = refl })) in
    others_of _ _ c.args.self.now c.take_payload.new.self c.args.pool.now.held
    c.take_payload.new.pool.held f _ h n
    (step_others F f (Octets c.args.number c.args.octets.now c.args.arrival))
