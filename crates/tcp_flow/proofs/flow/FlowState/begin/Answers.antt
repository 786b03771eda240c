use Rattle.std.proofs.Common.{◌≡◌, [], refl, sym, subst, ap, ◌∙◌, ◌++◌, ◌∷◌, arith}
use Rattle.tcp_flow.proofs.States.{held_of}
use Rattle.tcp_waiting.specs.Payload.{payload, blocks_of}
use Rattle.tcp_flow.specs.Flow.{Flow, fresh, oldest_held, first_payload, step, payload_came}
use Rattle.tcp_flow.specs.Laws.{HoldsOnlyToCome, IsGapless}
use Rattle.tcp_flow.proofs.Direct.{fresh_settled, first_blocks}
use Rattle.tcp_flow.specs.Flow.{held_by_others}
use Rattle.tcp_flow.proofs.flow.FlowState.begin.Goals as goal

pub payload_came-requires-clause-settled : goal.payload_came-requires-clause-settled
unfolding oldest_held
payload_came-requires-clause-settled g c =
    subst HoldsOnlyToCome (sym (c.new-flow.ensures c.args.pool.now.held []))
    (fresh_settled (fresh c.args.id c.args.number c.args.pool.now.held []) refl c.requires.none)

pub returns-clause-does : goal.returns-clause-does
unfolding first_payload step
returns-clause-does g c events o =
    c.in_ok-payload_came.ensures.does (fresh c.args.id c.args.number c.args.pool.now.held events)
    (record { observed = o; same = c.new-flow.ensures c.args.pool.now.held events })

pub returns-clause-gapless : goal.returns-clause-gapless
unfolding first_payload step
returns-clause-gapless g c payloads events o t =
    let f = fresh c.args.id c.args.number c.args.pool.now.held events in
    let F = g.T.Listener.reader in
    let e : c.new-flow.result.id ≡ c.args.id =
    ap (λ (d : Flow). d.id) (c.new-flow.ensures c.args.pool.now.held events) in
    subst (λ id. IsGapless (payloads ++ (payload id c.args.number c.args.octets.now
    c.args.arrival) ∷ [])
    (payload_came F f (payload c.args.id c.args.number c.args.octets.now c.args.arrival))) e
    (c.in_ok-payload_came.ensures.gapless payloads f
    (record { observed = o; same = c.new-flow.ensures c.args.pool.now.held events }) t)

pub returns-clause-room : goal.returns-clause-room
unfolding first_payload step oldest_held
returns-clause-room g c events o =
    let f = fresh c.args.id c.args.number c.args.pool.now.held events in
    let p = payload c.args.id c.args.number c.args.octets.now c.args.arrival in
    let n = c.in_ok-payload_came.ensures.does f
    (record { observed = o; same = c.new-flow.ensures c.args.pool.now.held events }) in
    omega (
      arith,
      first_blocks g.T.Listener.reader f p refl (omega arith) refl c.requires.none,
      ap blocks_of (held_of _ _ _ _ n),
      c.requires.room,
      c.payload_came.ensures.blocks,
    )

pub returns-clause-settled : goal.returns-clause-settled
returns-clause-settled g c events o =
    c.in_ok-payload_came.ensures.settled (fresh c.args.id c.args.number c.args.pool.now.held events)
    (record { observed = o; same = c.new-flow.ensures c.args.pool.now.held events })

pub returns-clause-id : goal.returns-clause-id
returns-clause-id g c = c.payload_came.ensures.id
    ∙ ap (λ (d : Flow). d.id) (c.new-flow.ensures [] [])

pub returns-clause-beside : goal.returns-clause-beside
returns-clause-beside g c events o =
    let e : c.new-flow.result.id ≡ c.args.id =
    ap (λ (d : Flow). d.id) (c.new-flow.ensures c.args.pool.now.held events) in
    subst (λ id. held_by_others id c.payload_came.new.pool.held
    ≡ held_by_others id c.args.pool.now.held)
    e
    (c.in_ok-payload_came.ensures.beside (fresh c.args.id c.args.number c.args.pool.now.held events)
    (record { observed = o; same = c.new-flow.ensures c.args.pool.now.held events }))
