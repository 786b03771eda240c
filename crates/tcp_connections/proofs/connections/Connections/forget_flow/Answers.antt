use Rattle.std.proofs.Common.{◌≡◌, Some, refl, sym, ap, ◌∙◌}
use Rattle.tcp_flow.specs.Flow.{held_by_others}
use Rattle.tcp_flow.specs.State.{state}
use Rattle.tcp_connections.specs.Connections.{flow_at, flow_forgotten}
use Rattle.tcp_connections.specs.State.{state_of}
use Rattle.tcp_connections.proofs.Cases.{forgot_none, forgot_some}
use Rattle.tcp_connections.proofs.Sound.{some_within}
use Rattle.tcp_connections.proofs.Living.{closed_turn}
use Rattle.tcp_connections.proofs.States.{makes_by, moved, forgot_done, turn_start, set_rest}
use Rattle.tcp_connections.proofs.connections.Connections.forget_flow.Goals as goal

pub returns-in_default-clause-does : goal.returns-in_default-clause-does
returns-in_default-clause-does g c w h =
    makes_by _ _ _ _ _ _ (λ w. flow_forgotten w c.args.id c.args.cause)
    (λ es h0. moved _ _ _ _ _ (forgot_none (state_of c.args.self.now es) c.args.id c.args.cause
    (sym c.flow.ensures ∙ c.in_default.is)) h0) w h

pub returns-clause-does : goal.returns-clause-does
returns-clause-does g c w h =
    makes_by {over = 0} _ _ _ _ c.args.self.now _ (λ w. flow_forgotten w c.args.id c.args.cause)
    (λ es h0.
    let S = state_of c.args.self.now es in
    let e : flow_at S c.args.id ≡ Some c.in-Some.flow = sym c.flow.ensures ∙ c.in-Some.is in
    let own = c.close.ensures.id ∙ h0.sound.ids c.args.id c.in-Some.flow e in
    rw (c.note.ensures.listener, c.note.ensures.live)
    (moved _ _ _ _ _ (forgot_some S c.args.id c.args.cause c.in-Some.flow e)
    (forgot_done _ _ _ _ _ _ es c.args.id c.close.new.self _ h0
    (some_within S.flows c.args.id c.in-Some.flow e)
    (c.in_ok-close.ensures.does S.held (state c.in-Some.flow S.held es)
    (record { observed = (h0.observed, h0.live); same = refl }))
    (closed_turn c.args.id es (state c.in-Some.flow S.held es) c.args.cause
    (turn_start _ _ _ es c.args.id c.in-Some.flow h0 e))
    (set_rest c.args.self.now c.set.new.self c.remove_held.new.pool c.note.new.self
    c.set.ensures.came c.set.ensures.stamps)
    c.set.ensures.states c.remove_held.ensures.blocks
    (c.remove_held.ensures.held ∙ ap (λ n. held_by_others n S.held) own) refl refl
    c.note.ensures.noted))) w h
