use Rattle.std.proofs.Common.{◌≡◌, Some, refl, sym, ◌∙◌}
use Rattle.tcp_flow.specs.State.{state}
use Rattle.tcp_connections.specs.Connections.{State, flow_at, closed_at}
use Rattle.tcp_connections.specs.State.{state_of}
use Rattle.tcp_connections.proofs.Cases.{closed_none, closed_some}
use Rattle.tcp_connections.proofs.States.{ends_by, moved_end, close_done, set_rest}
use Rattle.tcp_connections.proofs.connections.Connections.close.Goals as goal

pub returns-in_default-clause-does : goal.returns-in_default-clause-does
returns-in_default-clause-does g c w h =
    ends_by _ _ _ _ _ _ (λ w. closed_at w c.args.id c.args.cause)
    (λ es h0. moved_end _ _ _ _ _ (closed_none (state_of c.args.self.now es) c.args.id
    c.args.cause (sym c.flow.ensures ∙ c.in_default.is)) h0) w h

pub returns-clause-does : goal.returns-clause-does
returns-clause-does g c w h =
    ends_by (g.L.Listener.observed c.args.to.now.listener)
    (g.L.Listener.observed c.close.new.to.listener) c.args.to.now.live.items
    c.close.new.to.live.items c.args.self.now
    (record c.args.self.now { flows = c.set.new.self })
    (λ w. closed_at w c.args.id c.args.cause) (λ es h0.
    let S : State = state_of c.args.self.now es in
    let e : flow_at S c.args.id ≡ Some c.in-Some.flow = sym c.flow.ensures ∙ c.in-Some.is in
    moved_end (g.L.Listener.observed c.close.new.to.listener) c.close.new.to.live.items
    (record c.args.self.now { flows = c.set.new.self }) _ _
    (closed_some S c.args.id c.args.cause c.in-Some.flow e)
    (close_done (g.L.Listener.observed c.close.new.to.listener) c.close.new.to.live.items
    c.args.self.now
    (record c.args.self.now { flows = c.set.new.self }) es c.args.id c.close.new.self _
    (c.in_ok-close.ensures.does S.held (state c.in-Some.flow S.held es)
    (record { observed = (h0.observed, h0.live); same = refl }))
    (set_rest c.args.self.now c.set.new.self c.args.self.now.pool c.args.self.now.givers
    c.set.ensures.came c.set.ensures.stamps)
    c.set.ensures.states refl refl)) w
    h
