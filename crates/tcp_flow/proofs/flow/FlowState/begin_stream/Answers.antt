use Rattle.std.proofs.Common.{◌∷◌, ◌++◌, [], refl, subst}
use Rattle.tcp_flow.specs.declared.flow.Start.{Start}
use Rattle.tcp_flow.specs.Flow.{Begins, with_event, started}
use Rattle.tcp_flow.specs.State.{IsState}
use Rattle.tcp_flow.proofs.States.{by_state}
use Rattle.tcp_flow.proofs.flow.FlowState.begin_stream.Goals as goal

pub returns-clause-does : goal.returns-clause-does
unfolding with_event
returns-clause-does g c held f h =
    let s = c.args.self.now in
    let n = c.args.number in
    let O = g.T.Listener.observed c.on_begin.new.self in
    let G = IsState O _ held in
    by_state (λ f. G (started f n)) _ s held f h (λ events o.
    record {
      observed = subst (λ (x : Start). O (events ++ Begins s.id x ∷ [])) c.start_at-start.ensures
          (c.in_ok-on_begin.ensures.does events o);
      same = rw c.start_at-start.ensures refl;
    })
