use Rattle.std.proofs.Common.{◌≡◌, ℕ, List, Some, true, sym, ap, subst, ◌∙◌}
use Rattle.tcp_waiting.specs.Numbers.{onward}
use Rattle.tcp_waiting.specs.Payload.{Payload}
use Rattle.tcp_flow.specs.declared.flow.CloseCause.TheVariants.{Gap}
use Rattle.tcp_flow.specs.declared.flow.FlowState.{FlowState}
use Rattle.tcp_flow.specs.Flow.{Flow, Event, closed, awaiting_stream, closed_for_gap}
use Rattle.tcp_flow.specs.State.{IsState}
use Rattle.tcp_flow.proofs.Room.{closed_next}
use Rattle.tcp_flow.proofs.flow.FlowState.close_for_gap.Goals as goal

-- a flow that waits, after one has closed its stream
waiting : (O : List Event → Type 0) (s : FlowState) (held : List Payload) (f : Flow) (count n : ℕ) →
    IsState O s held (closed f Gap) → n ≡ onward s.next count →
    IsState O (record s { next = n; live = Some n; waits = true }) held (awaiting_stream f count)
waiting O s held f count n h is =
    let next : s.next ≡ f.next = ap (λ (g : Flow). g.next) h.same ∙ closed_next f Gap in
    let due : n ≡ onward f.next count = is ∙ ap (λ (m : ℕ). onward m count) next in
    record {
      observed = h.observed;
      same = ap (λ (g : Flow). record g { next = n; live = Some n; waits = true }) h.same
          ∙ ap (λ (m : ℕ). record (closed f Gap) { next = m; live = Some m; waits = true }) due;
    }

pub returns-in-Some-clause-does : goal.returns-in-Some-clause-does
unfolding closed_for_gap
returns-in-Some-clause-does g c held f h =
    subst (λ o. IsState (g.T.Listener.observed c.close.new.to) (record c.close.new.self {
      next = c.onward-self.result;
      live = Some c.onward-self.result;
      waits = true;
    }) held (closed_for_gap f o)) (sym c.in-Some.is)
    (waiting _ c.close.new.self held f c.in-Some.count c.onward-self.result
    (c.in_ok-close.ensures.does held f h) c.onward-self.ensures)

pub returns-in_default-clause-does : goal.returns-in_default-clause-does
unfolding closed_for_gap
returns-in_default-clause-does g c held f h =
    subst (λ o. IsState (g.T.Listener.observed c.close.new.to) c.close.new.self held
    (closed_for_gap f o))
    (sym c.in_default.is)
    (c.in_ok-close.ensures.does held f h)
