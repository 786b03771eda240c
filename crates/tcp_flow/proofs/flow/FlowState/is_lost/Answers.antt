use Rattle.std.proofs.Common.{◌<◌, ℕ, false, get_or, length, sym, ◌∙◌, ap}
use Rattle.std.specs.Prelude.{Option, Some, None}
use Rattle.tcp_waiting.specs.Payload.{oldest_index, no_payload}
use Rattle.tcp_waiting.proofs.Order.{first_within}
use Rattle.tcp_flow.specs.Flow.{at, oldest_held, gives_up, is_lost}
use Rattle.tcp_flow.proofs.Early.{first_kept}
use Rattle.tcp_flow.proofs.flow.FlowState.is_lost.Goals as goal

pub arrival-requires : goal.arrival-requires
arrival-requires c =
    let within : c.in-Some.first < length c.args.pool.now.held =
    rw (sym c.oldest_index.ensures ∙ c.in-Some.is) at
    (first_within c.args.self.now.id c.args.self.now.next c.args.pool.now.held) in
    within

pub returns-then-surely_gives_up_nothing : goal.returns-then-surely_gives_up_nothing
unfolding at oldest_held is_lost
returns-then-surely_gives_up_nothing c events =
    let held = c.args.pool.now.held in
    sym (first_kept c.args.packet c.args.self.now.next (oldest_index c.args.self.now.id
    c.args.self.now.next held) held (first_within c.args.self.now.id c.args.self.now.next held)
    (c.surely_gives_up_nothing.ensures c.if-surely_gives_up_nothing.true))

pub returns-in-Some : goal.returns-in-Some
unfolding at oldest_held is_lost
returns-in-Some c events =
    c.gives_up.ensures ∙ ap (gives_up c.args.packet c.args.self.now.next) c.arrival.ensures
    ∙ sym (ap (λ (o : Option ℕ). elim o [
      | None ↦ false
      | Some i ↦ gives_up c.args.packet c.args.self.now.next
          (get_or c.args.pool.now.held i no_payload).arrival
    ]) (sym c.oldest_index.ensures ∙ c.in-Some.is))

pub returns-in-None : goal.returns-in-None
unfolding at oldest_held is_lost
returns-in-None c events =
    sym (ap (λ (o : Option ℕ). elim o [
      | None ↦ false
      | Some i ↦ gives_up c.args.packet c.args.self.now.next
          (get_or c.args.pool.now.held i no_payload).arrival
    ]) (sym c.oldest_index.ensures ∙ c.in-None.is))
