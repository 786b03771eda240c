use Rattle.std.proofs.Common.{◌∙◌, sym, ap, arith, ℕ}
use Rattle.tcp_waiting.specs.Payload.{place_of}
use Rattle.tcp_waiting.proofs.Counts.{first_none}
use Rattle.tcp_waiting.proofs.Order.{first_oldest, first_number, first_nowhere}
use Rattle.tcp_waiting.proofs.pool.Pool.oldest_index.Goals as goal

pub returns-then-surely_holds_none : goal.returns-then-surely_holds_none
returns-then-surely_holds_none c = sym (first_none c.args.flow c.args.next c.args.self.now.held
    (c.surely_holds_none.ensures c.if-surely_holds_none.true))

pub returns-then-is_of_flow_at : goal.returns-then-is_of_flow_at
returns-then-is_of_flow_at c =
    let held = c.args.self.now.held in
    sym (first_oldest c.args.flow c.args.next held c.place-oldest.result
    (rw (← c.self.view_is) c.self.invariant.ordered) (rw (← c.self.view_is) c.self.invariant.small)
    (omega arith)
    (c.place-oldest.ensures.place ∙ ap (λ (k : ℕ). place_of k held) c.key.ensures)
    (sym c.is_of_flow_at.ensures ∙ c.if-is_of_flow_at.true))

pub returns-then-is_of_flow_at-2 : goal.returns-then-is_of_flow_at-2
returns-then-is_of_flow_at-2 c =
    let held = c.args.self.now.held in
    sym (first_number c.args.flow c.args.next held c.place-oldest.result c.place-least.result
    (rw (← c.self.view_is) c.self.invariant.ordered) (rw (← c.self.view_is) c.self.invariant.small)
    (omega arith)
    (c.place-oldest.ensures.place ∙ ap (λ (k : ℕ). place_of k held) c.key.ensures)
    (sym c.is_of_flow_at.ensures ∙ c.if-is_of_flow_at.false)
    (c.place-least.ensures.place ∙ ap (λ (k : ℕ). place_of k held) c.key-2.ensures)
    (sym c.is_of_flow_at-2.ensures ∙ c.if-is_of_flow_at-2.true))

pub returns : goal.returns
returns c =
    let held = c.args.self.now.held in
    sym (first_nowhere c.args.flow c.args.next held c.place-least.result
    (rw (← c.self.view_is) c.self.invariant.ordered) (rw (← c.self.view_is) c.self.invariant.small)
    (c.place-least.ensures.place ∙ ap (λ (k : ℕ). place_of k held) c.key-2.ensures)
    (sym c.is_of_flow_at-2.ensures ∙ c.if-is_of_flow_at-2.false))
