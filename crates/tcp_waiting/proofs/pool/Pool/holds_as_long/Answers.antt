use Rattle.std.proofs.Common.{◌<◌, length, ◌∙◌, sym, ap, arith, ℕ, nat_eq}
use Rattle.tcp_waiting.specs.Payload.{Payload, no_payload, place_of}
use Rattle.tcp_waiting.proofs.Counts.{has_none}
use Rattle.tcp_waiting.proofs.Held.{get_held, length_held}
use Rattle.tcp_waiting.proofs.Order.{has_by, has_nowhere, stands_own}
use Rattle.tcp_waiting.proofs.pool.Pool.holds_as_long.Goals as goal

pub returns-then-surely_holds_none : goal.returns-then-surely_holds_none
returns-then-surely_holds_none c = sym (has_none c.args.flow c.args.number c.args.count
    c.args.self.now.held (c.surely_holds_none.ensures c.if-surely_holds_none.true))

pub returns-else-is_of_flow_at : goal.returns-else-is_of_flow_at
returns-else-is_of_flow_at c =
    let held = c.args.self.now.held in
    c.if-is_of_flow_at.false
    ∙ sym (has_nowhere c.args.flow c.args.number c.args.count held c.search-place.result
    (rw (← c.self.view_is) c.self.invariant.ordered) (rw (← c.self.view_is) c.self.invariant.small)
    (c.search-place.ensures.place ∙ ap (λ (k : ℕ). place_of k held) c.key.ensures)
    (sym c.is_of_flow_at.ensures ∙ c.if-is_of_flow_at.false))

pub returns-then-is_of_flow_at : goal.returns-then-is_of_flow_at
returns-then-is_of_flow_at c =
    let held = c.args.self.now.held in
    let a = c.self.inside in
    let i = c.search-place.result in
    let d : Payload = no_payload in
    let at = sym c.is_of_flow_at.ensures ∙ c.if-is_of_flow_at.true in
    let within : i < length held = (stands_own i c.args.flow held at).0 in
    let l : i < length a.waiting.items =
    omega (arith, rw (← c.self.view_is) at within, length_held a.octets.items a.waiting.items) in
    sym (has_by c.args.flow c.args.number c.args.count held i
    (rw (← c.self.view_is) c.self.invariant.ordered) (rw (← c.self.view_is) c.self.invariant.small)
    (c.search-place.ensures.place ∙ ap (λ (k : ℕ). place_of k held) c.key.ensures) at
    ∙ rw (← c.self.view_is) (ap (λ (p : Payload). nat_eq p.number c.args.number)
    (get_held a.octets.items a.waiting.items i c.at.result d l c.at.ensures)))
