use Rattle.std.proofs.Common.{◌^◌, sym, ◌∙◌, ap, arith, nat_lt}
use Rattle.std.proofs.lemmas.Bool.{and_parts, ltb-true}
use Rattle.tcp_waiting.specs.Numbers.{ahead}
use Rattle.tcp_waiting.specs.Payload.{Payload, no_payload}
use Rattle.tcp_waiting.specs.Layout.{held_in}
use Rattle.tcp_waiting.proofs.Ends.{far_on, all_ahead}
use Rattle.tcp_waiting.proofs.Held.{get_held, length_held}
use Rattle.tcp_waiting.proofs.Order.{first_at}
use Rattle.tcp_waiting.proofs.pool.Pool.only_maybe_beyond_window.Goals as goal

pub at-requires : goal.at-requires
at-requires c =
    let first = first_at c.args.flow c.args.next c.args.self.now.held _
    (sym c.oldest_index.ensures ∙ c.in-Some-oldest_index.is) in
    rw (← c.self.view_is, length_held) at first.within

pub returns-then-is_to_come : goal.returns-then-is_to_come
returns-then-is_to_come c =
    let a = c.self.inside in
    let held = held_in a.octets.items a.waiting.items in
    let first = first_at c.args.flow c.args.next held _
    (rw (← c.self.view_is) at (sym c.oldest_index.ensures ∙ c.in-Some-oldest_index.is)) in
    let same = get_held a.octets.items a.waiting.items _ _ no_payload
    (rw length_held at first.within) c.at.ensures in
    let to_come = and_parts (nat_lt 0 (ahead c.args.next c.at.result.number))
    (nat_lt (ahead c.args.next c.at.result.number) (2 ^ 31))
    (sym c.is_to_come.ensures ∙ c.if-is_to_come.true) in
    rw (← c.self.view_is) (far_on c.args.flow c.in-Some.near.base c.args.next
    c.in-Some.near.number c.in-Some.near.count held (omega (arith, c.ranges.next.fits))
    (omega (arith, c.ahead.ensures, c.if-ahead-le2147483648.true)) c.self.invariant.small
    (all_ahead c.args.flow c.args.next held _ first (omega (
      arith,
      ltb-true _ _ to_come.1,
      ap (λ (p : Payload). ahead c.args.next p.number) same,
    ))) (rw (← c.self.view_is) at c.in-Some.ensures))
