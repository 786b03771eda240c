use Rattle.std.proofs.Common.{◌≡◌, ◌≤◌, ◌-◌, ℕ, true, List, length, sym, ◌∙◌, subst, arith, length-drop}
use Rattle.tcp_flow.specs.Flow.{chain_from, is_chain}
use Rattle.tcp_flow.proofs.Chains.{some_octets, no_octets, chain_over, chain_broken, chain_cut, chain_on}
use Rattle.tcp_flow.proofs.Lefts.{whole_tail}
use Rattle.tcp_flow.proofs.looking.is_chain.Goals as goal

pub returns-then-not-may_be_header : goal.returns-then-not-may_be_header
returns-then-not-may_be_header c =
    let i = c.loop-rest.invariant in
    let xs = c.loop-rest.rest.now in
    let some = some_octets xs (sym c.is_empty.ensures ∙ c.loop-rest-test.true) in
    sym (chain_broken i.0 c.loop-rest.whole xs some i.1.0
    (sym c.may_be_header.ensures ∙ c.if-not-may_be_header.true)) ∙ i.1.1

pub returns-in_default : goal.returns-in_default
returns-in_default c =
    let i = c.loop-rest.invariant in
    let xs = c.loop-rest.rest.now in
    let some = some_octets xs (sym c.is_empty.ensures ∙ c.loop-rest-test.true) in
    sym (chain_cut i.0 c.loop-rest.whole xs some i.1.0
    (sym c.may_be_header.ensures ∙ c.if-not-may_be_header.false)
    (sym c.message_end.ensures.end ∙ c.in_default.is)) ∙ i.1.1

pub loop-rest-preserved : goal.loop-rest-preserved
loop-rest-preserved c =
    let i = c.loop-rest.invariant in
    let xs = c.loop-rest.rest.now in
    let end : ℕ = c.in-Some.end in
    let some = some_octets xs (sym c.is_empty.ensures ∙ c.loop-rest-test.true) in
    subst (λ (ys : List ℕ). (count : ℕ) × ((length ys ≤ count)
    × (chain_from count true ys ≡ is_chain c.args.octets.now)))
    (sym (whole_tail xs end)) (
      i.0 - 1,
      (
        omega (
          arith,
          i.1.0,
          length-drop end xs,
          c.in-Some.ensures.within.0,
          c.in-Some.ensures.within.1,
        ),
        sym (chain_on i.0 c.loop-rest.whole xs end some i.1.0
            (sym c.may_be_header.ensures ∙ c.if-not-may_be_header.false)
            (sym c.message_end.ensures.end ∙ c.in-Some.is)) ∙ i.1.1,
      ),
    )

pub returns : goal.returns
returns c =
    let i = c.loop-rest.invariant in
    let xs = c.loop-rest.rest.now in
    sym (chain_over i.0 c.loop-rest.whole xs
    (no_octets xs (sym c.is_empty.ensures ∙ c.loop-rest-test.false))) ∙ i.1.1
