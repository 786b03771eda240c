use Rattle.std.proofs.Common.{◌≡◌, ◌<◌, ◌+◌, ℕ, length, get_or, Some, refl, sym, ap, ◌∙◌, arith}
use Rattle.std.proofs.lemmas.Bool.{eq-eqb, ne_eqb}
use Rattle.std.proofs.lemmas.List.{get_or_default}
use Rattle.std.specs.Option.{option_map}
use Rattle.tcp_streams.proofs.Order.{index_here, index_later, index_end}
use Rattle.tcp_streams.proofs.places.first_index_of.Goals as goal

pub returns-then-index-wanted : goal.returns-then-index-wanted
returns-then-index-wanted c =
    let xs = c.args.numbers.now.items in
    let i = c.loop-index.index in
    let l : i < length xs = omega arith in
    let own : get_or xs i 0 ≡ c.args.wanted =
    get_or_default xs i 0 c.index.result.now l ∙ sym c.index.ensures ∙ c.if-index-wanted.true in
    let z : i + 0 ≡ i = omega arith in
    sym (c.loop-index.invariant.1 ∙ ap (option_map (λ (k : ℕ). i + k))
    (index_here c.args.wanted xs i l (eq-eqb (get_or xs i 0) c.args.wanted own)) ∙ ap Some z)

pub loop-index-preserved : goal.loop-index-preserved
loop-index-preserved c =
    let xs = c.args.numbers.now.items in
    let i = c.loop-index.index in
    let l : i < length xs = omega arith in
    let at : get_or xs i 0 ≡ c.index.result.now =
    get_or_default xs i 0 c.index.result.now l ∙ sym c.index.ensures in (
      omega arith,
      c.loop-index.invariant.1
          ∙ index_later c.args.wanted xs i l (ne_eqb (get_or xs i 0) c.args.wanted
          (λ o. c.if-index-wanted.false (sym at ∙ o))),
    )

pub returns : goal.returns
returns c =
    sym (c.loop-index.invariant.1 ∙ rw (index_end c.args.wanted c.args.numbers.now.items
    c.loop-index.index (omega arith)) refl)
