use Rattle.std.proofs.Common.{◌≡◌, ◌+◌, ◌-◌, ◌≤◌, ◌<◌, ◌∷◌, length, drop, decimal, ap, ◌∙◌, arith, rules}
use Rattle.std.proofs.lemmas.Fmt.{length-decimal-le}
use Rattle.std.proofs.lemmas.List.{drop-set}
use Rattle.giop_conversation.proofs.tag.stream_tag.Goals as goal

pub write_digits-at-requires : goal.write_digits-at-requires
write_digits-at-requires c =
    let few : length (decimal c.args.number) ≤ 20 =
    length-decimal-le 20 c.args.number (omega arith) (omega arith) c.ranges.number.fits in
    (omega (arith, few), search rules)

pub overflow_sub-at : goal.overflow_sub-at
overflow_sub-at c =
    let few : length (decimal c.args.number) ≤ 20 =
    length-decimal-le 20 c.args.number (omega arith) (omega arith) c.ranges.number.fits in
    omega (arith, few, c.write_digits-at.ensures.start)

pub returns : goal.returns
returns c =
    let few : length (decimal c.args.number) ≤ 20 =
    length-decimal-le 20 c.args.number (omega arith) (omega arith) c.ranges.number.fits in
    let start = c.write_digits-at.ensures.start in
    let digits = c.write_digits-at.new.buf in
    let first = c.write_digits-at.result in
    let next : first - 1 + 1 ≡ first = omega (arith, few, start) in
    let within : first - 1 < length digits = search rules in
    let same : 32 - (32 - (first - 1)) ≡ first - 1 = omega (arith, few, start) in
    rw same (drop-set digits (first - 1) 115 within
    ∙ ap (λ t. 115 ∷ t) (ap (λ k. drop k digits) next ∙ c.write_digits-at.ensures.written))
