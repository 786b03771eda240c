use Rattle.std.proofs.Common.{get_or, arith}
use Rattle.std.proofs.lemmas.Int.Digits.{digits_value_more, digits_more}
use Rattle.giop_tokens.proofs.Digits.{digit_at, digit_bounds, digit_is, digit_small, value_small}
use Rattle.giop_tokens.proofs.numbers.decimal_value.Goals as goal

pub overflow_mul-n : goal.overflow_mul-n
overflow_mul-n c =
    let b = value_small c.args.digits.now c.loop-d.d-index c.loop-d-test.true c.requires.few
    c.loop-d.invariant.digits in
    omega (arith, b, c.loop-d.invariant.value)

pub overflow_add-n : goal.overflow_add-n
overflow_add-n c =
    let b = value_small c.args.digits.now c.loop-d.d-index c.loop-d-test.true c.requires.few
    c.loop-d.invariant.digits in
    let d = digit_bounds (get_or c.args.digits.now c.loop-d.d-index 0)
    (digit_at c.args.digits.now c.loop-d.d-index c.requires.some c.loop-d-test.true) in
    omega (arith, b, d, c.from.ensures, c.loop-d.invariant.value)

pub loop-d-preserved : goal.loop-d-preserved
loop-d-preserved c =
    let t = digit_at c.args.digits.now c.loop-d.d-index c.requires.some c.loop-d-test.true in
    let v = digit_is (get_or c.args.digits.now c.loop-d.d-index 0) t in
    record {
      digits = digits_more 10 c.args.digits.now c.loop-d.d-index c.loop-d-test.true
          c.loop-d.invariant.digits (digit_small (get_or c.args.digits.now c.loop-d.d-index 0) t);
      value = omega (
        arith,
        digits_value_more 10 c.args.digits.now c.loop-d.d-index
            c.loop-d-test.true,
        v,
        c.from.ensures,
        c.loop-d.invariant.value,
      );
    }
