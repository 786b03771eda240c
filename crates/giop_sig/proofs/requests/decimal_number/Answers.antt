use Rattle.std.proofs.Common.{◌≡◌, ◌<◌, length, get_or, take, take_all, arith, sym}
use Rattle.std.proofs.lemmas.Bool.{eqb-true}
use Rattle.std.proofs.lemmas.Int.Digits.{digits_value_more, digits_more}
use Rattle.giop_sig.proofs.ListNumbers.{AllDigits-at, is_written, is_short, digit_is, is_digit_octet, value_small, is_number, is_some_length}
use Rattle.giop_sig.proofs.requests.decimal_number.Goals as goal
use Rattle.giop_sig.proofs.requests.decimal_number.Goals.{then-is_empty-via-then-is_empty, then-is_empty-via-else-is_empty+then-digits-gt10, else-digits-gt1-via-then-digits-gt1+else-digits-eq48, else-digits-gt1-via-else-digits-gt1}

pub returns-then-is_empty : goal.returns-then-is_empty
returns-then-is_empty c = λ n lt e.
    let some = (is_written c.args.digits.now n (omega arith) e).some in
    let short = is_short 10 c.args.digits.now n (omega arith) (omega arith) (omega arith) e in
    elim c.then-is_empty.branch [
      | then-is_empty-via-then-is_empty v ↦
          omega (arith, eqb-true (length c.args.digits.now) 0 (sym v.if-is_empty.ensures))
      | then-is_empty-via-else-is_empty+then-digits-gt10 v ↦ omega (arith, short)
    ]

pub returns-then-digits-eq48 : goal.returns-then-digits-eq48
returns-then-digits-eq48 c = λ n lt e.
    let one = (is_written c.args.digits.now n (omega arith) e).leading c.if-digits-eq48.true in
    omega (arith, one)

pub returns-then-not-is_ascii_digit : goal.returns-then-not-is_ascii_digit
returns-then-not-is_ascii_digit c = λ n lt e.
    let w = is_written c.args.digits.now n (omega arith) e in
    let d = is_digit_octet (get_or c.args.digits.now c.loop-d.d-index 0)
    (AllDigits-at c.args.digits.now c.loop-d.d-index w.digits c.loop-d-test.true) in
    let t = c.if-not-is_ascii_digit.ensures.cases in
    omega (arith, t, d)

pub overflow_mul-n : goal.overflow_mul-n
overflow_mul-n c =
    let b = value_small c.args.digits.now c.loop-d.d-index c.loop-d-test.true c.if-digits-gt10.false
    c.loop-d.invariant.digits in
    omega (arith, b)

pub overflow_add-n : goal.overflow_add-n
overflow_add-n c =
    let b = value_small c.args.digits.now c.loop-d.d-index c.loop-d-test.true c.if-digits-gt10.false
    c.loop-d.invariant.digits in
    let t = c.if-not-is_ascii_digit.ensures.cases in
    omega (arith, b, t, c.from.ensures)

pub loop-d-preserved : goal.loop-d-preserved
loop-d-preserved c =
    let t = c.if-not-is_ascii_digit.ensures.cases in
    let v = digit_is (get_or c.args.digits.now c.loop-d.d-index 0) t.0 t.1 in
    record {
      digits = digits_more 10 c.args.digits.now c.loop-d.d-index c.loop-d-test.true
          c.loop-d.invariant.digits c.if-not-is_ascii_digit.ensures.bound;
      value = omega (
        arith,
        digits_value_more 10 c.args.digits.now c.loop-d.d-index
            c.loop-d-test.true,
        v,
        c.from.ensures,
        c.loop-d.invariant.value,
      );
    }

pub returns : goal.returns
returns c =
    let ds = c.args.digits.now in
    let whole : take c.loop-d.d-index ds ≡ ds = take_all c.loop-d.d-index ds c.loop-d-test.false in
    let some : 0 < length ds = is_some_length (length ds) c.if-is_empty.ensures in
    let leading : get_or ds 0 0 ≡ 48 → length ds ≡ 1 = λ e. elim c.else-digits-gt1.branch [
      | else-digits-gt1-via-then-digits-gt1+else-digits-eq48 v ↦ absurd (v.if-digits-eq48.false e)
      | else-digits-gt1-via-else-digits-gt1 v ↦ omega (arith, some)
    ] in
    rw c.ok.ensures.value (is_number ds c.loop-d.n c.try_from.result (omega arith)
    (record {
      some = some;
      digits = rw whole at c.loop-d.invariant.digits;
      value = sym (rw whole at c.loop-d.invariant.value);
      leading = leading;
    }) c.try_from.ensures)
