use Rattle.std.proofs.Common.{◌≡◌, ◌+◌, ◌*◌, ◌^◌, add-one, pow-suc, refl, arith}
use Rattle.std.proofs.Math.Seq.{take-suc}
use Rattle.giop_lines.proofs.Digits.{hex_number_none, hex_number_more, below_16}
use Rattle.giop_lines.proofs.numbers.number_of_hex_digits.Goals as goal

pub loop-octet-init : goal.loop-octet-init
loop-octet-init c = record { small = omega arith; spelled = hex_number_none }

pub overflow_mul-n : goal.overflow_mul-n
overflow_mul-n c =
    omega (
      arith,
      below_16 c.loop-octet.n c.loop-octet.octet-index c.loop-octet.invariant.small
          (omega arith),
    )

pub overflow_add-n : goal.overflow_add-n
overflow_add-n c =
    omega (
      arith,
      below_16 c.loop-octet.n c.loop-octet.octet-index c.loop-octet.invariant.small (omega arith),
      c.in_ok-hex_digit_value.ensures.1,
      c.from.ensures,
    )

pub loop-octet-preserved : goal.loop-octet-preserved
loop-octet-preserved c =
    let n = c.loop-octet.n in
    let i = c.loop-octet.octet-index in
    let d = c.in_ok-hex_digit_value.field-0 in
    let same : c.from.result ≡ d = omega (arith, c.from.ensures) in
    let power : 16 ^ (i + 1) ≡ 16 ^ i * 16 = rw (add-one, pow-suc) (omega arith) in
    record {
      small = omega (
        arith,
        power,
        same,
        c.in_ok-hex_digit_value.ensures.1,
        c.loop-octet.invariant.small,
      );
      spelled = rw (
        add-one,
        take-suc c.args.digits.now i 0 c.loop-octet-test.true,
        c.loop-octet.invariant.spelled,
        same,
        c.in_ok-hex_digit_value.ensures.0,
        hex_number_more i n d c.in_ok-hex_digit_value.ensures.1,
      ) refl;
    }
