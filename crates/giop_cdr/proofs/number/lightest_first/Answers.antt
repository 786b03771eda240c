use Rattle.std.proofs.Common.{◌≡◌, ◌+◌, ◌-◌, length, drop, arith, ap, ◌∙◌}
use Rattle.giop_cdr.specs.Numbers.{little_endian_number}
use Rattle.giop_cdr.proofs.Spelling.{spelled_small, spelled_bound, little_more}
use Rattle.giop_cdr.proofs.number.lightest_first.Goals as goal

pub overflow_mul-n : goal.overflow_mul-n
overflow_mul-n c = omega (
  arith,
  spelled_small _ c.loop-left.n c.loop-left.invariant.bound
      (omega arith),
)

pub overflow_add-n : goal.overflow_add-n
overflow_add-n c = omega (
  arith,
  spelled_small _ c.loop-left.n c.loop-left.invariant.bound
      (omega arith),
  c.type_inv.octets (c.loop-left.left - 1),
)

pub loop-left-preserved : goal.loop-left-preserved
loop-left-preserved c =
    let xs = c.args.octets.now in
    let i = c.loop-left.left - 1 in
    let e : c.loop-left.left ≡ i + 1 = omega arith in
    let k : length xs - i ≡ (length xs - c.loop-left.left) + 1 = omega arith in
    record {
      within = omega arith;
      is = little_more xs i c.loop-left.n c.from.result (omega arith)
          (c.loop-left.invariant.is ∙ ap (λ j. little_endian_number (drop j xs)) e) c.from.ensures;
      bound = rw k (spelled_bound _ c.loop-left.n c.from.result c.loop-left.invariant.bound
          (omega (arith, c.type_inv.octets i)));
    }
