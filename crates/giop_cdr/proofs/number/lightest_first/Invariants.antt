use Rattle.std.proofs.Common.{◌≡◌, ◌-◌, ◌<◌, ◌≤◌, ◌^◌, length, drop}
use Rattle.giop_cdr.specs.Numbers.{little_endian_number}
use Rattle.giop_cdr.proofs.number.lightest_first.Given as goal

abbrev pub invariant-loop-left : goal.invariant-loop-left
invariant-loop-left l = record {
  within : l.left ≤ length l.octets;
  is : l.n ≡ little_endian_number (drop l.left l.octets);
  bound : l.n < 256 ^ (length l.octets - l.left);
}

abbrev pub decreases-loop-left : goal.decreases-loop-left
decreases-loop-left l = l.left
