use Rattle.std.proofs.Common.{◌≡◌, ◌<◌, ◌^◌, take, reverse}
use Rattle.giop_cdr.specs.Numbers.{little_endian_number}
use Rattle.giop_cdr.proofs.number.heaviest_first.Given as goal

abbrev pub invariant-loop-octet : goal.invariant-loop-octet
invariant-loop-octet l = record {
  is : l.n ≡ little_endian_number (reverse (take l.octet-index l.octets));
  bound : l.n < 256 ^ l.octet-index;
}
