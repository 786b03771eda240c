use Rattle.std.proofs.Common.{◌≡◌, ◌^◌, ◌<◌, take}
use Rattle.giop_print.specs.Text.{hex_number}
use Rattle.giop_lines.proofs.numbers.number_of_hex_digits.Given as goal

abbrev pub invariant-loop-octet : goal.invariant-loop-octet
invariant-loop-octet l =
    record {
      small : l.n < 16 ^ l.octet-index;
      spelled : take l.octet-index l.digits ≡ hex_number l.octet-index l.n;
    }
