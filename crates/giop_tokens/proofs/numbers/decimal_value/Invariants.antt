use Rattle.std.proofs.Common.{◌≡◌, take}
use Rattle.std.specs.Str.Parse.{AllDigits, digits_value}
use Rattle.giop_tokens.proofs.numbers.decimal_value.Given as goal

abbrev pub invariant-loop-d : goal.invariant-loop-d
invariant-loop-d l = record {
  digits : AllDigits 10 (take l.d-index l.digits);
  value : l.n ≡ digits_value 10 (take l.d-index l.digits);
}
