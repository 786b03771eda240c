use Rattle.std.proofs.Common.{◌≡◌, take}
use Rattle.giop_sig.specs.AnyTypes.{first_types}
use Rattle.giop_sig.proofs.builtin.initial_types.Given as goal

abbrev pub invariant-loop-number : goal.invariant-loop-number
invariant-loop-number l = l.types ≡ take l.number (first_types l.version)
