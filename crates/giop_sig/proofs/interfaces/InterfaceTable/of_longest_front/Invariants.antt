use Rattle.std.proofs.Common.{◌≡◌}
use Rattle.std.specs.Option.{option_map}
use Rattle.giop_sig.specs.Interfaces.{longest_front}
use Rattle.giop_sig.proofs.interfaces.InterfaceTable.of_longest_front.Given as goal

abbrev pub invariant-loop-size : goal.invariant-loop-size
invariant-loop-size l = option_map (λ i. i.0) l.found ≡ longest_front l.self l.key l.size
