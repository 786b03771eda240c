use Rattle.std.proofs.Common.{◌≡◌, map, take}
use Rattle.giop_cdr.specs.declared.number.Number.TheVariants.{Unsigned}
use Rattle.giop_sig.proofs.builtin.kind_labels.Given as goal

abbrev pub invariant-loop-kind : goal.invariant-loop-kind
invariant-loop-kind l = l.labels.items ≡ map Unsigned (take l.kind-index l.kinds)
