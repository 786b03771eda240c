use Rattle.std.proofs.Common.{◌≡◌, map, take}
use Rattle.giop_sig.proofs.builtin.copied_names.Given as goal

abbrev pub invariant-loop-name : goal.invariant-loop-name
invariant-loop-name l =
    map (λ n. n.items) l.all.items ≡ map (λ n. n.now) (take l.name-index l.names)
