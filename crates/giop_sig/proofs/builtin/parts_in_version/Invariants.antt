use Rattle.std.proofs.Common.{◌≡◌, map, take}
use Rattle.giop_sig.specs.Builtin.{number_in_version, renumbered_part}
use Rattle.giop_sig.specs.UnionCases.{part_view}
use Rattle.giop_sig.specs.Literals.{literal_part}
use Rattle.giop_sig.proofs.builtin.parts_in_version.Given as goal

abbrev pub invariant-loop-part : goal.invariant-loop-part
invariant-loop-part l = map part_view l.all.items
    ≡ map (renumbered_part (number_in_version l.version))
    (map literal_part (take l.part-index l.parts))
