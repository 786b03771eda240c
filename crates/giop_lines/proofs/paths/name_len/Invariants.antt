use Rattle.std.proofs.Common.{◌≡◌, ◌+◌, drop}
use Rattle.std.specs.List.{prefix_len}
use Rattle.giop_lines.specs.Names.{is_name_octet}
use Rattle.giop_lines.proofs.paths.name_len.Given as goal

abbrev pub invariant-loop-i : goal.invariant-loop-i
invariant-loop-i l =
    l.i + prefix_len is_name_octet (drop l.i l.text) ≡ prefix_len is_name_octet l.text
