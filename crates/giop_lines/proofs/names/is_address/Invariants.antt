use Rattle.std.proofs.Common.{◌≤◌}
use Rattle.giop_lines.proofs.names.is_address.Given as goal

abbrev pub invariant-loop-group : goal.invariant-loop-group
invariant-loop-group l = l.groups ≤ 4
