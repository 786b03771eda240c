use Rattle.std.proofs.Common.{◌≤◌, length}
use Rattle.giop_lines.proofs.reading.is_unknown_word.Given as goal

abbrev pub invariant-loop-i : goal.invariant-loop-i
invariant-loop-i l = l.first ≤ length l.word
