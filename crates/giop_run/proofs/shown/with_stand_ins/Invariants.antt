use Rattle.std.proofs.Common.{◌≡◌, ◌++◌, string_bytes}
use Rattle.std.specs.Str.Iter.{chars_rest}
use Rattle.giop_run.specs.CommandLine.{with_stand_ins}
use Rattle.giop_run.proofs.shown.with_stand_ins.Given as goal

abbrev pub invariant-loop-letter : goal.invariant-loop-letter
invariant-loop-letter l =
    string_bytes l.marked ++ with_stand_ins (chars_rest l.letter-iterator)
    ≡ with_stand_ins l.fn.word
