use Rattle.std.proofs.Common.{◌≡◌, take}
use Rattle.std.specs.Fmt.{HasWritten, IsPlainFormatter}
use Rattle.giop_run.specs.CommandLine.{escaped_with_stand_ins}
use Rattle.giop_run.proofs.shown.EscapingWrite.write_str.Given as goal

abbrev pub invariant-loop-octet : goal.invariant-loop-octet
invariant-loop-octet g l =
    (IsPlainFormatter l.fn.self.0.now
    → HasWritten g.W.Write.write_str_gives l.fn.self.0.now
    (escaped_with_stand_ins (take l.octet-index l.text)) l.self.0.now)
    × (l.self.0.ghost_name ≡ l.fn.self.0.ghost_name)
