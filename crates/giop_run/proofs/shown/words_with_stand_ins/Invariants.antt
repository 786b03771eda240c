use Rattle.std.proofs.Common.{◌≡◌, take, map, string_bytes}
use Rattle.giop_run.specs.CommandLine.{with_stand_ins}
use Rattle.giop_run.proofs.shown.words_with_stand_ins.Given as goal

abbrev pub invariant-loop-word : goal.invariant-loop-word
invariant-loop-word l =
    map string_bytes l.marked.items
    ≡ map (λ word. with_stand_ins (string_bytes word)) (take l.word-index l.words)
