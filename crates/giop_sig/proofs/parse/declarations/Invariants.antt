use Rattle.std.proofs.Common.{◌≡◌, ◌-◌}
use Rattle.giop_sig.specs.Repeats.{in_steps}
use Rattle.giop_sig.specs.FileReading.{declarations_step, misplaced_after}
use Rattle.giop_sig.proofs.parse.declarations.Given as goal

abbrev pub invariant-loop : goal.invariant-loop
invariant-loop l =
    in_steps declarations_step misplaced_after (l.steps - l.counter)
    (l.draft, l.lefts.items, l.rest)
    ≡ in_steps declarations_step misplaced_after l.steps (l.fn.draft, l.fn.lefts.items, l.text)
