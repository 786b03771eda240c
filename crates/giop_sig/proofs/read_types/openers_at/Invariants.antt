use Rattle.std.proofs.Common.{◌≡◌, ◌-◌, [], length}
use Rattle.giop_sig.specs.Repeats.{in_steps}
use Rattle.giop_sig.specs.TypeReading.{openers_step, too_many_openers}
use Rattle.giop_sig.proofs.read_types.openers_at.Given as goal

abbrev pub invariant-loop : goal.invariant-loop
invariant-loop l =
    in_steps (openers_step l.draft) too_many_openers (length l.text - l.counter)
    (l.openers.items, l.rest)
    ≡ in_steps (openers_step l.draft) too_many_openers (length l.text) ([], l.text)
