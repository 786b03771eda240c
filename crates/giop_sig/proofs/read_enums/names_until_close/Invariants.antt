use Rattle.std.proofs.Common.{◌≡◌, ◌-◌, map, []}
use Rattle.giop_sig.specs.Repeats.{in_steps}
use Rattle.giop_sig.specs.EnumReading.{names_step, too_many_names}
use Rattle.giop_sig.proofs.read_enums.names_until_close.Given as goal

abbrev pub invariant-loop : goal.invariant-loop
invariant-loop l =
    in_steps (names_step l.version_3) too_many_names (1025 - l.counter)
    (map (λ n. n.now) l.names.items, l.rest)
    ≡ in_steps (names_step l.version_3) too_many_names 1025 ([], l.fn.text)
