use Rattle.std.proofs.Common.{◌≡◌, ◌-◌, length}
use Rattle.giop_sig.specs.Repeats.{in_steps}
use Rattle.giop_sig.specs.CallReading.{interface_step, too_many_interfaces}
use Rattle.giop_sig.specs.ParameterViews.{operation_structs_view, KeepsTypes}
use Rattle.giop_sig.proofs.read_calls.interfaces_at.Given as goal

abbrev pub invariant-loop : goal.invariant-loop
invariant-loop l =
    (in_steps (interface_step (operation_structs_view l.called)) too_many_interfaces
    (length l.text - l.counter)
    (l.draft, l.rest)
    ≡ in_steps (interface_step (operation_structs_view l.called)) too_many_interfaces
    (length l.text)
    (l.fn.draft, l.text)) × KeepsTypes l.fn.draft l.draft
