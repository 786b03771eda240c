use Rattle.std.proofs.Common.{◌≡◌, ◌-◌, map}
use Rattle.giop_sig.specs.Repeats.{in_steps}
use Rattle.giop_sig.specs.CallReading.{param_step, too_many_params, only_returned}
use Rattle.giop_sig.specs.ParameterViews.{parameter_lists_view}
use Rattle.giop_sig.specs.UnionCases.{part_view}
use Rattle.giop_sig.proofs.read_calls.params_run.Given as goal

abbrev pub invariant-loop : goal.invariant-loop
invariant-loop l =
    in_steps param_step too_many_params (256 - l.counter)
    (l.draft, parameter_lists_view l.parameters, l.rest)
    ≡ in_steps param_step too_many_params 256
    (l.fn.draft, only_returned (map part_view l.fn.returned.items), l.text)
