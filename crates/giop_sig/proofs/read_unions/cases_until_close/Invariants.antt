use Rattle.std.proofs.Common.{◌≡◌, ◌-◌, ◌≤◌, length}
use Rattle.giop_sig.specs.Repeats.{in_steps}
use Rattle.giop_sig.specs.Labels.{cases_view}
use Rattle.giop_sig.specs.UnionReading.{no_cases, cases_step, too_many_cases}
use Rattle.giop_sig.proofs.read_unions.cases_until_close.Given as goal

abbrev pub invariant-loop : goal.invariant-loop
invariant-loop l = record {
  same : in_steps (cases_step l.fn.switch.0) too_many_cases (257 - l.counter)
      (l.draft, cases_view l.cases, l.rest)
      ≡ in_steps (cases_step l.fn.switch.0) too_many_cases 257
      (l.fn.draft, no_cases, l.fn.text);
  room : length l.cases.names.items ≤ l.counter;
}
