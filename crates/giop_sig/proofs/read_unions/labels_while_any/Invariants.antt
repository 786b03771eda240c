use Rattle.std.proofs.Common.{◌≡◌, ◌-◌, false, []}
use Rattle.giop_sig.specs.Table.{node_at}
use Rattle.giop_sig.specs.Repeats.{in_steps}
use Rattle.giop_sig.specs.Scopes.{is_version_3}
use Rattle.giop_sig.specs.UnionReading.{labels_step, too_many_labels}
use Rattle.giop_sig.proofs.read_unions.labels_while_any.Given as goal

abbrev pub invariant-loop : goal.invariant-loop
invariant-loop l =
    in_steps (labels_step (is_version_3 l.fn.draft.names)
    (node_at l.fn.draft.table l.fn.switch.0)) too_many_labels
    (1025 - l.counter) (l.seen.items, l.own.items, l.default, l.rest)
    ≡ in_steps (labels_step (is_version_3 l.fn.draft.names)
    (node_at l.fn.draft.table l.fn.switch.0)) too_many_labels 1025
    (l.fn.seen.items, [], false, l.fn.text)
