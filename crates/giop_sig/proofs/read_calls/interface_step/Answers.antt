use Rattle.std.proofs.Common.{ap, ◌∙◌}
use Rattle.giop_sig.specs.Scopes.{Scope}
use Rattle.giop_sig.specs.Table.{operation_key, operation_number_of_key}
use Rattle.giop_sig.proofs.VariantLaws.{new_variant_takes}
use Rattle.giop_sig.proofs.read_calls.interface_step.Goals as goal

pub add_interface-requires-clause-short : goal.add_interface-requires-clause-short
add_interface-requires-clause-short c =
    (new_variant_takes _ _ _ _ c.in_ok-interface.ensures.gives).interface.short

pub add_interface-requires-clause-few : goal.add_interface-requires-clause-few
add_interface-requires-clause-few c =
    (new_variant_takes _ _ _ _ c.in_ok-interface.ensures.gives).interface.room

pub add_operation-requires-clause-new : goal.add_operation-requires-clause-new
add_operation-requires-clause-new c =
    let name = c.args.called.name.now in
    ap (λ (s : Scope). operation_number_of_key s.table
    (operation_key c.in_ok-interface.interface name))
    c.in_ok-add_interface.ensures.added
    ∙ ap (λ n. operation_number_of_key c.args.draft.now.table (operation_key n name))
    c.in_ok-interface.ensures.number
    ∙ (new_variant_takes _ _ _ _ c.in_ok-interface.ensures.gives).new
