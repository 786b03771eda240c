use Rattle.std.proofs.Common.{◌+◌, true, false, Err, sym, ap, ◌∙◌, arith}
use Rattle.std.specs.Option.{is_some}
use Rattle.giop_sig.specs.Interfaces.{Interfaces, number_of}
use Rattle.giop_sig.specs.Table.{operation_key, operation_number_of_key}
use Rattle.giop_sig.specs.ParameterViews.{operation_structs_view}
use Rattle.giop_sig.proofs.InterfaceLaws.{number_few}
use Rattle.giop_sig.proofs.VariantLaws.{interface_takes, new_variant_is}
use Rattle.giop_sig.proofs.read_calls.operation_interface_at.Goals as goal

pub number_of-interface-requires : goal.number_of-interface-requires
number_of-interface-requires c = (interface_takes _ _ _ c.in_ok-id.ensures).short

pub overflow_add-interface : goal.overflow_add-interface
overflow_add-interface c =
    let few = number_few _ _ _ _ c.interfaces.ensures c.number_of-interface.ensures
    c.laws.ensures.table.interfaces_few (interface_takes _ _ _ c.in_ok-id.ensures).room in
    omega arith

pub has_operation-requires-clause-few : goal.has_operation-requires-clause-few
has_operation-requires-clause-few c =
    let few = number_few _ _ _ _ c.interfaces.ensures c.number_of-interface.ensures
    c.laws.ensures.table.interfaces_few (interface_takes _ _ _ c.in_ok-id.ensures).room in
    omega arith

pub returns-clause-few : goal.returns-clause-few
returns-clause-few c =
    let few = number_few _ _ _ _ c.interfaces.ensures c.number_of-interface.ensures
    c.laws.ensures.table.interfaces_few (interface_takes _ _ _ c.in_ok-id.ensures).room in
    omega arith

pub returns-then-has_operation-clause-gives : goal.returns-then-has_operation-clause-gives
returns-then-has_operation-clause-gives c =
    let t = c.args.draft.now.table in
    let number = c.number_of-interface.ensures
    ∙ ap (λ (i : Interfaces). number_of i c.in_ok-id.id.now) c.interfaces.ensures in
    let known =
    ap (λ n. is_some (operation_number_of_key t (operation_key (n + 1) c.args.called.name.now)))
    (sym number)
    ∙ sym c.has_operation.ensures ∙ c.if-has_operation.true in
    new_variant_is (operation_structs_view c.args.called) t c.args.text.now c.in_ok-id.id.now
    c.in_ok-id.rest.now true c.in_ok-id.ensures known ∙ ap Err (sym c.refused.ensures)

pub returns-clause-gives : goal.returns-clause-gives
returns-clause-gives c =
    let t = c.args.draft.now.table in
    let number = c.number_of-interface.ensures
    ∙ ap (λ (i : Interfaces). number_of i c.in_ok-id.id.now) c.interfaces.ensures in
    let known =
    ap (λ n. is_some (operation_number_of_key t (operation_key (n + 1) c.args.called.name.now)))
    (sym number)
    ∙ sym c.has_operation.ensures ∙ c.if-has_operation.false in
    new_variant_is (operation_structs_view c.args.called) t c.args.text.now c.in_ok-id.id.now
    c.in_ok-id.rest.now false c.in_ok-id.ensures known
