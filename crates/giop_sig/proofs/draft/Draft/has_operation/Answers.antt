use Rattle.std.proofs.Common.{sym, ap, ◌∙◌}
use Rattle.std.specs.Option.{is_some}
use Rattle.giop_sig.specs.Table.{op_id, operation_key, operation_number_of_key}
use Rattle.giop_sig.specs.Scopes.{Scope}
use Rattle.giop_sig.proofs.Finds.{operation_found}
use Rattle.giop_sig.proofs.ScopeLaws.{some_map}
use Rattle.giop_sig.proofs.draft.Draft.has_operation.Goals as goal

pub returns : goal.returns
returns c =
    let name = operation_key c.args.interface c.args.name.now in
    c.is_some.ensures ∙ sym (some_map op_id c.get_index_of.result)
    ∙ ap is_some (operation_found c.self.inside.operations.entries c.args.self.now.table
    c.operation_key-key.result.items name c.get_index_of.result
    (ap (λ (s : Scope). s.table.operations) c.self.view_is) c.operation_key-key.ensures
    c.get_index_of.ensures.index)
    ∙ some_map op_id (operation_number_of_key c.args.self.now.table name)
