use Rattle.std.proofs.Common.{sym, ap, ◌∙◌, subst}
use Rattle.giop_sig.specs.Table.{Table, operation_key}
use Rattle.giop_sig.specs.HeaderTypes.{IsTable}
use Rattle.giop_sig.proofs.Finds.{no_operation_long, operation_found}
use Rattle.giop_sig.proofs.catalogue.Catalogue.operation_in_interface.Goals as goal

pub returns-then-name-gt128-clause-is : goal.returns-then-name-gt128-clause-is
returns-then-name-gt128-clause-is c =
    no_operation_long c.args.self.now c.args.interface c.args.name.now
    (subst IsTable c.self.view_is c.self.invariant) c.if-name-gt128.true

pub returns-in_err-index-clause-is : goal.returns-in_err-index-clause-is
returns-in_err-index-clause-is c =
    c.from_residual.ensures ∙ operation_found c.self.inside.operations.entries
    c.args.self.now c.operation_key.result.items (operation_key c.args.interface c.args.name.now) _
    (ap (λ (t : Table). t.operations) c.self.view_is) c.operation_key.ensures
    (sym c.in_err-index.was ∙ c.get_index_of.ensures.index)

pub returns-clause-is : goal.returns-clause-is
returns-clause-is c =
    operation_found c.self.inside.operations.entries c.args.self.now c.operation_key.result.items
    (operation_key c.args.interface c.args.name.now) _
    (ap (λ (t : Table). t.operations) c.self.view_is) c.operation_key.ensures
    (sym c.in_ok-index.was ∙ c.get_index_of.ensures.index)
