use Rattle.std.proofs.Common.{◌∙◌, ap, sym, subst}
use Rattle.giop_sig.specs.Interfaces.{Interfaces}
use Rattle.giop_sig.specs.InterfaceViews.{AreInterfacesKept}
use Rattle.giop_sig.proofs.InterfaceLaws.{name_found, long_name}
use Rattle.giop_sig.proofs.interfaces.InterfaceTable.named.Goals as goal

pub returns-then-id-gt-ID_MAX-clause-is : goal.returns-then-id-gt-ID_MAX-clause-is
returns-then-id-gt-ID_MAX-clause-is c =
    let is = subst (AreInterfacesKept c.self.inside.sizes) c.self.view_is c.self.invariant in
    long_name c.args.self.now c.args.id.now is.short c.if-id-gt-ID_MAX.true

pub returns-in_err-index-clause-is : goal.returns-in_err-index-clause-is
returns-in_err-index-clause-is c =
    let key = rw c.unwrap-key.ensures at c.try_from.ensures in
    c.from_residual.ensures ∙ name_found c.args.self.now c.self.inside.names.keys
    c.unwrap-key.result c.args.id.now _ (ap (λ (i : Interfaces). i.names) c.self.view_is) key.0
    (sym c.in_err-index.was ∙ c.get_index_of.ensures.index)

pub returns-clause-is : goal.returns-clause-is
returns-clause-is c =
    let key = rw c.unwrap-key.ensures at c.try_from.ensures in
    name_found c.args.self.now c.self.inside.names.keys c.unwrap-key.result c.args.id.now _
    (ap (λ (i : Interfaces). i.names) c.self.view_is) key.0
    (sym c.in_ok-index.was ∙ c.get_index_of.ensures.index)
