use Rattle.std.proofs.Common.{◌∙◌, ap}
use Rattle.giop_sig.specs.Interfaces.{Interfaces}
use Rattle.giop_sig.proofs.InterfaceLaws.{name_held}
use Rattle.giop_sig.proofs.interfaces.InterfaceTable.has.Goals as goal

pub returns : goal.returns
returns c =
    let key = rw c.unwrap-key.ensures at c.try_from.ensures in
    c.contains.ensures ∙ name_held c.args.self.now c.self.inside.names.keys c.unwrap-key.result
    c.args.id.now (ap (λ (i : Interfaces). i.names) c.self.view_is) key.0
