use Rattle.std.proofs.Common.{◌∙◌, ap, sym}
use Rattle.std.specs.Option.{is_some, option_copied}
use Rattle.giop_sig.specs.declared.types.InterfaceId.{InterfaceId}
use Rattle.giop_sig.specs.Interfaces.{Interfaces}
use Rattle.giop_sig.proofs.InterfaceLaws.{text_found}
use Rattle.giop_sig.proofs.ScopeLaws.{some_copied, some_map}
use Rattle.giop_sig.proofs.interfaces.InterfaceTable.has_key.Goals as goal

pub returns : goal.returns
returns c =
    let key = rw c.unwrap-key.ensures at c.try_from.ensures in
    c.is_some.ensures ∙ some_copied c.get.result
    ∙ sym (some_map (λ (x : InterfaceId). x.0) (option_copied c.get.result))
    ∙ ap is_some (text_found c.args.self.now c.self.inside.keys.entries c.unwrap-key.result
    c.args.text.now (option_copied c.get.result) (ap (λ (i : Interfaces). i.keys) c.self.view_is)
    key.0 c.get.ensures.value)
