use Rattle.std.proofs.Common.{◌∙◌, ap, refl}
use Rattle.std.specs.Option.{option_map}
use Rattle.giop_sig.specs.declared.types.InterfaceId.{InterfaceId}
use Rattle.giop_sig.specs.Interfaces.{Interfaces}
use Rattle.giop_sig.proofs.InterfaceLaws.{text_found}
use Rattle.giop_sig.proofs.interfaces.InterfaceTable.of_text.Goals as goal

pub returns-in_err-get : goal.returns-in_err-get
returns-in_err-get c =
    ap (option_map (λ (i : InterfaceId). i.0)) c.from_residual.ensures
    ∙ text_found c.args.self.now c.self.inside.keys.entries c.args.text.now c.args.text.now.items _
    (ap (λ (i : Interfaces). i.keys) c.self.view_is) refl c.in_err-get.ensures.value

pub returns : goal.returns
returns c =
    text_found c.args.self.now c.self.inside.keys.entries c.args.text.now c.args.text.now.items _
    (ap (λ (i : Interfaces). i.keys) c.self.view_is) refl c.in_ok-get.ensures.value
