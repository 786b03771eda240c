use Rattle.std.proofs.Common.{subst}
use Rattle.giop_sig.specs.InterfaceViews.{AreInterfacesKept}
use Rattle.giop_sig.proofs.InterfaceLaws.{key_known}
use Rattle.giop_sig.proofs.interfaces.InterfaceTable.laws.Goals as goal

pub returns : goal.returns
returns c key =
    let is = subst (AreInterfacesKept c.self.inside.sizes) c.self.view_is c.self.invariant in
    key_known c.args.self.now key is.keys
