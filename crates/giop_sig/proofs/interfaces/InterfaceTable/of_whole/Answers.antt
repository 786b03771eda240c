use Rattle.std.proofs.Common.{sym, subst, arith}
use Rattle.giop_sig.specs.Interfaces.{hex}
use Rattle.giop_sig.specs.InterfaceViews.{AreInterfacesKept}
use Rattle.giop_sig.proofs.InterfaceLaws.{hex_long, long_none}
use Rattle.giop_sig.proofs.interfaces.InterfaceTable.of_whole.Goals as goal

pub returns-then-key-gt-WHOLE_MAX : goal.returns-then-key-gt-WHOLE_MAX
returns-then-key-gt-WHOLE_MAX c =
    let is = subst (AreInterfacesKept c.self.inside.sizes) c.self.view_is c.self.invariant in
    sym (long_none c.args.self.now (hex c.args.key.now) is.keys
    (omega (arith, hex_long c.args.key.now)))
