use Rattle.std.proofs.Common.{sym, ap, subst, length, arith, lit≤}
use Rattle.giop_sig.specs.Interfaces.{front_text}
use Rattle.giop_sig.specs.InterfaceViews.{AreInterfacesKept}
use Rattle.giop_sig.proofs.InterfaceLaws.{hex_long, front_long, long_none}
use Rattle.giop_sig.proofs.interfaces.InterfaceTable.of_front.Goals as goal

pub returns-then-octets-ge-WHOLE_MAX : goal.returns-then-octets-ge-WHOLE_MAX
returns-then-octets-ge-WHOLE_MAX c =
    let is = subst (AreInterfacesKept c.self.inside.sizes) c.self.view_is c.self.invariant in
    sym (long_none c.args.self.now (front_text c.args.octets.now) is.keys
    (omega (arith, front_long c.args.octets.now)))

pub push-requires : goal.push-requires
push-requires c = (
  lit≤ tt,
  omega (arith, ap length c.hex-text.ensures, hex_long c.args.octets.now),
)
