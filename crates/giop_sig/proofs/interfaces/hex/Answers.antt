use Rattle.std.proofs.Common.{ap, take, length, arith, lit≤}
use Rattle.std.proofs.Math.Seq.{take-suc}
use Rattle.std.proofs.lemmas.List.{length-take-le}
use Rattle.giop_sig.proofs.InterfaceLaws.{hex_long, hex_more}
use Rattle.giop_sig.proofs.interfaces.hex.Goals as goal

pub push-requires : goal.push-requires
push-requires c = (
  lit≤ tt,
  omega (
    arith,
    ap length c.loop-octet.invariant,
    hex_long (take c.loop-octet.octet-index c.args.octets.now),
    length-take-le c.loop-octet.octet-index c.args.octets.now (omega arith),
  ),
)

pub push-requires-in-loop-octet : goal.push-requires-in-loop-octet
push-requires-in-loop-octet c = (
  lit≤ tt,
  omega (
    arith,
    ap length c.loop-octet.invariant,
    hex_long (take c.loop-octet.octet-index c.args.octets.now),
    length-take-le c.loop-octet.octet-index c.args.octets.now (omega arith),
    c.push.ensures.len,
  ),
)

pub loop-octet-preserved : goal.loop-octet-preserved
loop-octet-preserved c = search (arith, take-suc, hex_more)
