use Rattle.std.proofs.Common.{◌<◌, length, sym, subst}
use Rattle.giop_sig.specs.Interfaces.{Interfaces, number_of}
use Rattle.giop_sig.proofs.InterfaceLaws.{number_below}
use Rattle.giop_sig.proofs.interfaces.InterfaceTable.add_key.Goals as goal

pub put_key-requires-clause-known : goal.put_key-requires-clause-known
put_key-requires-clause-known c =
    rw c.number_of.ensures (subst (λ (i : Interfaces).
    number_of c.args.self.now c.args.id.now < length i.names) (sym c.in_ok-add.ensures.added)
    (number_below c.args.self.now c.args.id.now))
