use Rattle.std.proofs.Common.{ap}
use Rattle.giop_sig.specs.Interfaces.{Interfaces}
use Rattle.giop_sig.proofs.InterfaceLaws.{name_numbered, name_next}
use Rattle.giop_sig.proofs.interfaces.InterfaceTable.number_of.Goals as goal

pub returns-in-Some : goal.returns-in-Some
returns-in-Some c =
    let key = rw c.unwrap-key.ensures at c.try_from.ensures in
    name_numbered c.args.self.now c.self.inside.names.keys c.unwrap-key.result c.args.id.now
    c.in-Some.index (ap (λ (i : Interfaces). i.names) c.self.view_is) key.0 c.in-Some.ensures.index

pub returns-in-None : goal.returns-in-None
returns-in-None c =
    let key = rw c.unwrap-key.ensures at c.try_from.ensures in
    name_next c.args.self.now c.self.inside.names.keys c.unwrap-key.result c.args.id.now
    c.len.result (ap (λ (i : Interfaces). i.names) c.self.view_is) key.0 c.len.ensures.len
    c.in-None.ensures.index
