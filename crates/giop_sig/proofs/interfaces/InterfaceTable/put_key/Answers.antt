use Rattle.std.proofs.Common.{subst, sym}
use Rattle.giop_sig.specs.InterfaceViews.{AreInterfacesKept}
use Rattle.giop_sig.proofs.InterfaceLaws.{key_put, key_kept}
use Rattle.giop_sig.proofs.interfaces.InterfaceTable.put_key.Goals as goal

pub returns-clause-added : goal.returns-clause-added
returns-clause-added c =
    let key = rw c.unwrap-key.ensures at c.try_from.ensures in
    key_put c.args.self.now c.self.inside.names.keys c.self.inside.keys.entries
    c.insert.new.self.entries c.unwrap-key.result c.args.interface c.args.text.now c.self.view_is
    key.0 c.requires.new c.in_ok-insert.ensures.entries

pub invariant_of-self-2 : goal.invariant_of-self-2
invariant_of-self-2 c =
    let key = rw c.unwrap-key.ensures at c.try_from.ensures in
    let put = key_put c.args.self.now c.self.inside.names.keys c.self.inside.keys.entries
    c.insert.new.self.entries c.unwrap-key.result c.args.interface c.args.text.now c.self.view_is
    key.0 c.requires.new c.in_ok-insert.ensures.entries in
    let is = subst (AreInterfacesKept c.self.inside.sizes) c.self.view_is c.self.invariant in
    subst (AreInterfacesKept _) (sym put)
    (key_kept c.self.inside.sizes c.args.self.now c.args.text.now c.args.interface.0 is
    c.requires.short c.requires.known)
