use Rattle.std.proofs.Common.{◌≤◌, length, subst, sym}
use Rattle.giop_sig.specs.Interfaces.{Interfaces}
use Rattle.giop_sig.specs.InterfaceViews.{AreInterfacesKept}
use Rattle.giop_sig.proofs.InterfaceLaws.{name_put, name_kept}
use Rattle.giop_sig.proofs.interfaces.InterfaceTable.add.Goals as goal

pub returns-clause-added : goal.returns-clause-added
returns-clause-added c =
    let key = rw c.unwrap-key.ensures at c.try_from.ensures in
    name_put c.args.self.now c.self.inside.names.keys c.insert_full.new.self.keys
    c.self.inside.keys.entries c.unwrap-key.result c.args.id.now c.self.view_is key.0
    c.in_ok-insert_full.ensures.keys

pub invariant_of-self-2 : goal.invariant_of-self-2
invariant_of-self-2 c =
    let key = rw c.unwrap-key.ensures at c.try_from.ensures in
    let put = name_put c.args.self.now c.self.inside.names.keys c.insert_full.new.self.keys
    c.self.inside.keys.entries c.unwrap-key.result c.args.id.now c.self.view_is key.0
    c.in_ok-insert_full.ensures.keys in
    subst (AreInterfacesKept c.self.inside.sizes) (sym put)
    (name_kept c.self.inside.sizes c.args.self.now c.args.id.now
    (subst (AreInterfacesKept c.self.inside.sizes) c.self.view_is c.self.invariant)
    c.requires.short c.requires.few)

pub returns-clause-many : goal.returns-clause-many
returns-clause-many c =
    let key = rw c.unwrap-key.ensures at c.try_from.ensures in
    let put = name_put c.args.self.now c.self.inside.names.keys c.insert_full.new.self.keys
    c.self.inside.keys.entries c.unwrap-key.result c.args.id.now c.self.view_is key.0
    c.in_ok-insert_full.ensures.keys in
    let is = name_kept c.self.inside.sizes c.args.self.now c.args.id.now
    (subst (AreInterfacesKept c.self.inside.sizes) c.self.view_is c.self.invariant)
    c.requires.short c.requires.few in
    subst (λ (i : Interfaces). length i.names ≤ 1024) (sym put) is.few
