use Rattle.std.proofs.Common.{length, sym, subst, ◌∙◌}
use Rattle.giop_sig.specs.Interfaces.{whole_text}
use Rattle.giop_sig.specs.InterfaceViews.{AreInterfacesKept}
use Rattle.giop_sig.proofs.InterfaceLaws.{none_of_key, text_known, longest_among}
use Rattle.giop_sig.proofs.interfaces.InterfaceTable.of_key.Goals as goal

pub returns-in-Some-clause-known : goal.returns-in-Some-clause-known
returns-in-Some-clause-known c =
    let is = subst (AreInterfacesKept c.self.inside.sizes) c.self.view_is c.self.invariant in
    text_known c.args.self.now (whole_text c.args.key.now) c.in-Some.interface.0 is.keys
    (sym c.in-Some.ensures)

pub returns-in-None-clause-known : goal.returns-in-None-clause-known
returns-in-None-clause-known c =
    let is = subst (AreInterfacesKept c.self.inside.sizes) c.self.view_is c.self.invariant in
    longest_among c.args.self.now c.args.key.now (length c.args.key.now)
    c.of_longest_front.result is.keys c.of_longest_front.ensures

pub returns-then-keys_len-eq0-clause-is : goal.returns-then-keys_len-eq0-clause-is
returns-then-keys_len-eq0-clause-is c =
    none_of_key c.args.self.now c.args.key.now (sym c.keys_len.ensures ∙ c.if-keys_len-eq0.true)
