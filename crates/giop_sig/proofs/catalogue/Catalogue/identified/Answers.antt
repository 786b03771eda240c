use Rattle.std.proofs.Common.{ap, ◌∙◌, subst}
use Rattle.giop_sig.specs.Table.{Table}
use Rattle.giop_sig.specs.HeaderTypes.{IsTable}
use Rattle.giop_sig.proofs.Finds.{no_identity_long, identity_none, identity_found, identity_known}
use Rattle.giop_sig.proofs.catalogue.Catalogue.identified.Goals as goal

pub returns-in_err-key-clause-is : goal.returns-in_err-key-clause-is
returns-in_err-key-clause-is c =
    let long = rw c.in_err-key.was at c.name_if_short.ensures in
    c.from_residual.ensures ∙ no_identity_long c.args.self.now c.args.repository.now
    (subst IsTable c.self.view_is c.self.invariant) long

pub returns-in_err-identity-clause-is : goal.returns-in_err-identity-clause-is
returns-in_err-identity-clause-is c =
    let key = rw c.in_ok-key.was at c.name_if_short.ensures in
    c.from_residual-in_err-identity.ensures ∙ identity_none c.self.inside.identities.entries
    c.args.self.now c.in_ok-key.key.items c.args.repository.now
    (ap (λ (t : Table). t.identities) c.self.view_is) key c.in_err-identity.ensures.index

pub returns-clause-is : goal.returns-clause-is
returns-clause-is c =
    let key = rw c.in_ok-key.was at c.name_if_short.ensures in
    identity_found c.self.inside.identities.entries c.args.self.now c.in_ok-key.key.items
    c.args.repository.now c.in_ok-identity.identity.0
    (c.in_ok-identity.identity.1.now, c.in_ok-identity.identity.2.now)
    (ap (λ (t : Table). t.identities) c.self.view_is) key c.in_ok-identity.ensures.index
    c.in_ok-identity.ensures.entry

pub returns-clause-known : goal.returns-clause-known
returns-clause-known c =
    identity_known c.self.inside.identities.entries c.args.self.now c.in_ok-identity.identity.0
    (c.in_ok-identity.identity.1.now, c.in_ok-identity.identity.2.now)
    (subst IsTable c.self.view_is c.self.invariant)
    (ap (λ (t : Table). t.identities) c.self.view_is) c.in_ok-identity.ensures.entry
