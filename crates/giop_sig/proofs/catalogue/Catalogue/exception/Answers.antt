use Rattle.std.proofs.Common.{ap, ◌∙◌, subst}
use Rattle.giop_sig.specs.Table.{Table}
use Rattle.giop_sig.specs.HeaderTypes.{IsTable}
use Rattle.giop_sig.proofs.Finds.{no_exception_long, exception_none, exception_found, exception_known}
use Rattle.giop_sig.proofs.catalogue.Catalogue.exception.Goals as goal

pub returns-in_err-key-clause-is : goal.returns-in_err-key-clause-is
returns-in_err-key-clause-is c =
    let long = rw c.in_err-key.was at c.name_if_short.ensures in
    c.from_residual.ensures ∙ no_exception_long c.args.self.now c.args.repository.now
    (subst IsTable c.self.view_is c.self.invariant) long

pub returns-in_err-found-clause-is : goal.returns-in_err-found-clause-is
returns-in_err-found-clause-is c =
    let key = rw c.in_ok-key.was at c.name_if_short.ensures in
    c.from_residual-in_err-found.ensures ∙ exception_none c.self.inside.exceptions.entries
    c.args.self.now c.in_ok-key.key.items c.args.repository.now
    (ap (λ (t : Table). t.exceptions) c.self.view_is) key c.in_err-found.ensures.index

pub returns-clause-is : goal.returns-clause-is
returns-clause-is c =
    let key = rw c.in_ok-key.was at c.name_if_short.ensures in
    exception_found c.self.inside.exceptions.entries c.args.self.now c.in_ok-key.key.items
    c.args.repository.now c.in_ok-found.found.0
    (c.in_ok-found.found.1.now, c.in_ok-found.found.2.now)
    (ap (λ (t : Table). t.exceptions) c.self.view_is) key c.in_ok-found.ensures.index
    c.in_ok-found.ensures.entry

pub returns-clause-known : goal.returns-clause-known
returns-clause-known c =
    exception_known c.self.inside.exceptions.entries c.args.self.now c.in_ok-found.found.0
    (c.in_ok-found.found.1.now, c.in_ok-found.found.2.now)
    (subst IsTable c.self.view_is c.self.invariant)
    (ap (λ (t : Table). t.exceptions) c.self.view_is) c.in_ok-found.ensures.entry
