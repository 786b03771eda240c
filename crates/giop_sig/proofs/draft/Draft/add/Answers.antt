use Rattle.std.proofs.Common.{sym, subst}
use Rattle.giop_sig.specs.Views.{node_view}
use Rattle.giop_sig.specs.HeaderTypes.{IsAddable}
use Rattle.giop_sig.specs.Scopes.{Scope}
use Rattle.giop_sig.specs.Trees.{AreFormed}
use Rattle.giop_sig.specs.ScopeViews.{scope_view, IsDraft}
use Rattle.giop_sig.specs.Entries.{table_view}
use Rattle.giop_sig.proofs.ScopeLaws.{draft_grows}
use Rattle.giop_sig.proofs.draft.Draft.add.Goals as goal

pub invariant_of-self-2 : goal.invariant_of-self-2
invariant_of-self-2 c =
    let i = c.self.inside in
    let added = c.in_ok-t.ensures.added in
    subst (λ types. IsDraft (scope_view i.version
    (table_view i.version types i.operations.entries i.exceptions.entries i.declared
    i.called i.interfaces i.identities.entries i.fronts.keys)
    i.names.entries i.announced.entries))
    (sym added)
    (draft_grows (scope_view i.version
    (table_view i.version i.types i.operations.entries i.exceptions.entries i.declared
    i.called i.interfaces i.identities.entries i.fronts.keys)
    i.names.entries i.announced.entries)
    (node_view c.args.entry) c.self.invariant
    (subst (λ (s : Scope). IsAddable s.table.version (node_view c.args.entry)) (sym c.self.view_is)
    c.requires.addable)
    (subst AreFormed added c.laws.ensures))
