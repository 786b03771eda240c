use Rattle.std.proofs.Common.{map, sym, subst}
use Rattle.giop_sig.specs.Entries.{table_view}
use Rattle.giop_sig.specs.Scopes.{Scope}
use Rattle.giop_sig.specs.ScopeViews.{number_of_id, IsDraft}
use Rattle.giop_sig.specs.Trees.{AreResolved}
use Rattle.giop_sig.proofs.SettleLaws.{draft_settled, scope_settled}
use Rattle.giop_sig.proofs.SettledEntries.{settled_is}
use Rattle.giop_sig.proofs.draft.Draft.resolve_sequences.Goals as goal

pub invariant_of-self : goal.invariant_of-self
invariant_of-self c =
    let i = c.self.inside in
    let put = settled_is c.args.self.now i.version
    (table_view i.version i.types i.operations.entries i.exceptions.entries i.declared i.called
    i.interfaces i.identities.entries i.fronts.keys) c.resolve_sequences.new.self i.names.entries
    i.announced.entries (map number_of_id c.args.types.now) c.self.view_is c.requires
    c.resolve_sequences.ensures in
    subst IsDraft (sym put)
    (draft_settled c.args.self.now (subst IsDraft c.self.view_is c.self.invariant))

pub returns-clause-complete : goal.returns-clause-complete
returns-clause-complete c =
    let i = c.self.inside in
    let put = settled_is c.args.self.now i.version
    (table_view i.version i.types i.operations.entries i.exceptions.entries i.declared i.called
    i.interfaces i.identities.entries i.fronts.keys) c.resolve_sequences.new.self i.names.entries
    i.announced.entries (map number_of_id c.args.types.now) c.self.view_is c.requires
    c.resolve_sequences.ensures in
    subst (λ (s : Scope). AreResolved s.table.types) (sym put)
    (scope_settled c.args.self.now (subst IsDraft c.self.view_is c.self.invariant).scope)
