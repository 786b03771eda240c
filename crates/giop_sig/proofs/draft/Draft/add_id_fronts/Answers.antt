use Rattle.std.proofs.Common.{map}
use Rattle.giop_sig.specs.Entries.{table_view}
use Rattle.giop_sig.specs.ScopeViews.{scope_view}
use Rattle.giop_sig.proofs.ScopeLaws.{draft_fronts}
use Rattle.giop_sig.proofs.draft.Draft.add_id_fronts.Goals as goal

pub invariant_of-self : goal.invariant_of-self
invariant_of-self c =
    let i = c.self.inside in
    draft_fronts (scope_view i.version
    (table_view i.version i.types i.operations.entries i.exceptions.entries i.declared
    i.called i.interfaces i.identities.entries i.fronts.keys) i.names.entries i.announced.entries)
    (map (λ f. f.items) c.add_fronts.new.fronts.keys) c.self.invariant
    (c.in_err-add_fronts.ensures.known i.version i.types c.self.invariant.table.anys)

pub invariant_of-self-2 : goal.invariant_of-self-2
invariant_of-self-2 c =
    let i = c.self.inside in
    draft_fronts (scope_view i.version
    (table_view i.version i.types i.operations.entries i.exceptions.entries i.declared
    i.called i.interfaces i.identities.entries i.fronts.keys) i.names.entries i.announced.entries)
    (map (λ f. f.items) c.add_fronts.new.fronts.keys) c.self.invariant
    (c.in_ok-add_fronts.ensures.known i.version i.types c.self.invariant.table.anys)
