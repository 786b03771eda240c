use Rattle.giop_sig.proofs.ScopeLaws.{draft_called}
use Rattle.giop_sig.specs.Entries.{table_view}
use Rattle.giop_sig.specs.ScopeViews.{scope_view}
use Rattle.giop_sig.proofs.draft.Draft.add_interface.Goals as goal

pub invariant_of-self : goal.invariant_of-self
invariant_of-self c =
    let i = c.self.inside in
    draft_called (scope_view i.version (table_view i.version i.types i.operations.entries
    i.exceptions.entries i.declared i.called i.interfaces
    i.identities.entries i.fronts.keys) i.names.entries i.announced.entries) c.add.new.self
    c.self.invariant c.add.ensures.many
