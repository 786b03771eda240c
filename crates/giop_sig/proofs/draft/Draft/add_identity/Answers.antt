use Rattle.std.proofs.Common.{refl, sym, ap, subst}
use Rattle.giop_sig.specs.Scopes.{Scope}
use Rattle.giop_sig.specs.ScopeViews.{IsDraft}
use Rattle.giop_sig.proofs.Added.{identity_put, identity_added}
use Rattle.giop_sig.proofs.ScopeLaws.{draft_table}
use Rattle.giop_sig.proofs.draft.Draft.add_identity.Goals as goal

pub returns-clause-added : goal.returns-clause-added
returns-clause-added c =
    let i = c.self.inside in
    let key = rw c.unwrap-key.ensures at c.try_from.ensures in
    draft_table i.version _ _ _ i.names.entries i.announced.entries c.args.self.now c.self.view_is
    (identity_put _ i.identities.entries c.insert.new.self.entries c.args.self.now.table
    c.unwrap-key.result c.args.t c.args.id.now refl
    (ap (λ (s : Scope). s.table) c.self.view_is) key.0
    c.requires.different c.in_ok-insert.ensures.entries)

pub invariant_of-self-2 : goal.invariant_of-self-2
invariant_of-self-2 c =
    let i = c.self.inside in
    let is = subst IsDraft c.self.view_is c.self.invariant in
    let key = rw c.unwrap-key.ensures at c.try_from.ensures in
    let put = draft_table i.version _ _ _ i.names.entries i.announced.entries c.args.self.now
    c.self.view_is
    (identity_put _ i.identities.entries c.insert.new.self.entries c.args.self.now.table
    c.unwrap-key.result c.args.t c.args.id.now refl
    (ap (λ (s : Scope). s.table) c.self.view_is) key.0
    c.requires.different c.in_ok-insert.ensures.entries) in
    subst IsDraft (sym put) (record {
      scope = record {
        begins = is.scope.begins;
        names = is.scope.names;
        announced =
            is.scope.announced;
      };
      table = identity_added c.args.self.now.table
          (record { repository = c.args.id.now; type = c.args.t.0 }) is.table
          (record { short = c.requires.identity; type = c.requires.known })
          c.requires.different;
    })
