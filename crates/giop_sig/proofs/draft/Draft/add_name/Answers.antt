use Rattle.std.proofs.Common.{sym, subst}
use Rattle.giop_sig.specs.ScopeViews.{number_of_id, IsDraft}
use Rattle.giop_sig.proofs.ScopeLaws.{put_name, scope_named}
use Rattle.giop_sig.proofs.draft.Draft.add_name.Goals as goal

pub invariant_of-self-2 : goal.invariant_of-self-2
invariant_of-self-2 c =
    let key = rw c.unwrap-key.ensures at c.try_from.ensures in
    let put = put_name c.args.self.now c.self.inside.version
    _
    c.self.inside.names.entries c.insert.new.self.entries c.self.inside.announced.entries
    c.unwrap-key.result
    c.args.t c.args.name.now c.self.view_is key.0 c.requires.new c.in_ok-insert.ensures.entries in
    let is = subst IsDraft c.self.view_is c.self.invariant in
    subst IsDraft (sym put) (record {
      scope = scope_named c.args.self.now c.args.name.now (number_of_id c.args.t) is.scope
          c.requires.short c.requires.known;
      table = is.table;
    })

pub returns-clause-added : goal.returns-clause-added
returns-clause-added c =
    let key = rw c.unwrap-key.ensures at c.try_from.ensures in
    put_name c.args.self.now c.self.inside.version
    _
    c.self.inside.names.entries c.insert.new.self.entries c.self.inside.announced.entries
    c.unwrap-key.result c.args.t
    c.args.name.now c.self.view_is key.0 c.requires.new c.in_ok-insert.ensures.entries
