use Rattle.std.proofs.Common.{◌≡◌, None, sym, ap, subst, ◌∙◌}
use Rattle.std.proofs.lemmas.Bool.{eqb-true}
use Rattle.giop_tokens.proofs.ReaderLaws.{ok_is}
use Rattle.giop_sig.specs.Scopes.{AddedType, Scope, announced_as, with_announced, with_node}
use Rattle.giop_sig.specs.Table as nodes
use Rattle.giop_sig.specs.ScopeViews.{IsAnnounced, IsDraft}
use Rattle.giop_sig.proofs.ScopeLaws.{put_announced, scope_announced}
use Rattle.giop_sig.proofs.TypeTaken.{node_announced}
use Rattle.giop_sig.proofs.draft.Draft.announce.Goals as goal

pub add-requires-clause-addable : goal.add-requires-clause-addable
add-requires-clause-addable c =
    sym (ap (λ (s : Scope). s.table.version) c.self.view_is)
    ∙ ap (λ (s : Scope). s.names.version) c.self.view_is
    ∙ eqb-true c.args.self.now.names.version 3 c.requires.third

pub invariant_of-self-2 : goal.invariant_of-self-2
invariant_of-self-2 c =
    let key = rw c.unwrap-key.ensures at c.try_from.ensures in
    let added = ok_is _ _ c.in_ok-type_id.ensures in
    let third = sym (ap (λ (s : Scope). s.table.version) c.self.view_is)
    ∙ ap (λ (s : Scope). s.names.version) c.self.view_is
    ∙ eqb-true c.args.self.now.names.version 3 c.requires.third in
    let new = subst (λ (q : AddedType). announced_as (q.0).names c.args.name.now ≡ None) added
    c.requires.new in
    let put = put_announced c.add.new.self c.self-2.inside.version _ c.self-2.inside.names.entries
    c.self-2.inside.announced.entries c.insert.new.self.entries c.unwrap-key.result
    (record { word = c.args.word; type_id = c.in_ok-type_id.type_id }) c.args.name.now
    c.self-2.view_is key.0 new c.in_ok-insert.ensures.entries in
    let is = subst IsDraft c.self-2.view_is c.self-2.invariant in
    let at = subst (λ (q : AddedType). IsAnnounced (q.0).table.version (q.0).table.types q.1) added
    (node_announced c.args.self.now _ third) in
    subst IsDraft (sym put) (record {
      scope = scope_announced c.add.new.self c.args.name.now c.args.word
          c.in_ok-type_id.type_id.0 is.scope at;
      table = is.table;
    })

pub returns-clause-added : goal.returns-clause-added
returns-clause-added c =
    let key = rw c.unwrap-key.ensures at c.try_from.ensures in
    let added = ok_is _ _ c.in_ok-type_id.ensures in
    let new = subst (λ (q : AddedType). announced_as (q.0).names c.args.name.now ≡ None) added
    c.requires.new in
    put_announced c.add.new.self c.self-2.inside.version _ c.self-2.inside.names.entries
    c.self-2.inside.announced.entries c.insert.new.self.entries c.unwrap-key.result
    (record { word = c.args.word; type_id = c.in_ok-type_id.type_id }) c.args.name.now
    c.self-2.view_is key.0 new c.in_ok-insert.ensures.entries
    ∙ ap (with_announced c.args.word c.args.name.now) (sym added)
    ∙ ap (λ n. with_announced c.args.word c.args.name.now
    (with_node c.args.self.now (nodes.announced n))) c.announcement_count-index.ensures
