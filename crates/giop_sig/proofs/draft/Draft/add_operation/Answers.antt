use Rattle.std.proofs.Common.{◌≡◌, refl, sym, ap, subst, length, arith}
use Rattle.std.proofs.lemmas.List.{length-map}
use Rattle.giop_sig.specs.Table.{operation_key}
use Rattle.giop_sig.specs.Entries.{operation_view, table_view}
use Rattle.giop_sig.specs.Scopes.{Scope}
use Rattle.giop_sig.specs.ScopeViews.{IsDraft}
use Rattle.giop_sig.proofs.Added.{operation_put, operation_added}
use Rattle.giop_sig.proofs.ScopeLaws.{draft_table}
use Rattle.giop_sig.proofs.draft.Draft.add_operation.Goals as goal

pub returns-clause-added : goal.returns-clause-added
returns-clause-added c =
    let i = c.self.inside in
    draft_table i.version _ _ _ i.names.entries i.announced.entries c.args.self.now c.self.view_is
    (operation_put (table_view i.version i.types i.operations.entries i.exceptions.entries
    i.declared i.called i.interfaces i.identities.entries i.fronts.keys) i.operations.entries
    c.insert.new.self.entries c.args.self.now.table c.operation_key-key.result c.args.signature
    (operation_key c.args.interface c.args.name.now) refl
    (ap (λ (s : Scope). s.table) c.self.view_is) c.operation_key-key.ensures
    c.requires.new c.in_ok-insert.ensures.entries)

pub invariant_of-self-2 : goal.invariant_of-self-2
invariant_of-self-2 c =
    let i = c.self.inside in
    let is = subst IsDraft c.self.view_is c.self.invariant in
    let put = draft_table i.version _ _ _ i.names.entries i.announced.entries c.args.self.now
    c.self.view_is
    (operation_put (table_view i.version i.types i.operations.entries i.exceptions.entries
    i.declared i.called i.interfaces i.identities.entries i.fronts.keys) i.operations.entries
    c.insert.new.self.entries c.args.self.now.table c.operation_key-key.result c.args.signature
    (operation_key c.args.interface c.args.name.now) refl
    (ap (λ (s : Scope). s.table) c.self.view_is) c.operation_key-key.ensures
    c.requires.new c.in_ok-insert.ensures.entries) in
    subst IsDraft (sym put) (record {
      scope = record {
        begins = is.scope.begins;
        names = is.scope.names;
        announced =
            is.scope.announced;
      };
      table = operation_added c.args.self.now.table
          (record {
            key = operation_key c.args.interface c.args.name.now;
            request = c.args.signature.request.0;
            reply = c.args.signature.reply.0;
          })
          is.table
          (record {
            short = let s = c.requires.short in omega arith;
            request = c.requires.request;
            reply = c.requires.reply;
          })
          c.requires.new
          (let all : c.len.result ≡ length i.operations.entries = c.len.ensures.len in
          let few = c.if-len.false in
          omega (
            arith,
            few,
            all,
            length-map i.operations.entries operation_view,
            ap (λ (s : Scope). length s.table.operations) c.self.view_is,
          ));
    })
