use Rattle.std.proofs.Common.{length, ap, subst, ◌<◌, arith}
use Rattle.giop_tokens.proofs.ReaderLaws.{ok_is}
use Rattle.giop_sig.specs.Scopes.{AddedType}
use Rattle.giop_sig.proofs.TypeTaken.{AddsOnlyTypes}
use Rattle.giop_sig.proofs.ItemTaken.{declared_takes, struct_formed, exception_grows, still_new, new_repository_takes, still_different, node_below}
use Rattle.giop_sig.proofs.read_items.exception_at.Goals as goal

pub add-requires : goal.add-requires
add-requires c = record {
  formed = struct_formed c.args.draft.now _ _ c.in_ok-parts.ensures c.laws.ensures.scope;
  addable = tt;
}

pub declare_exception-requires-clause-short : goal.declare_exception-requires-clause-short
declare_exception-requires-clause-short c = (declared_takes c.args.draft.now _ _ _ _
    c.in_ok-name.ensures).short

pub declare_exception-requires-clause-new : goal.declare_exception-requires-clause-new
declare_exception-requires-clause-new c =
    let g = subst (λ (q : AddedType). AddsOnlyTypes c.args.draft.now q.0)
    (ok_is _ _ c.in_ok-t.ensures)
    (exception_grows c.args.draft.now _ _ c.in_ok-parts.ensures) in
    still_new c.args.draft.now c.add.new.self _ g
    (declared_takes c.args.draft.now _ _ _ _ c.in_ok-name.ensures).new

pub declare_exception-requires-clause-few : goal.declare_exception-requires-clause-few
declare_exception-requires-clause-few c =
    let g = subst (λ (q : AddedType). AddsOnlyTypes c.args.draft.now q.0)
    (ok_is _ _ c.in_ok-t.ensures)
    (exception_grows c.args.draft.now _ _ c.in_ok-parts.ensures) in
    let d = declared_takes c.args.draft.now _ _ _ _ c.in_ok-name.ensures in
    let few = d.few in omega (arith, ap length g.exceptions, c.exceptions_declared-count.ensures)

pub declare_exception-requires-clause-identity : goal.declare_exception-requires-clause-identity
declare_exception-requires-clause-identity c = (new_repository_takes c.args.draft.now _ _
    c.in_ok-repository.ensures).short

pub declare_exception-requires-clause-different : goal.declare_exception-requires-clause-different
declare_exception-requires-clause-different c =
    let g = subst (λ (q : AddedType). AddsOnlyTypes c.args.draft.now q.0)
    (ok_is _ _ c.in_ok-t.ensures)
    (exception_grows c.args.draft.now _ _ c.in_ok-parts.ensures) in
    still_different c.args.draft.now c.add.new.self _ g
    (new_repository_takes c.args.draft.now _ _ c.in_ok-repository.ensures).new

pub declare_exception-requires-clause-known : goal.declare_exception-requires-clause-known
declare_exception-requires-clause-known c =
    subst (λ (q : AddedType). q.1 < length (q.0).table.types) (ok_is _ _ c.in_ok-t.ensures)
    (node_below c.members_at.new.draft _)
