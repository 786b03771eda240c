use Rattle.std.proofs.Common.{length, map, subst, ◌≤◌, arith}
use Rattle.giop_tokens.proofs.ReaderLaws.{ok_is}
use Rattle.giop_sig.specs.Scopes.{AddedType, with_node}
use Rattle.giop_sig.specs.UnionCases.{part_view}
use Rattle.giop_sig.specs.Table.{members}
use Rattle.giop_sig.proofs.TypeTaken.{AddsOnlyTypes}
use Rattle.giop_sig.proofs.ItemTaken.{AreParts}
use Rattle.giop_sig.proofs.CallTaken.{call_ready, parts_on, calls_grow, new_operation_takes}
use Rattle.giop_sig.proofs.read_calls.operation_at.Goals as goal

pub add-requires : goal.add-requires
add-requires c = record {
  formed = (call_ready c.args.draft.now _ _ _ _ c.in_ok-returned.ensures
      c.in_ok-request.ensures c.laws.ensures.scope).request;
  addable = tt;
}

pub add-requires-2 : goal.add-requires-2
add-requires-2 c =
    let request = map part_view c.in_ok-request.request.items in
    let reply = map part_view c.in_ok-request.reply.items in
    let formed = subst (λ (q : AddedType). (length reply ≤ 256) × AreParts q.0 reply)
    (ok_is _ _ c.in_ok-q.ensures)
    (parts_on c.params_at.new.draft (members request) reply
    (call_ready c.args.draft.now _ _ _ _ c.in_ok-returned.ensures c.in_ok-request.ensures
    c.laws.ensures.scope).reply) in
    record { formed = formed; addable = tt }

pub optional_interfaces_at-requires-clause-short : goal.optional_interfaces_at-requires-clause-short
optional_interfaces_at-requires-clause-short c =
    (new_operation_takes _ _ _ c.in_ok-name.ensures).short

pub count_operation-requires : goal.count_operation-requires
count_operation-requires c =
    let ready = call_ready c.args.draft.now _ _ _ _ c.in_ok-returned.ensures
    c.in_ok-request.ensures c.laws.ensures.scope in
    let reply = members (map part_view c.in_ok-request.reply.items) in
    let q = ok_is _ _ c.in_ok-q.ensures in
    let r = ok_is _ _ c.in_ok-r.ensures in
    let g = subst (λ (p : AddedType). AddsOnlyTypes c.return_at.new.draft p.0) r
    (subst (λ (p : AddedType). AddsOnlyTypes c.return_at.new.draft (with_node p.0 reply).0) q
    (calls_grow c.return_at.new.draft _ reply ready)) in
    let few = (new_operation_takes _ _ _ c.in_ok-name.ensures).few in
    let kept = c.in_ok-rest-2.ensures.keeps.called in
    omega (arith, few, g.called, kept)
