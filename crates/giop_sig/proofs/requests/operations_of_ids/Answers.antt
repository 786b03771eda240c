use Rattle.std.proofs.Common.{◌++◌, map, subst, ◌≡◌}
use Rattle.std.specs.Map.Iter.{deref_pair}
use Rattle.std.proofs.lemmas.Map.Iter.{rest_more}
use Rattle.giop_sig.specs.Table.{asked_number}
use Rattle.giop_sig.specs.RequestList.{with_found_operation}
use Rattle.giop_sig.specs.RequestViews.{asked_view}
use Rattle.giop_sig.proofs.ListOrder.{put_next}
use Rattle.giop_sig.proofs.requests.operations_of_ids.Goals as goal

pub loop-id-preserved : goal.loop-id-preserved
loop-id-preserved c =
    let find = asked_number c.args.catalogue.now in
    let next = rest_more deref_pair c.loop-id.id-iterator c.next.new.self c.next.result
    (c.in-Some.id, c.in-Some.words) c.in-Some.is c.next.ensures.steps in
    put_next find c.args.asked.now.entries c.loop-id.table.entries c.insert.new.self.entries
    (c.in-Some.id.now, c.in-Some.words.now) c.next.new.self c.operation_with_words.result
    c.iter-id-items.ensures.unique
    (subst (λ left. c.loop-id.table.entries ++ map (with_found_operation find) (map asked_view left)
    ≡ map (with_found_operation find) (map asked_view c.args.asked.now.entries)) next
    c.loop-id.invariant)
    c.operation_with_words.ensures c.in_ok-insert.ensures.entries
