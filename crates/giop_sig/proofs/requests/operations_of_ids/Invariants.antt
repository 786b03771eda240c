use Rattle.std.proofs.Common.{◌≡◌, ◌++◌, map}
use Rattle.giop_sig.specs.Table.{asked_number}
use Rattle.giop_sig.specs.RequestList.{with_found_operation}
use Rattle.giop_sig.specs.RequestViews.{asked_view}
use Rattle.giop_sig.proofs.requests.operations_of_ids.Given as goal

-- the operations so far, and those that are left
abbrev pub invariant-loop-id : goal.invariant-loop-id
invariant-loop-id l =
    l.table.entries ++ map (with_found_operation (asked_number l.catalogue))
    (map asked_view l.id-iterator)
    ≡ map (with_found_operation (asked_number l.catalogue)) (map asked_view l.asked.entries)
