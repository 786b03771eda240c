use Rattle.std.proofs.Common.{map, nat_eq, arith}
use Rattle.std.proofs.lemmas.List.{length-map}
use Rattle.std.proofs.lemmas.Map.Made.{distinct_count-le}
use Rattle.giop_sig.specs.Table.{asked_number}
use Rattle.giop_sig.proofs.ListOrder.{found_is, is_of}
use Rattle.giop_sig.proofs.requests.read_list.Goals as goal

pub returns-clause-ok : goal.returns-clause-ok
returns-clause-ok c =
    let find = asked_number c.args.catalogue.now in
    let a = c.in_ok-asked.ensures.ok in
    let kept = c.in_ok-asked.asked.entries in
    let table = c.in_ok-table.table.entries in (
      a.0,
      rw c.version.ensures at a.1,
      is_of find a.0 kept table c.in_ok-asked.ensures.unique a.2 c.in_ok-table.ensures.ok,
      found_is find a.0 kept table a.2 c.in_ok-table.ensures.ok,
    )

pub invariant_of-result : goal.invariant_of-result
invariant_of-result c =
    let find = asked_number c.args.catalogue.now in
    let a = c.in_ok-asked.ensures.ok in
    let is = is_of find a.0 c.in_ok-asked.asked.entries c.in_ok-table.table.entries
    c.in_ok-asked.ensures.unique a.2 c.in_ok-table.ensures.ok in
    omega (
      arith,
      a.1.count,
      is.count,
      distinct_count-le nat_eq (map (λ e. e.id) a.0),
      length-map a.0 (λ e. e.id),
    )
