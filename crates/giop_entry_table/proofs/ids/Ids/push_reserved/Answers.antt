use Rattle.std.proofs.Common.{◌%◌, ◌==◌, length, sym, ◌∙◌, arith}
use Rattle.std.proofs.lemmas.Bool.{eqb-true}
use Rattle.std.proofs.lemmas.List.{length-set}
use Rattle.std.proofs.lemmas.List.Sums.{count_by-le-length}
use Rattle.giop_entry_table.proofs.ListLemmas.{read-at}
use Rattle.giop_entry_table.proofs.IdLemmas.{indexed_none, indexed_push}
use Rattle.giop_entry_table.proofs.ids.Ids.push_reserved.Goals as goal

pub overflow_add-index_mut : goal.overflow_add-index_mut
overflow_add-index_mut c =
    let ids = c.args.self.now in
    let d = length ids.counts.items in
    let r = c.remainder-remainder.result in
    let within = c.remainder-remainder.ensures.within in
    let small = ids.keys.small in
    omega (
      arith,
      read-at _ _ _ within c.index_mut-2.ensures.value,
      ids.indexed.counted r within,
      count_by-le-length (λ k. k % d == r) ids.keys.items,
      c.requires,
      small,
    )

pub invariant_of-self : goal.invariant_of-self
invariant_of-self c =
    let ids = c.args.self.now in
    record {
      indexed = indexed_none (length ids.counts.items) ids.keys.items _ ids.counts.items
          ids.firsts.items ids.removals
          (sym ids.counts.ok.0 ∙ eqb-true ids.counts.len 0
          (sym c.is_empty.ensures ∙ c.if-is_empty.true))
          ids.indexed;
    }

pub invariant_of-self-2 : goal.invariant_of-self-2
invariant_of-self-2 c =
    let ids = c.args.self.now in
    let r = c.remainder-remainder in
    let count = read-at _ _ _ r.ensures.within c.index_mut-2.ensures.value in
    let pushed = c.push_back_reserved-2.ensures.items in
    rw (length-set ids.counts.items r.result _, count, pushed) (record {
      indexed = indexed_push _ _ _ _ _ ids.indexed c.args.key r.result c.bound_for_remainder.result
          r.ensures.within r.ensures.value c.bound_for_remainder.ensures.before
          c.bound_for_remainder.ensures.within
          c.bound_for_remainder.type_inv;
    })
