use Rattle.std.proofs.Common.{◌%◌, length, sym, ap, ◌∙◌, arith}
use Rattle.std.proofs.lemmas.Bool.{eqb-true}
use Rattle.std.proofs.lemmas.List.{length-set}
use Rattle.giop_entry_table.proofs.ListLemmas.{read-at}
use Rattle.giop_entry_table.proofs.IdLemmas.{some_counted, indexed_none, indexed_remove}
use Rattle.giop_entry_table.proofs.ids.Ids.remove.Goals as goal

pub overflow_sub-index_mut : goal.overflow_sub-index_mut
overflow_sub-index_mut c =
    let ids = c.args.self.now in
    let r = c.remainder-remainder in
    let is = r.ensures.value ∙ ap (λ k. k % length ids.counts.items)
    (read-at _ _ _ c.requires c.index.ensures) in
    omega (
      arith,
      read-at _ _ _ r.ensures.within c.index_mut.ensures.value,
      some_counted _ _ _ _ _ ids.indexed c.args.index r.result c.requires is r.ensures.within,
    )

pub invariant_of-self : goal.invariant_of-self
invariant_of-self c =
    let ids = c.args.self.now in
    record {
      indexed = indexed_none (length ids.counts.items) ids.keys.items _ ids.counts.items
          ids.firsts.items ids.removals
          (sym ids.counts.ok.0 ∙ eqb-true ids.counts.len 0
          (sym c.is_empty.ensures ∙ c.if-is_empty.true))
          ids.indexed;
    }

pub invariant_of-self-2 : goal.invariant_of-self-2
invariant_of-self-2 c =
    let ids = c.args.self.now in
    let r = c.remainder-remainder in
    let is = r.ensures.value ∙ ap (λ k. k % length ids.counts.items)
    (read-at _ _ _ c.requires c.index.ensures) in
    let count = read-at _ _ _ r.ensures.within c.index_mut.ensures.value in
    let gone = rw (c.remove-2.ensures.succeeds 0 (rw ids.keys.ok.0 c.requires)) at
    c.remove-2.ensures.items in
    rw (length-set ids.counts.items r.result _, count, gone) (record {
      indexed = indexed_remove _ _ _ _ _ ids.indexed c.args.index r.result _ c.requires is
          r.ensures.within (omega (
            arith,
            c.saturating_add-self.ensures,
            c.min-moves.ensures,
            c.len.ensures,
            ids.keys.ok.0,
          ));
    })
