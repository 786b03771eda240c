use Rattle.std.proofs.Common.{arith, refl, ap, ◌∙◌}
use Rattle.slab.proofs.SlabLemmas.{Updates-with_value}
use Rattle.giop_entry_table.proofs.ListLemmas.{read-at}
use Rattle.giop_entry_table.proofs.HoldingLemmas.{length-held, value-at, held-number, IsTied-revalued, entries-revalued, length-with_value, Updates-under}
use Rattle.giop_entry_table.proofs.entry_table.EntryTable.value_mut.Goals as goal

pub index-number-requires : goal.index-number-requires
index-number-requires g c =
    let within = rw (← c.self.view_is, length-held _ _ _ c.self.invariant.0) at c.requires in
    omega (arith, within)

pub index_mut-requires : goal.index_mut-requires
index_mut-requires g c =
    let within = rw (← c.self.view_is, length-held _ _ _ c.self.invariant.0) at c.requires in
    held-number _ _ _ c.args.index _ c.self.invariant.0 within
    (read-at _ _ _ within c.index-number.ensures)

pub invariant_of-self-lent : goal.invariant_of-self-lent
invariant_of-self-lent g c w =
    let tied = c.self.invariant.0 in
    let within = rw (← c.self.view_is, length-held _ _ _ tied) at c.requires in
    let number = read-at _ _ _ within c.index-number.ensures in
    let held = held-number _ _ _ c.args.index _ tied within number in
    let room = c.self.invariant.1 in
    let values = c.self.inside.values in
    let at = c.index-number.result.now in (
      IsTied-revalued _ _ _ _ c.args.index w tied
          (Updates-under _ _ _ _ _ number (Updates-with_value values at w held))
          (length-with_value values at w held),
      record {
        keys_fit = room.keys_fit;
        numbers_fit = room.numbers_fit;
        values_fit =
            room.values_fit;
      },
      c.self.invariant.2,
    )

pub returns : goal.returns
returns g c =
    let tied = c.self.invariant.0 in
    let within = rw (← c.self.view_is, length-held _ _ _ tied) at c.requires in
    let number = read-at _ _ _ within c.index-number.ensures in
    let held = held-number _ _ _ c.args.index _ tied within number in
    let value = value-at _ _ _ c.args.index _ tied within number in (
      (
        refl,
        λ w.
            let updates = Updates-under _ _ _ _ _ number
            (Updates-with_value c.self.inside.values c.index-number.result.now w held) in
            let entries = entries-revalued _ _ _ _ c.args.index w tied.as_many tied.held
            tied.distinct within updates in
            rw (← c.self.view_is) (ap (λ es. record { most = c.self.inside.most; entries = es })
            entries),
      ),
      record {
        writes_back = tt;
        value = rw (← c.self.view_is) (value ∙ c.index_mut.ensures.value);
      },
    )
