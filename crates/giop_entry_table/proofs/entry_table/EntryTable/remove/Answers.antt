use Rattle.std.proofs.Common.{ap, arith}
use Rattle.std.proofs.lemmas.List.Edits.{length-remove}
use Rattle.std.specs.Option.{option_map}
use Rattle.giop_entry_table.proofs.ListLemmas.{read-at}
use Rattle.giop_entry_table.proofs.HoldingLemmas.{length-held, held-number, entry-of, IsTied-remove, entries-taken}
use Rattle.giop_entry_table.proofs.entry_table.EntryTable.remove.Goals as goal

pub remove-requires : goal.remove-requires
remove-requires g c =
    let within = rw (← c.self.view_is, length-held _ _ _ c.self.invariant.0) at c.requires in
    omega (arith, within, c.self.invariant.0.as_many)

pub unreachable-requires : goal.unreachable-requires
unreachable-requires g c =
    let within = rw (← c.self.view_is, length-held _ _ _ c.self.invariant.0) at c.requires in
    cc (c.remove-2.ensures.succeeds 0 (rw c.self.inside.numbers.ok.0 within), c.in-None.is)

pub remove-requires-in-Some : goal.remove-requires-in-Some
remove-requires-in-Some g c =
    let within = rw (← c.self.view_is, length-held _ _ _ c.self.invariant.0) at c.requires in
    held-number _ _ _ c.args.index _ c.self.invariant.0 within
    (read-at _ _ _ within c.in-Some.ensures.value)

pub invariant_of-self : goal.invariant_of-self
invariant_of-self g c =
    let tied = c.self.invariant.0 in
    let room = c.self.invariant.1 in
    let within = rw (← c.self.view_is, length-held _ _ _ tied) at c.requires in
    let number = read-at _ _ _ within c.in-Some.ensures.value in
    let gone = c.remove-in-Some.ensures in
    rw (c.remove.ensures.items, c.in-Some.ensures.items) (
      IsTied-remove _ _ _ _ c.args.index tied within (rw number at gone.updates) gone.len,
      record {
        keys_fit = omega (arith, c.remove.ensures.capacity, room.keys_fit);
        numbers_fit = omega (arith, c.in-Some.ensures.capacity, room.numbers_fit);
        values_fit = omega (arith, gone.capacity, room.values_fit);
      },
      omega (
        arith,
        length-remove c.self.inside.numbers.items c.args.index within,
        c.self.invariant.2,
      ),
    )

pub returns-clause-value : goal.returns-clause-value
returns-clause-value g c =
    let tied = c.self.invariant.0 in
    let within = rw (← c.self.view_is, length-held _ _ _ tied) at c.requires in
    let number = read-at _ _ _ within c.in-Some.ensures.value in
    rw (← c.self.view_is) (ap (option_map (λ e. e.value))
    (entry-of _ _ _ c.args.index _ _ tied within number c.remove-in-Some.ensures.value))

pub returns-clause-entries : goal.returns-clause-entries
returns-clause-entries g c =
    let tied = c.self.invariant.0 in
    let within = rw (← c.self.view_is, length-held _ _ _ tied) at c.requires in
    let number = read-at _ _ _ within c.in-Some.ensures.value in
    rw (← c.self.view_is, c.remove.ensures.items, c.in-Some.ensures.items)
    (entries-taken _ _ _ _ c.args.index tied within (rw number at c.remove-in-Some.ensures.updates))

pub returns-clause-len : goal.returns-clause-len
returns-clause-len g c =
    rw (returns-clause-entries g c) (length-remove _ c.args.index c.requires)
