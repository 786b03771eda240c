use Rattle.std.proofs.Common.{◌==◌, refl}
use Rattle.giop_entry_table.proofs.SearchLemmas.{position-slices}
use Rattle.giop_entry_table.proofs.search.first_index_from.Goals as goal

pub returns-in-Some-clause-value : goal.returns-in-Some-clause-value
returns-in-Some-clause-value c =
    let front = c.as_slices.result.0.now in
    rw (
      ← c.as_slices.ensures.items,
      position-slices (λ k. k == c.args.key) front c.as_slices.result.1.now c.args.from,
      ← c.min.ensures,
      ← c.in-Some.ensures.value,
    ) refl

pub returns-in-Some-index_in-clause-value : goal.returns-in-Some-index_in-clause-value
returns-in-Some-index_in-clause-value c =
    let front = c.as_slices.result.0.now in
    rw (
      ← c.as_slices.ensures.items,
      position-slices (λ k. k == c.args.key) front c.as_slices.result.1.now c.args.from,
      ← c.min.ensures,
      ← c.saturating_sub.ensures,
      ← c.in-None.ensures.value,
      ← c.in-Some-index_in.ensures.value,
    ) refl

pub returns-in-None-index_in-clause-value : goal.returns-in-None-index_in-clause-value
returns-in-None-index_in-clause-value c =
    let front = c.as_slices.result.0.now in
    rw (
      ← c.as_slices.ensures.items,
      position-slices (λ k. k == c.args.key) front c.as_slices.result.1.now c.args.from,
      ← c.min.ensures,
      ← c.saturating_sub.ensures,
      ← c.in-None.ensures.value,
      ← c.in-None-index_in.ensures.value,
    ) refl
