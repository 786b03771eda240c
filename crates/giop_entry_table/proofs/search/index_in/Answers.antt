use Rattle.std.proofs.Common.{refl}
use Rattle.giop_entry_table.proofs.SearchLemmas.{position-shift, rest-is}
use Rattle.giop_entry_table.proofs.search.index_in.Goals as goal

pub returns-in-Some-clause-value : goal.returns-in-Some-clause-value
returns-in-Some-clause-value c =
    rw (
      c.skip_blocks_without-at.ensures.value,
      position-shift,
      ← rest-is c.args.keys.now c.skip_blocks_without-at.result,
      ← c.in-Some.ensures.value,
    ) refl

pub returns-in-None-clause-value : goal.returns-in-None-clause-value
returns-in-None-clause-value c =
    rw (
      c.skip_blocks_without-at.ensures.value,
      position-shift,
      ← rest-is c.args.keys.now c.skip_blocks_without-at.result,
      ← c.in-None.ensures.value,
    ) refl
