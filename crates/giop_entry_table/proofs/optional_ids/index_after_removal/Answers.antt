use Rattle.std.proofs.Common.{◌≡◌, ◌≢◌, sym, arith}
use Rattle.giop_entry_table.proofs.OptionalIdLemmas.{removed-same, removed-other, removed-below}
use Rattle.giop_entry_table.proofs.optional_ids.index_after_removal.Goals as goal

pub returns-in-Some : goal.returns-in-Some
returns-in-Some c = rw (c.in-Some.is, c.if-index-removed.true) (sym (removed-same c.args.removed))

pub returns-in-Some-2 : goal.returns-in-Some-2
returns-in-Some-2 c =
    rw c.in-Some-2.is (sym (removed-other c.in-Some-2.index c.args.removed c.if-removed-index.true))

pub returns-in_default : goal.returns-in_default
returns-in_default c =
    let same : c.in-Some.index ≡ c.in-Some-2.index = cc (c.in-Some.is, c.in-Some-2.is) in
    let apart : c.in-Some-2.index ≢ c.args.removed = rw same at c.if-index-removed.false in
    rw c.in-Some-2.is (sym (removed-below c.in-Some-2.index c.args.removed
    (omega (arith, c.if-removed-index.false, apart))))
