use Rattle.std.proofs.Common.{ltb, ltb-true, ltb-false, arith, rules}
use Rattle.std.proofs.lemmas.List.Sorted.{IsPartitionPoint-from_clause, IsPartitionedBy-ltb}
use Rattle.giop_sig.specs.declared.cases.PlacedLabel.{PlacedLabel}
use Rattle.giop_sig.specs.UnionCases.{sort_key_of}
use Rattle.giop_sig.proofs.CaseLabels.{rise_weakly}
use Rattle.giop_sig.proofs.cases.first_not_below.Goals as goal

pub returns-clause-below : goal.returns-clause-below
returns-clause-below c =
    let ls = c.args.labels.now in
    let parted = IsPartitionedBy-ltb (λ (l : PlacedLabel). sort_key_of l.number) ls c.args.key
    (rise_weakly ls c.requires) in
    let point = IsPartitionPoint-from_clause (λ (l : PlacedLabel). ltb
    (sort_key_of l.number) c.args.key)
    _ _ c.partition_point.ensures.partitioned parted (λ a r q k. search rules) in
    λ i d lt. ltb-true _ _ (point.0 i d (omega arith) lt)

pub returns-clause-above : goal.returns-clause-above
returns-clause-above c =
    let ls = c.args.labels.now in
    let parted = IsPartitionedBy-ltb (λ (l : PlacedLabel). sort_key_of l.number) ls c.args.key
    (rise_weakly ls c.requires) in
    let point = IsPartitionPoint-from_clause (λ (l : PlacedLabel). ltb
    (sort_key_of l.number) c.args.key)
    _ _ c.partition_point.ensures.partitioned parted (λ a r q k. search rules) in
    λ i d le lt. ltb-false _ _ (point.1 i d le lt)
