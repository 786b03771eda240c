use Rattle.giop_checkpoint.proofs.record.+are_records.Given as goal

abbrev pub decreases-are_records : goal.decreases-are_records
decreases-are_records l = l.records
