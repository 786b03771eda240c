use Rattle.std.proofs.Common.{ℕ, ◌++◌, ap, ◌∙◌}
use Rattle.giop_octets.specs.Fields.{four}
use Rattle.giop_checkpoint.specs.Records.{own_octets}
use Rattle.giop_checkpoint.proofs.Puts.{then}
use Rattle.giop_checkpoint.proofs.record.Record.write.Goals as goal

pub returns-clause-put : goal.returns-clause-put
unfolding own_octets
returns-clause-put g c =
    then _ _ _ _ _
    (then _ _ _ _ _
    (then _ _ _ _ _ (then _ _ _ _ _ c.write_kind.ensures.put c.put_eight.ensures.put)
    c.put_octets.ensures.put)
    (c.put_four.ensures.put ∙ ap (λ (n : ℕ). c.put_octets.new.out.items ++ four n) c.id.ensures))
    c.put_zeros.ensures.put
