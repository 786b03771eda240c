use Rattle.giop_checkpoint.specs.Fixed.{counts_octets}
use Rattle.giop_checkpoint.proofs.Puts.{then}
use Rattle.giop_checkpoint.proofs.fixed.Counts.write.Goals as goal

pub returns-clause-put : goal.returns-clause-put
unfolding counts_octets
returns-clause-put g c =
    then _ _ _ _ _ (then _ _ _ _ _ (then _ _ _ _ _ c.put_four.ensures.put c.put_four-2.ensures.put)
    c.put_four-3.ensures.put) c.put_four-4.ensures.put
