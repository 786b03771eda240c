-- The elements of the buffer are octets because of its type.
use Rattle.std.proofs.Common.{arith}
use Rattle.giop_run.proofs.ReadLemmas.{octets-from}
use Rattle.giop_run.proofs.running.read.Goals as goal

pub returns-clause-octets : goal.returns-clause-octets
returns-clause-octets g c = octets-from c.read.new.into (λ i. omega (arith, c.type_inv.buffer i))
