use Rattle.giop_print.proofs.Plain.{block_plain}
use Rattle.giop_print.proofs.line.are_plain.Goals as goal

pub returns : goal.returns
returns c = block_plain c.args.block c.fits-block.0
