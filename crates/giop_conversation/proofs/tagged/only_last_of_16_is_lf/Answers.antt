use Rattle.std.proofs.Common.{◌≡◌, arith}
use Rattle.std.proofs.lemmas.List.{take_all}
use Rattle.giop_conversation.proofs.WholeLines.{line_bits}
use Rattle.giop_conversation.proofs.tagged.only_last_of_16_is_lf.Goals as goal

pub returns : goal.returns
returns c = rw (take_all 16 c.args.octets.now (omega (arith, c.requires)))
    (line_bits c.args.octets.now c.requires)
