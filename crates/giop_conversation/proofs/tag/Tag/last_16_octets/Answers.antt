use Rattle.std.proofs.Common.{◌-◌, arith, rules}
use Rattle.giop_conversation.proofs.Blocks.{block_is}
use Rattle.giop_conversation.proofs.tag.Tag.last_16_octets.Goals as goal

pub returns-clause-value : goal.returns-clause-value
returns-clause-value c =
    rw (← c.self.view_is)
    (block_is c.self.inside.octets (32 - c.self.inside.count) (search rules) (omega arith))
