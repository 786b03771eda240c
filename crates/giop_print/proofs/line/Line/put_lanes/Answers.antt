use Rattle.std.proofs.Common.{rules}
use Rattle.giop_print.proofs.Blocks.{block_before}
use Rattle.giop_print.proofs.line.Line.put_lanes.Goals as goal

pub returns-clause-text : goal.returns-clause-text
returns-clause-text c =
    block_before c.args.self.now.octets c.args.block c.args.self.now.at c.args.count
    (search rules)
    c.fits-block.0 c.requires.room (search rules) c.requires.within
