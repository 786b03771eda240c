use Rattle.std.proofs.Common.{◌∙◌}
use Rattle.giop_print.specs.Line.{line_text}
use Rattle.giop_print.proofs.Blocks.{one_block, two_blocks}
use Rattle.giop_print.proofs.line.Line.put_blocks.Goals as goal

pub returns-then-count-le-BLOCK-clause-text : goal.returns-then-count-le-BLOCK-clause-text
returns-then-count-le-BLOCK-clause-text c =
    c.put_end.ensures.text
    ∙ one_block c.args.blocks.now (line_text c.args.self.now) c.args.count
    c.if-count-le-BLOCK.true

pub returns-else-count-le-BLOCK-clause-text : goal.returns-else-count-le-BLOCK-clause-text
returns-else-count-le-BLOCK-clause-text c =
    rw c.put_end-else-count-le-BLOCK.ensures.text at c.put_end-else-count-le-BLOCK-2.ensures.text
    ∙ two_blocks c.args.blocks.now (line_text c.args.self.now) c.args.count c.requires.size
    c.if-count-le-BLOCK.false
