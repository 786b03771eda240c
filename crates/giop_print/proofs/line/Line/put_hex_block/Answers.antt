use Rattle.std.proofs.Common.{take}
use Rattle.giop_print.specs.Line.{line_text}
use Rattle.giop_print.proofs.Spelling.{hex_parted}
use Rattle.giop_print.proofs.line.Line.put_hex_block.Goals as goal

pub returns-clause-text : goal.returns-clause-text
returns-clause-text c =
    rw (
      c.put_lanes-2.ensures.text,
      c.put_lanes.ensures.text,
      c.digit_pairs.ensures.first,
      c.digit_pairs.ensures.others,
    )
    (hex_parted 8 (take 16 c.args.octets.now) (line_text c.args.self.now))
