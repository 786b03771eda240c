use Rattle.std.proofs.Common.{take}
use Rattle.giop_decode.proofs.NextPieces.{line_is}
use Rattle.giop_decode.proofs.pieces.piece_line.Goals as goal
use Rattle.giop_print.specs.Line.{line_text}

pub returns : goal.returns
returns g c message place front =
    rw (
      front,
      line_is message c.args.piece.offset place (take 32 c.args.piece.octets.now)
          (line_text c.put_piece_end.new.line) (rw c.from.ensures at c.put_piece_end.ensures.text),
    )
    at c.line_behind.ensures
