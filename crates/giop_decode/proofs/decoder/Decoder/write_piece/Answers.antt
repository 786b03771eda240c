use Rattle.std.proofs.Common.{◌++◌}
use Rattle.giop_decode.proofs.NextPieces.{piece_broken, piece_some}
use Rattle.giop_decode.specs.Segments.{frames_text}
use Rattle.giop_print.specs.Paths.{root_word}
use Rattle.giop_decode.proofs.decoder.Decoder.write_piece.Goals as goal

pub returns-in_err-piece_line-clause-takes : goal.returns-in_err-piece_line-clause-takes
returns-in_err-piece_line-clause-takes g c =
    let C = c.args.catalogue.now in
    let d = c.args.self.now in
    piece_broken C d c.args.piece c.requires.fits c.requires.ahead c.requires.quiet
    c.requires.outside c.from_residual.result _ _ _ c.from_residual.ensures.0
    (c.in_err-piece_line.ensures d.head.message (root_word d.head.root
    ++ frames_text C d.outer.items)
    c.requires.front)

pub returns-clause-takes : goal.returns-clause-takes
returns-clause-takes g c =
    let C = c.args.catalogue.now in
    let d = c.args.self.now in
    piece_some C d c.args.piece c.requires.fits c.requires.ahead c.requires.quiet
    c.requires.outside _ _
    (c.in_ok-piece_line.ensures d.head.message (root_word d.head.root
    ++ frames_text C d.outer.items)
    c.requires.front)
