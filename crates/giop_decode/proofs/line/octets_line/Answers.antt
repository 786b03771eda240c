use Rattle.std.proofs.Common.{◌≡◌, ap}
use Rattle.giop_decode.specs.Segments.{PathView}
use Rattle.giop_decode.proofs.line.octets_line.Goals.{in-Octets, in-Text, in-WideChar, in-WideText}
use Rattle.giop_decode.proofs.line.octets_line.Goals as goal
use Rattle.giop_print.specs.Lines.{content_line}

pub returns : goal.returns
unfolding content_line
returns g c n =
    let table : c.path.inside.catalogue.now ≡ c.args.path.now.table =
    ap (λ (v : PathView). v.table) c.path.view_is in
    elim c.match-shape.branch [
      | in-Text w ↦ rw (rw table at (w.in-Text.ensures.shapes n))
          (rw (w.held-is, c.from-offset.ensures) at c.split_piece_line.ensures)
      | in-Octets w ↦ rw (rw table at (w.in-Octets.ensures.shapes n))
          (rw (w.held-is, c.from-offset.ensures) at c.split_piece_line.ensures)
      | in-WideText w ↦ rw (rw table at (w.in-WideText.ensures.shapes n))
          (rw (w.held-is, c.from-offset.ensures) at c.split_piece_line.ensures)
      | in-WideChar w ↦ rw (rw table at (w.in-WideChar.ensures.shapes n))
          (rw (w.held-is, c.from-offset.ensures) at c.split_piece_line.ensures)
    ]
