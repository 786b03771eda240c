use Rattle.std.proofs.Common.{◌++◌, refl}
use Rattle.giop_decode.proofs.NextParts.{part_broken, part_some}
use Rattle.giop_decode.specs.NextParts.{frames_above}
use Rattle.giop_decode.specs.Segments.{frames_text}
use Rattle.giop_print.specs.Paths.{root_word}
use Rattle.giop_decode.proofs.decoder.Decoder.write_part.Goals as goal

pub returns-in_err-part_line-clause-takes : goal.returns-in_err-part_line-clause-takes
returns-in_err-part_line-clause-takes g c =
    let C = c.args.catalogue.now in
    let d = c.args.self.now in
    part_broken C d c.args.part c.requires.fits c.requires.ahead
    c.from_residual.result _ _ _ c.from_residual.ensures.0
    (c.in_err-part_line.ensures d.head.message (root_word d.head.root ++ frames_text C
    (frames_above d.outer.items)) c.requires.front)

pub returns-clause-takes : goal.returns-clause-takes
returns-clause-takes g c =
    let C = c.args.catalogue.now in
    let d = c.args.self.now in
    part_some C d c.args.part c.requires.fits c.requires.ahead _ c.args.next
    c.requires.next
    (record {
      order = refl;
      head = refl;
      forbids_wide = refl;
      inside = refl;
      notes = refl;
      carry = refl;
      piece = refl;
      at = c.phase_after-self.ensures;
      leaf = refl;
      outer = c.go_to_next.ensures (frames_above d.outer.items) c.args.part.frame
          c.requires.ahead.outer;
    }) c.requires.body _ _
    (c.in_ok-part_line.ensures d.head.message (root_word d.head.root ++ frames_text C
    (frames_above d.outer.items)) c.requires.front)
