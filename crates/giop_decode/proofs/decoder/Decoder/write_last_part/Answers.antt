use Rattle.std.proofs.Common.{◌+◌, ◌-◌, ◌%◌, [], ◌++◌, refl}
use Rattle.giop_decode.specs.declared.leaf.Step.{Step}
use Rattle.giop_decode.specs.declared.leaf.Output.TheVariants as outputs
use Rattle.giop_decode.specs.declared.leaf.Transition.TheVariants as transitions
use Rattle.giop_decode.proofs.NextParts.{part_at_last, part_behind, part_broken, part_says, taken_together}
use Rattle.giop_decode.proofs.Passing.{passed_some}
use Rattle.giop_decode.proofs.Whole.{at_last}
use Rattle.giop_decode.specs.NextParts.{frames_above}
use Rattle.giop_decode.specs.Segments.{frames_text}
use Rattle.giop_print.specs.Output.{Wrote}
use Rattle.giop_print.specs.Paths.{root_word}
use Rattle.giop_decode.proofs.decoder.Decoder.write_last_part.Goals as goal

pub note_and_advance-progress-requires-clause-counted :
    goal.note_and_advance-progress-requires-clause-counted
note_and_advance-progress-requires-clause-counted g c = (
  _,
  part_behind c.args.catalogue.now c.args.self.now c.args.part c.requires.fits c.requires.ahead
      c.phase_after-self.result c.phase_after-self.ensures,
)

pub returns-in_err-part_line : goal.returns-in_err-part_line
returns-in_err-part_line g c =
    let C = c.args.catalogue.now in
    let d = c.args.self.now in
    part_broken C d c.args.part c.requires.fits c.requires.ahead
    c.from_residual.result _ _ _ c.from_residual.ensures.0
    (c.in_err-part_line.ensures d.head.message (root_word d.head.root ++ frames_text C
    (frames_above d.outer.items)) c.requires.front)

pub returns : goal.returns
returns g c =
    let a = c.args.part in
    let step : Step = record { transition = transitions.Ended; output = outputs.Number a.number } in
    let C = c.args.catalogue.now in
    let d = c.args.self.now in
    let octets = a.octets.now in
    let f = c.requires.fits in
    let h = c.requires.ahead in
    let there = (d.at + (a.count - 1)) % 8 in
    passed_some C d octets a.of a.count step [] f (at_last d there d.outer)
    (taken_together C d a f h) (part_at_last C d a f h there refl)
    c.note_and_advance-progress.new.self c.note_and_advance-progress.result
    (c.note_and_advance-progress.ensures _ (part_behind C d a f h c.phase_after-self.result
    c.phase_after-self.ensures)) _ _ (part_says C d a f h (Wrote (g.O.Out.log c.args.out.now)
    (g.O.Out.log c.part_line.new.out))
    (c.in_ok-part_line.ensures d.head.message (root_word d.head.root ++ frames_text C
    (frames_above d.outer.items)) c.requires.front))
