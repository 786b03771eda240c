use Rattle.std.proofs.Common.{refl, ◌∙◌}
use Rattle.giop_decode.proofs.Counting.{length_after_octets}
use Rattle.giop_decode.proofs.Passing.{last_says, passed_broken, passed_some}
use Rattle.giop_decode.proofs.Whole.{at_its_last, held_around, held_at_last, held_behind, held_known, held_room}
use Rattle.giop_decode.proofs.decoder.Decoder.complete_held_unit.Goals as goal
use Rattle.giop_print.specs.Output.{Wrote, WroteFront}

pub count_and_tell-requires-clause-inside : goal.count_and_tell-requires-clause-inside
count_and_tell-requires-clause-inside g c =
    let h = c.requires.1 in
    rw h.outer (h.inside ∙ h.fits.inside)

pub count_and_tell-requires-clause-ahead : goal.count_and_tell-requires-clause-ahead
count_and_tell-requires-clause-ahead g c =
    let h = c.requires.1 in
    rw h.outer h.together.ahead

pub count_and_tell-requires-clause-known : goal.count_and_tell-requires-clause-known
count_and_tell-requires-clause-known g c =
    (held_around c.args.catalogue.now c.requires.0 c.args.self.now c.args.octets.now _ _ _ _
    c.requires.1).known

pub count_and_tell-requires-clause-known_outer : goal.count_and_tell-requires-clause-known_outer
count_and_tell-requires-clause-known_outer g c =
    held_known c.args.catalogue.now c.requires.0 c.args.self.now c.args.octets.now _ _ _ _
    c.requires.1

pub count_and_tell-requires-clause-room : goal.count_and_tell-requires-clause-room
count_and_tell-requires-clause-room g c =
    let h = c.requires.1 in
    rw h.outer (held_room c.args.catalogue.now c.requires.0 c.args.self.now c.args.octets.now _ _ _
    _ h)

pub count_and_tell-requires-clause-has_output : goal.count_and_tell-requires-clause-has_output
count_and_tell-requires-clause-has_output g c =
    let h = c.requires.1 in
    rw (length_after_octets, h.outer) h.together.has_output

pub write_and_advance-requires-clause-counted : goal.write_and_advance-requires-clause-counted
write_and_advance-requires-clause-counted g c =
    let a = c.args.ahead in
    let now = c.args.self.now in (
      at_its_last now a.count,
      held_behind c.args.catalogue.now c.requires.0 now c.args.octets.now a.of a.count _ a.step
          a.rest.now _ c.requires.1 c.phase_after-self.ensures (rw c.deref.ensures.0 at
          c.count_and_tell.ensures),
    )

pub returns-in_err-progress : goal.returns-in_err-progress
returns-in_err-progress g c d h =
    let a = c.args.ahead in
    let C = c.args.catalogue.now in
    let octets = c.args.octets.now in
    let now = c.args.self.now in
    let m = at_its_last now a.count in
    let on = held_at_last C d now octets a.of a.count _ a.step a.rest.now _ h refl refl in
    let b = held_behind C d now octets a.of a.count _ a.step a.rest.now _ h
    c.phase_after-self.ensures
    (rw c.deref.ensures.0 at c.count_and_tell.ensures) in
    passed_broken C d octets a.of a.count a.step a.rest.now h.fits m h.together on
    c.from_residual.result c.write_and_advance.new.self _ _ c.from_residual.ensures.0
    (last_says C d octets a.of a.count a.step a.rest.now h.fits m h.together on
    (WroteFront (g.O.Out.log c.args.out.now) (g.O.Out.log c.write_and_advance.new.out))
    (c.in_err-progress.ensures.writes m b))

pub returns : goal.returns
returns g c d h =
    let a = c.args.ahead in
    let C = c.args.catalogue.now in
    let octets = c.args.octets.now in
    let now = c.args.self.now in
    let m = at_its_last now a.count in
    let on = held_at_last C d now octets a.of a.count _ a.step a.rest.now _ h refl refl in
    let b = held_behind C d now octets a.of a.count _ a.step a.rest.now _ h
    c.phase_after-self.ensures
    (rw c.deref.ensures.0 at c.count_and_tell.ensures) in
    passed_some C d octets a.of a.count a.step a.rest.now h.fits m h.together on
    c.write_and_advance.new.self c.in_ok-progress.progress (c.in_ok-progress.ensures.passes m b) _ _
    (last_says C d octets a.of a.count a.step a.rest.now h.fits m h.together on
    (Wrote (g.O.Out.log c.args.out.now) (g.O.Out.log c.write_and_advance.new.out))
    (c.in_ok-progress.ensures.writes m b))
