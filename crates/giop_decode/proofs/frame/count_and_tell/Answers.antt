use Rattle.std.proofs.Common.{sym, ◌∙◌}
use Rattle.giop_decode.proofs.HeardFrames.{heard_counted, heard_nowhere}
use Rattle.giop_decode.proofs.Counting.{length_after_octets}
use Rattle.giop_decode.proofs.frame.count_and_tell.Goals as goal

pub returns-in-Nothing : goal.returns-in-Nothing
returns-in-Nothing c =
    heard_nowhere c.args.catalogue.now c.args.octets c.args.outer.now.items _ _ _
    (sym c.requires.inside ∙ c.in-Nothing.is) c.requires.known_outer

pub returns-in-Encapsulation : goal.returns-in-Encapsulation
returns-in-Encapsulation c =
    rw c.count_in_frames.ensures.ticked (heard_counted c.args.catalogue.now c.args.octets
    c.args.outer.now.items _ _ _ (sym c.requires.inside ∙ c.in-Encapsulation.is)
    c.requires.known_outer)

pub returns-in-Telling : goal.returns-in-Telling
returns-in-Telling c = rw c.count_in_frames-in-Telling.ensures.ticked at c.tell_frames.ensures

pub tell_frames-requires-clause-known_outer : goal.tell_frames-requires-clause-known_outer
tell_frames-requires-clause-known_outer c =
    rw c.count_in_frames-in-Telling.ensures.ticked c.requires.known_outer

pub tell_frames-requires-clause-room : goal.tell_frames-requires-clause-room
tell_frames-requires-clause-room c =
    rw (c.count_in_frames-in-Telling.ensures.ticked, length_after_octets) c.requires.room

pub tell_frames-requires-clause-has_output : goal.tell_frames-requires-clause-has_output
tell_frames-requires-clause-has_output c =
    rw c.count_in_frames-in-Telling.ensures.ticked c.requires.has_output
