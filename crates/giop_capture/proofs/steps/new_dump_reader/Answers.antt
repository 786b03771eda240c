-- No event has come, so no text was written after what was written before.
use Rattle.std.proofs.Common.{refl}
use Rattle.giop_capture.proofs.steps.new_dump_reader.Goals as goal

pub packet_reader-requires-clause-start : goal.packet_reader-requires-clause-start
packet_reader-requires-clause-start g c =
    rw (c.new-2.ensures.conversations, c.new-2.ensures.none) (
      c.in-Ok.ensures.follows,
      λ S written begins.
          let b = c.requires.begins S written begins in
          rw b.0 (c.in-Ok.ensures.told written b.1),
      refl,
    )
