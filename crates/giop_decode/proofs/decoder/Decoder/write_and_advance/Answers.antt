use Rattle.std.proofs.Common.{◌+◌}
use Rattle.giop_print.proofs.Writing.{writes_failed}
use Rattle.giop_decode.proofs.Surrounding.{length_after_octet}
use Rattle.giop_decode.proofs.Whole.{behind_gives}
use Rattle.giop_decode.proofs.decoder.Decoder.write_and_advance.Goals as goal

pub write_line-requires-clause-known : goal.write_line-requires-clause-known
write_line-requires-clause-known g c = c.requires.counted.1.around.known

pub write_line-requires-clause-known_outer : goal.write_line-requires-clause-known_outer
write_line-requires-clause-known_outer g c =
    rw c.as_slice.ensures.value c.requires.counted.1.outer.known

pub write_line-requires-clause-room : goal.write_line-requires-clause-room
write_line-requires-clause-room g c =
    let b = c.requires.counted.1 in
    rw (c.as_slice.ensures.value, b.outer.same, length_after_octet c.requires.counted.0.outer.items)
    b.around.room

pub write_line-requires-clause-has_output : goal.write_line-requires-clause-has_output
write_line-requires-clause-has_output g c = rw c.as_slice.ensures.value c.requires.has_output

pub returns-in_err-write_line-clause-writes : goal.returns-in_err-write_line-clause-writes
returns-in_err-write_line-clause-writes g c d b here at lines says =
    let a = c.args.ahead in
    let w = rw (c.as_slice.ensures.value, c.deref.ensures.0) at
    (c.in_err-write_line.ensures (here + 1) at lines) in
    writes_failed c.from_residual.result _ _ _ c.from_residual.ensures.0
    (w (behind_gives c.args.catalogue.now d c.args.self.now a.of.0 a.step a.rest.now here at lines b
    says))

pub returns-clause-writes : goal.returns-clause-writes
returns-clause-writes g c d b here at lines says =
    let a = c.args.ahead in
    let w = rw (c.as_slice.ensures.value, c.deref.ensures.0) at
    (c.in_ok-write_line.ensures (here + 1) at lines) in
    w (behind_gives c.args.catalogue.now d c.args.self.now a.of.0 a.step a.rest.now here at lines b
    says)
