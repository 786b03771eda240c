-- The end of a capture comes after its packets.
use Rattle.std.proofs.lemmas.Result.{err_from_is_err_and}
use Rattle.giop_capture.specs.Packets.{capture_packets}
use Rattle.giop_capture.specs.Arrivals.{after_packets, capture_ended}
use Rattle.giop_capture.proofs.ending.read_capture.Goals as goal

pub returns-in_err-read_packets-clause-ran : goal.returns-in_err-read_packets-clause-ran
returns-in_err-read_packets-clause-ran g c =
    λ w h.
    let ran = c.in_err-read_packets.ensures.ran w h in
    let r = err_from_is_err_and c.from_residual.result c.from_residual.ensures.1 in
    (ran.0, rw (r.1, r.2) ran.1)

pub returns-in-Ok-clause-ran : goal.returns-in-Ok-clause-ran
unfolding capture_ended
returns-in-Ok-clause-ran g c =
    λ w h.
    let ran = c.in_ok-read_packets.ensures.ran w h in
    let handed = ran.1.handed in
    let e = c.in-Ok.ensures.ended ran.1.read
    (after_packets g.L.Listener.reader w (capture_packets ran.1.read)) handed.reads
    handed.taken.state in (
      ran.0,
      record {
        given = ran.1.given;
        failures = ran.1.failures;
        read = ran.1.read;
        rest = ran.1.rest;
        parts = handed.parts;
        over = ran.1.over;
        reads = handed.reads;
        fault = e.0;
        ended = e.1;
        told = rw c.in-Ok.ensures.notices handed.taken.told;
      },
    )
