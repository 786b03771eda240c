-- The packet that a call of `take` gives is the one that the longer list has and the shorter one
-- hasn't.
use Rattle.std.proofs.Common.{ℕ, List, ◌++◌, take, drop, arith}
use Rattle.std.proofs.lemmas.List.{length-drop}
use Rattle.capture_file.specs.CaptureState.{Reads}
use Rattle.giop_capture.specs.Packets.{capture_packets}
use Rattle.giop_capture.proofs.Handing.{handed_more, rest_of, fault_shows, one_more, packet_short}
use Rattle.giop_capture.proofs.reading.give_packets.Goals as goal

pub returns-in_default-Fault-clause-does : goal.returns-in_default-Fault-clause-does
returns-in_default-Fault-clause-does g c =
    λ start p reads taken.
    let so_far = c.loop-count.invariant.handed start p reads taken in
    let n = c.take.result.0 in
    let more = take n c.loop-count.rest.now in
    let longer = c.take.ensures.reads (p ++ so_far.0) so_far.1.reads in
    let answers = rw c.in_default-Fault.is-1 at
    (c.take.ensures.answers (p ++ so_far.0) so_far.1.reads) in (
      so_far.0 ++ more,
      drop n c.loop-count.rest.now,
      handed_more _ c.take.new.self p c.args.octets.now so_far.0 c.loop-count.rest.now n
          so_far.1.parts longer (rw answers.0 so_far.1.taken),
      fault_shows p so_far.0 more c.in_default-Fault.field-0-1 answers.1,
    )

pub on_packet-requires-clause-whole :
    goal.on_packet-requires-clause-whole
on_packet-requires-clause-whole g c =
    let (start, p, reads, taken) = c.loop-count.invariant.has in
    let more = take c.take.result.0 c.loop-count.rest.now in
    let answers = rw c.in_default-Packet.is-1 at (c.take.ensures.answers p reads) in
    packet_short c.take.new.self p more c.loop-count.rest.now c.packet.result answers.0
    c.packet.ensures.octets

pub loop-count-preserved : goal.loop-count-preserved
loop-count-preserved g c =
    let n = c.take.result.0 in
    let more = take n c.loop-count.rest.now in
    let handed_to = c.in_ok-on_packet-in_default-Packet.ensures.does in
    let next : (start : g.L.PacketListener.Start) (p : List ℕ) → Reads c.loop-count.capture p →
    g.L.PacketListener.taken c.loop-count.to start (capture_packets p)
    → g.L.PacketListener.taken c.on_packet.new.self start
    (capture_packets (p ++ more)) =
    λ start p reads taken.
    let answers = rw c.in_default-Packet.is-1 at (c.take.ensures.answers p reads) in
    rw (one_more c.take.new.self p more c.loop-count.rest.now c.packet.result answers.0
    c.packet.ensures.link c.packet.ensures.time c.packet.ensures.octets)
    (handed_to start (capture_packets p) taken) in
    record {
      count = let o = c.take.ensures.octets in let i = c.loop-count.invariant.count in let w =
          c.take.ensures.within in let d = length-drop n c.loop-count.rest.now in
          rw (rest_of n c.loop-count.rest.now) (omega arith);
      has = let (start, p, reads, taken) = c.loop-count.invariant.has in
          (start, p ++ more, c.take.ensures.reads p reads, next start p reads taken);
      handed = λ start p reads taken.
          let so_far = c.loop-count.invariant.handed start p reads taken in (
            so_far.0 ++ more,
            rw (rest_of n c.loop-count.rest.now)
                (handed_more _ c.take.new.self p c.args.octets.now so_far.0 c.loop-count.rest.now n
                so_far.1.parts (c.take.ensures.reads (p ++ so_far.0) so_far.1.reads)
                (next start (p ++ so_far.0) so_far.1.reads so_far.1.taken)),
          );
    }
