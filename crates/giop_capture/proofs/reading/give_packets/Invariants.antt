-- What the listener was given until now.
use Rattle.std.proofs.Common.{◌≡◌, ◌+◌, ℕ, List, length}
use Rattle.capture_file.specs.CaptureState.{Reads, octets_of}
use Rattle.giop_capture.specs.Packets.{HasGivenPackets, HasTakenAllRead, capture_packets}
use Rattle.giop_capture.proofs.reading.give_packets.Given as goal

abbrev pub invariant-loop-count : goal.invariant-loop-count
invariant-loop-count g l =
    record {
      count : octets_of l.capture + length l.rest ≡ octets_of l.fn.capture + length l.octets;
      has : HasTakenAllRead g.L.PacketListener.taken l.to l.capture;
      handed : (start : g.L.PacketListener.Start) (p : List ℕ) → Reads l.fn.capture p →
          g.L.PacketListener.taken l.fn.to start (capture_packets p)
          → (read : List ℕ) × HasGivenPackets (g.L.PacketListener.taken l.to start) l.capture p
          l.octets
          read l.rest;
    }

abbrev pub decreases-loop-count : goal.decreases-loop-count
decreases-loop-count g l = length l.rest
