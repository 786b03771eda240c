-- All that the source gave until now was read, and its packets were given to the listener.
use Rattle.std.proofs.Common.{◌≤◌, ◌+◌, ◌*◌, ℕ, List, [], length}
use Rattle.capture_file.specs.CaptureState.{octets_of}
use Rattle.giop_capture.specs.Packets.{ReadAll}
use Rattle.giop_capture.proofs.reading.read_packets.Given as goal

abbrev pub invariant-loop-turn : goal.invariant-loop-turn
invariant-loop-turn g l =
    record {
      all : (start : g.L.PacketListener.Start) → g.L.PacketListener.taken l.fn.to start [] →
          (s : List ℕ)
          × ReadAll (g.L.PacketListener.taken l.to start) l.capture [] s
          (g.S.Source.log l.fn.source) (g.S.Source.log l.source)
          × (l._turn ≤ length s);
      count : octets_of l.capture ≤ l._turn * 16384;
      reads : (g.S.Source.log l.source).reads ≤ (g.S.Source.log l.fn.source).reads + l._turn;
    }
