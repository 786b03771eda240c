use Rattle.std.proofs.Common.{◌≡◌, ◌+◌, ◌-◌, ◌≤◌, ℕ, List, ◌++◌, take, length, None}
use Rattle.capture_file.specs.CaptureState.{Reads, HasSameRoom}
use Rattle.capture_file.specs.Reading.{packets}
use Rattle.capture_file.proofs.capture.Capture.take.Given as goal

abbrev pub invariant-loop-start : goal.invariant-loop-start
invariant-loop-start l =
    record {
      within : l.start ≤ length l.octets;
      memory : HasSameRoom l.initial.self l.self;
      running : l.self.fault ≡ None;
      octets : l.self.octets ≡ l.initial.self.octets + l.start;
      reads : (p : List ℕ) → Reads l.initial.self p → Reads l.self (p ++ take l.start l.octets);
      packets : (p : List ℕ) → Reads l.initial.self p →
          packets (p ++ take l.start l.octets) ≡ packets p;
    }

abbrev pub decreases-loop-start : goal.decreases-loop-start
decreases-loop-start l = length l.octets - l.start
