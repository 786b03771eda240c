use Rattle.std.proofs.Common.{◌-◌, ◌≡◌, ◌+◌, ◌++◌, ◌≤◌, ◌<◌, ℕ, take, None}
use Rattle.giop_stream.specs.HeaderOctets.{last_octet_fault}
use Rattle.giop_stream.proofs.framing.Framing.header_run.Given as goal

abbrev pub invariant-loop-header_run : goal.invariant-loop-header_run
invariant-loop-header_run l =
    record {
      within : l.header_run ≤ l.room;
      front : l.front.items ≡ l.self.header.items ++ take l.header_run l.octets;
      right : (k : ℕ) → k < l.header_run → last_octet_fault (l.self.header.items ++ take
          (k + 1) l.octets)
          ≡ None;
    }

-- proposed from the loop's first test
abbrev pub decreases-loop-header_run : goal.decreases-loop-header_run
decreases-loop-header_run l = l.room - l.header_run
