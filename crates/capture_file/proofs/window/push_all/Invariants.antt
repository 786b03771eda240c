use Rattle.std.proofs.Common.{◌≡◌, ◌++◌, take, vec_capacity}
use Rattle.capture_file.proofs.window.push_all.Given as goal

abbrev pub invariant-loop-octet : goal.invariant-loop-octet
invariant-loop-octet l =
    record {
      items : l.to.items ≡ l.initial.to.items ++ take l.octet-index l.octets;
      capacity : vec_capacity l.to ≡ vec_capacity l.initial.to;
    }
