use Rattle.std.proofs.Common.{◌≡◌, drop}
use Rattle.giop_sig_files.specs.Places.{place}
use Rattle.giop_sig_files.proofs.places.place.Given as goal

abbrev pub invariant-loop-next : goal.invariant-loop-next
invariant-loop-next l = place l.file (drop l.next-index l.others) l.line
    ≡ place l.fn.first l.others l.fn.line
