use Rattle.std.proofs.Common.{map, take}
use Rattle.giop_run.specs.Joint.{AreRead}
use Rattle.giop_run.proofs.joint.read_signature_files.Given as goal

-- the files of the names until now
abbrev pub invariant-loop-name : goal.invariant-loop-name
invariant-loop-name g l =
    AreRead (g.R.Inputs.held l.rt) (map (λ name. name.now) (take l.name-index l.names))
    l.files.items
