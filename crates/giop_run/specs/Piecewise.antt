-- The fields of a slice that is read as a source (state).
use Rattle.std.specs.Prelude.{ℕ, List, Some}
use Rattle.giop_run.specs.declared.piecewise.Piecewise.{Piecewise}
use Rattle.giop_run.specs.SourceLog.{SourceLog}

abbrev pub piecewise_log : Piecewise → SourceLog
piecewise_log s = record { left = Some s.left.now; reads = s.reads; failures = 0; ends = s.ends }

-- the octets that no read has given yet
abbrev pub piecewise_left : Piecewise → List ℕ
piecewise_left s = s.left.now

-- the greatest number of octets that a read gives
abbrev pub piecewise_step : Piecewise → ℕ
piecewise_step s = s.step
