-- The numbers of the refusals of an engine that reads or saves (docs/FORMATS.md, Refusals;
-- meaning).
use Rattle.std.specs.Prelude.{ℕ}
use Rattle.giop_stream.specs.declared.fault.Stop.{Stop}
use Rattle.giop_stream.specs.declared.fault.Stop.TheVariants as stop

-- a put failed, or the engine had failed before the call
abbrev pub stop_number : (stop : Stop) → ℕ
stop_number (stop.Out fault) = 1
stop_number stop.Failed = 2
