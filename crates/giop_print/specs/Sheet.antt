-- What is known of a sheet as an `Out`, and its room (state).
use Rattle.std.specs.Prelude.{ℕ, ◌-◌, length, take, Some}
use Rattle.giop_print.specs.declared.sheet.Sheet.{Sheet}
use Rattle.giop_print.specs.Output.{OutLog}

abbrev pub sheet_log : (sheet : Sheet) → OutLog
sheet_log s = record {
  written = Some (take s.used s.into.now);
  puts = s.puts;
  failures =
      s.failures;
}

-- how many more octets fit
abbrev pub sheet_room : (sheet : Sheet) → ℕ
sheet_room s = length s.into.now - s.used
