-- What is known of a writer as an `Out` (state).
use Rattle.std.specs.Prelude.{ℕ, List, Option}
use Rattle.giop_print.specs.declared.written.Written.{Written}
use Rattle.giop_print.specs.Output.{OutLog}

abbrev pub written_log : {W : Type 0} (contents_of_writer : W → Option (List ℕ))
    (written : Written W) → OutLog
written_log contents w = record {
  written = contents w.writer;
  puts = w.puts;
  failures =
      w.failures;
}
