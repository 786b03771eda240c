-- The octets in a buffer; and the log of lines that a buffer keeps back for a writer, as an out has
-- a log (state).
use Rattle.std.specs.Prelude.{ℕ, ◌+◌, ◌-◌, ◌^◌, List, take, min, Option}
use Rattle.std.specs.Io.KnownBytes.{append_known}
use Rattle.giop_print.specs.Output.{OutLog}
use Rattle.giop_run.specs.declared.buffer.Buffer.{Buffer}
use Rattle.giop_run.specs.declared.lines.Lines.{Lines}

-- the octets that wait in a buffer: the first `kept` ones
abbrev pub buffered : Buffer → List ℕ
buffered b = take b.kept b.octets.items

-- the octets that are kept back of lines
abbrev pub lines_kept_back : {W : Type 0} → Lines W → List ℕ
lines_kept_back l = buffered l.buffer

-- the log of lines: what the writer has, and after it the octets that are kept back; and all puts,
-- of which a count of 2^64 - 1 stays. `contents` is the writer's log
abbrev pub lines_log : {W : Type 0} (writer_contents : W → Option (List ℕ)) (lines : Lines W) →
    OutLog
lines_log contents l = record {
  written = append_known (contents l.writer) (lines_kept_back l);
  puts = min (l.puts + l.buffer.recent) (2 ^ 64 - 1);
  failures = l.failures;
}
