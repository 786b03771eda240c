-- The log of a reader as a source (state).
use Rattle.std.specs.Prelude.{ℕ, List, Option}
use Rattle.giop_run.specs.declared.reading.Reading.{Reading}
use Rattle.giop_run.specs.SourceLog.{SourceLog}

-- `remaining` gives the octets that the reader has left, if they are known
abbrev pub reading_log : {R : Type 0} (remaining : R → Option (List ℕ)) (reading : Reading R) →
    SourceLog
reading_log remaining r = record {
  left = remaining r.reader;
  reads = r.reads;
  failures =
      r.failures;
  ends = r.ends;
}
