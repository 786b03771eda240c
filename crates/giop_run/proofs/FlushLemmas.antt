-- What was written before a flush stays written after it. A flush that fails writes nothing of what
-- was due.
use Rattle.std.proofs.Common.{ℕ, List, [], Option, Some, None, ◌∙◌, append-nil, sym, arith}
use Rattle.std.specs.Io.KnownBytes.{Appends, Keeps}
use Rattle.giop_print.specs.Output.{OutLog, Wrote, WroteFront}
use Rattle.giop_print.specs.Flushing.{Flushed, FlushFailed}

appends_kept : (a b c : Option (List ℕ)) (due : List ℕ) → Appends a b due → Keeps b c →
    Appends a c due
appends_kept None b c due p q = tt
appends_kept (Some x) None c due p q = absurd p
appends_kept (Some x) (Some y) None due p q = absurd q
appends_kept (Some x) (Some y) (Some z) due p q = q ∙ p

appends_none : (a b : Option (List ℕ)) → Keeps a b → Appends a b []
appends_none None b k = tt
appends_none (Some x) None k = absurd k
appends_none (Some x) (Some y) k = rw k (sym (append-nil x))

-- what was written stays written after a flush
pub wrote_flushed : (x y z : OutLog) (due kept : List ℕ) → Wrote x y due → Flushed y z kept →
    Wrote x z due
wrote_flushed x y z due kept w f =
    record {
      written = appends_kept x.written y.written z.written due w.written f.written;
      puts = omega (arith, w.puts, f.puts);
      failures = f.failures ∙ w.failures;
    }

-- a flush that failed wrote nothing of what was due
pub flush_front : (x y : OutLog) (due : List ℕ) → FlushFailed x y → WroteFront x y due
flush_front x y due f =
    record {
      size = 0;
      written = appends_none x.written y.written f.written;
      puts = omega (arith, f.puts);
      failures = f.failures;
    }
