-- What a flush of an out does: it writes the octets that the out keeps back (meaning).
use Rattle.std.specs.Prelude.{◌≡◌, ℕ, List, [], Result, MatchResult}
use Rattle.std.specs.Io.KnownBytes.{Keeps}
use Rattle.giop_print.specs.Output.{OutLog, saturating_next}

-- what was written stays, and nothing of it is kept back
pub record Flushed (before after : OutLog) (kept_back_after : List ℕ) : Type 0 where
  pub written : Keeps before.written after.written
  pub puts : after.puts ≡ before.puts
  pub failures : after.failures ≡ before.failures
  pub none : kept_back_after ≡ []

-- what was written stays, and a failure is counted
pub record FlushFailed (before after : OutLog) : Type 0 where
  pub written : Keeps before.written after.written
  pub puts : after.puts ≡ before.puts
  pub failures : after.failures ≡ saturating_next before.failures

-- what a flush did, by its result
abbrev pub Flushes : {A E : Type 0} (flush_result : Result A E) (before after : OutLog)
    (kept_back_after : List ℕ) → Type 0
Flushes r before after kept = MatchResult r (λ _. Flushed before after kept)
    (λ _. FlushFailed before after)
