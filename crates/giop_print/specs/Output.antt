-- What is known of an `Out`: what was written to it, and what a call of writing did (meaning).
use Rattle.std.specs.Prelude.{◌≡◌, ℕ, ◌+◌, ◌-◌, ◌^◌, ◌≤◌, ◌<◌, List, length, take, Option, Result, min, MatchResult}
use Rattle.std.specs.Io.KnownBytes.{Appends, Keeps}

-- what was written, if that is known, and how many puts and failures there were
pub record OutLog : Type 0 where
  pub written : Option (List ℕ)
  pub puts : ℕ
  pub failures : ℕ

-- one more, except that a count of 2^64 - 1 stays
unfoldable pub saturating_next : (count : ℕ) → ℕ
saturating_next count = min (count + 1) (2 ^ 64 - 1)

-- a put took the first n octets of those that it was given: at least one, unless there were none
pub record Took (before after : OutLog) (given_octets : List ℕ) (taken_count : ℕ) : Type 0 where
  pub some : 0 < length given_octets → 0 < taken_count
  pub within : taken_count ≤ length given_octets
  pub written : Appends before.written after.written (take taken_count given_octets)
  pub puts : after.puts ≡ saturating_next before.puts
  pub failures : after.failures ≡ before.failures

-- a put failed and wrote nothing
pub record Failed (before after_failed_put : OutLog) : Type 0 where
  pub written : Keeps before.written after_failed_put.written
  pub puts : after_failed_put.puts ≡ saturating_next before.puts
  pub failures : after_failed_put.failures ≡ saturating_next before.failures

-- all that was due was written, by at most as many puts as octets, and no put failed
pub record Wrote (before after : OutLog) (octets_due : List ℕ) : Type 0 where
  pub written : Appends before.written after.written octets_due
  pub puts : after.puts ≤ before.puts + length octets_due
  pub failures : after.failures ≡ before.failures

-- a front of what was due was written, and then a put failed
pub record WroteFront (before after_failed_put : OutLog) (octets_due : List ℕ) : Type 0 where
  pub size : ℕ
  pub written : Appends before.written after_failed_put.written (take size octets_due)
  pub puts : after_failed_put.puts ≤ before.puts + length octets_due
  pub failures : after_failed_put.failures ≡ saturating_next before.failures

-- what writing did: all that was due was written; or a front of it, and then a put failed
abbrev pub Writes : {A E : Type 0} (result : Result A E) (before after : OutLog)
    (octets_due : List ℕ) → Type 0
Writes r before after due = MatchResult r (λ _. Wrote before after due)
    (λ _. WroteFront before after due)
