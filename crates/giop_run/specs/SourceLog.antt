-- The log of a source, and what a read does to it (meaning).
use Rattle.std.specs.Prelude.{◌≡◌, ℕ, ◌≤◌, ◌<◌, List, length, take, Option, ◌==◌, ◌&&◌, nat_lt, if◌then◌else◌}
use Rattle.std.specs.Io.KnownBytes.{Consumes, Keeps, IsAtEnd}
use Rattle.giop_print.specs.Output.{saturating_next}

-- the octets that are left, if they are known, and how many reads, failures and ends there were
pub record SourceLog : Type 0 where
  pub left : Option (List ℕ)
  pub reads : ℕ
  pub failures : ℕ
  pub ends : ℕ

-- a source before the first read; its octets are known if the argument is Some
abbrev pub unread_source : (octets_if_known : Option (List ℕ)) → SourceLog
unread_source told = record { left = told; reads = 0; failures = 0; ends = 0 }

-- a read put `given_count` octets at the start of a buffer; if it gave none and the buffer isn't
-- empty, the count of ends rises and nothing is left
pub record ReadGave (before after : SourceLog) (buffer_after : List ℕ) (given_count : ℕ)
    : Type 0 where
  pub within : given_count ≤ length buffer_after
  pub left : Consumes before.left after.left (take given_count buffer_after)
  pub over : given_count ≡ 0 → 0 < length buffer_after → IsAtEnd after.left
  pub reads : after.reads ≡ saturating_next before.reads
  pub failures : after.failures ≡ before.failures
  pub ends : after.ends
      ≡ (if given_count == 0 && nat_lt 0 (length buffer_after) then saturating_next before.ends
      else before.ends)

-- a read failed and gave nothing
pub record ReadFailed (before after : SourceLog) : Type 0 where
  pub left : Keeps before.left after.left
  pub reads : after.reads ≡ saturating_next before.reads
  pub failures : after.failures ≡ saturating_next before.failures
  pub ends : after.ends ≡ before.ends
