-- What one read of a file did, when the file is read as a whole (steps).
use Rattle.std.specs.Prelude.{◌≡◌, ℕ, ◌≤◌, ◌<◌, Bool, false, nat_lt, List, ◌++◌, length}
use Rattle.std.specs.Io.KnownBytes.{Consumes, IsAtEnd}
use Rattle.giop_run.specs.SourceLog.{SourceLog}

-- a read gave at most `most_octets` octets, and they were appended to those before; if it gave none
-- though it could, nothing is left
pub record AppendedOneRead (before after : SourceLog) (octets_before octets_after : List ℕ)
    (most_octets : ℕ) (gave_some : Bool) : Type 0
  where
    pub given : List ℕ
    pub left : Consumes before.left after.left given
    pub all : octets_after ≡ octets_before ++ given
    pub few : length given ≤ most_octets
    pub some_is : gave_some ≡ nat_lt 0 (length given)
    pub over : gave_some ≡ false → 0 < most_octets → IsAtEnd after.left
