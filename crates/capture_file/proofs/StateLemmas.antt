-- What the octets that a capture has taken say about its fields.
use Rattle.std.proofs.Common.{◌≡◌, ℕ, [], length, None, arith}
use Rattle.capture_file.specs.declared.capture.Capture.{Capture}
use Rattle.capture_file.specs.declared.part.Part.TheVariants as parts
use Rattle.capture_file.specs.Reading.{reading_from, reading}
use Rattle.capture_file.specs.CaptureState.{Reads}

-- a capture that has taken nothing has read nothing
pub reads_none : (c : Capture) → c.octets ≡ 0 → c.packets ≡ 0 → c.part ≡ parts.Beginning →
    c.taken ≡ 0 → c.fault ≡ None →
    length {A = ℕ} [] ≡ 0 → c.interfaces.items ≡ [] → Reads c []
unfolding reading reading_from
reads_none c octets packets part taken fault zero interfaces = search (arith)
