-- What the end of a part does to a capture's fields (steps). Only private clauses cite these.
use Rattle.std.specs.Prelude.{◌≡◌, ℕ, suc, ◌+◌, ◌≤◌, min, Bool, false, List, ◌++◌, length, Some}
use Rattle.capture_file.specs.declared.capture.Capture.{Capture}
use Rattle.capture_file.specs.declared.capture.PacketRange.{PacketRange}
use Rattle.capture_file.specs.declared.part.FileHeader.{FileHeader}
use Rattle.capture_file.specs.declared.part.PacketInfo.{PacketInfo}
use Rattle.capture_file.specs.declared.part.Part.{Part}
use Rattle.capture_file.specs.declared.part.Part.TheVariants as parts
use Rattle.capture_file.specs.declared.part.Outcome.{Outcome}
use Rattle.capture_file.specs.declared.part.Outcome.TheVariants.{Continues, EndsPacket, Fails}
use Rattle.capture_file.specs.declared.progress.Progress.{Progress}
use Rattle.capture_file.specs.declared.progress.Progress.TheVariants as progress
use Rattle.capture_file.specs.Parts.{front, passed, back, packet_offset}
use Rattle.capture_file.specs.Window.{IsHeld}
use Rattle.capture_file.specs.Format.{interfaces_behind}
use Rattle.capture_file.specs.Records.{IsWholeRecord}

-- This piece of the part that has begun is held. Only those of its octets are kept that will be
-- looked at, or given to the caller, when the part is complete. They are held after the octets that
-- came before.
pub record HoldsPiece (old new : Capture) (piece_of_part : List ℕ) : Type 0 where
  pub part : new.part ≡ old.part
  pub interfaces : new.interfaces.items ≡ old.interfaces.items
  pub fault : new.fault ≡ old.fault
  pub packets : new.packets ≡ old.packets
  pub come : min (old.taken + length piece_of_part) (front old.part)
      ≤ length new.packet_octets.items
  pub packet_octets : (had : List ℕ) → length had ≡ old.taken →
      IsHeld 0 (front old.part) had old.packet_octets.items →
      IsHeld 0 (front old.part) (had ++ piece_of_part) new.packet_octets.items
  pub end_octets : (had : List ℕ) → length had ≡ old.taken →
      IsHeld (front old.part + passed old.part) (back old.part) had old.end_octets →
      IsHeld (front old.part + passed old.part) (back old.part) (had ++ piece_of_part)
      new.end_octets

-- octets were counted
pub record CountsOctets (old new : Capture) (octets_counted : ℕ) : Type 0 where
  pub part : new.part ≡ old.part
  pub interfaces : new.interfaces.items ≡ old.interfaces.items
  pub taken : new.taken ≡ old.taken
  pub fault : new.fault ≡ old.fault
  pub packets : new.packets ≡ old.packets
  pub octets : new.octets ≡ old.octets + octets_counted

-- a packet ends, and this is its place
pub record EndsPacketAt (old new : Capture) (range : PacketRange) : Type 0 where
  pub part : new.part ≡ old.part
  pub interfaces : new.interfaces.items ≡ old.interfaces.items
  pub taken : new.taken ≡ old.taken
  pub fault : new.fault ≡ old.fault
  pub octets : new.octets ≡ old.octets
  pub packet_octets : new.packet_octets.items ≡ old.packet_octets.items
  pub packets : new.packets ≡ suc old.packets
  pub packet_range : new.packet_range ≡ range

-- a part begins after another one
pub record PartBegins (old new : Capture) (new_part : Part) : Type 0 where
  pub part : new.part ≡ new_part
  pub interfaces : new.interfaces.items ≡ interfaces_behind old.part old.interfaces.items
  pub taken : new.taken ≡ 0
  pub fault : new.fault ≡ old.fault
  pub octets : new.octets ≡ old.octets
  pub packet_octets : new.packet_octets.items ≡ old.packet_octets.items

-- a part is complete; it began at this index of the octets that the caller gave, or is held
abbrev pub Completes : (outcome : Outcome) (old new : Capture) (answer : Progress)
    (part_start_in_given : ℕ) (part_is_held : Bool) → Type 0
Completes (Continues part) old new answer start held =
    (answer ≡ progress.More) × PartBegins old new part × (new.packets ≡ old.packets)
Completes (EndsPacket info part) old new answer start held =
    (answer ≡ progress.Packet) × PartBegins old new part × (new.packets ≡ suc old.packets)
    × (new.packet_range ≡ record {
      info = info;
      start = start + packet_offset old.part;
      end = start + front old.part;
      held = held;
    })
Completes (Fails kind) old new answer start held =
    (answer ≡ progress.Fault (record { kind = kind; place = old.octets }))
    × (new.fault ≡ Some (record { kind = kind; place = old.octets }))
    × (new.packets ≡ old.packets) × (new.octets ≡ old.octets)

-- a record may begin, and these octets begin with the whole record
pub record IsRecordDue (capture : Capture) (given_octets : List ℕ) (packet_info : PacketInfo)
    (captured_length : ℕ) : Type 0 where
  pub file : FileHeader
  pub part : capture.part ≡ parts.RecordHeader file
  pub fresh : capture.taken ≡ 0
  pub whole : IsWholeRecord file given_octets packet_info captured_length

-- a whole record was taken, which begins at this index of the octets that the caller gave
pub record TakesRecord (old new : Capture) (packet_info : PacketInfo)
    (record_start_in_given captured_length : ℕ) : Type 0 where
  pub part : new.part ≡ old.part
  pub interfaces : new.interfaces.items ≡ old.interfaces.items
  pub taken : new.taken ≡ old.taken
  pub fault : new.fault ≡ old.fault
  pub octets : new.octets ≡ old.octets + (16 + captured_length)
  pub packets : new.packets ≡ suc old.packets
  pub packet_range : new.packet_range ≡ record {
    info = packet_info;
    start = record_start_in_given + 16;
    end = record_start_in_given + (16 + captured_length);
    held = false;
  }
