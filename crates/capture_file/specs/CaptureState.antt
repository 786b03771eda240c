-- What a capture holds of the octets that were taken. These octets determine each of its fields
-- (state).
use Rattle.std.specs.Prelude.{◌≡◌, ℕ, ◌+◌, ◌≤◌, Bool, true, false, List, [], ◌∷◌, ◌++◌, length, slice_range, vec_capacity, Some, None, if◌then◌else◌}
use Rattle.capture_file.specs.declared.capture.Capture.{Capture}
use Rattle.capture_file.specs.declared.part.PacketInfo.{PacketInfo}
use Rattle.capture_file.specs.declared.progress.Progress.{Progress}
use Rattle.capture_file.specs.declared.progress.Progress.TheVariants as progress
use Rattle.capture_file.specs.Parts.{front, passed, back}
use Rattle.capture_file.specs.Window.{IsHeld}
use Rattle.capture_file.specs.Reading.{ParserState, Ending, Within, Faulted, reading, packets, fault}

-- a part has begun, and these octets of it have come; the capture holds those of them that are at
-- the part's front or at its end
pub record HoldsPart (capture : Capture) (state : ParserState) (part_octets_so_far : List ℕ)
    : Type 0 where
  pub running : capture.fault ≡ None
  pub part : capture.part ≡ state.part
  pub interfaces : capture.interfaces.items ≡ state.interfaces
  pub taken : capture.taken ≡ length part_octets_so_far
  pub packet_octets : IsHeld 0 (front state.part) part_octets_so_far capture.packet_octets.items
  pub end_octets : IsHeld (front state.part + passed state.part)
      (back state.part) part_octets_so_far capture.end_octets

abbrev pub HoldsEnding : (capture : Capture) (ending : Ending) → Type 0
HoldsEnding c (Within state at had) = HoldsPart c state had
HoldsEnding c (Faulted fault) = c.fault ≡ Some fault

-- The capture has taken the octets p.
pub record Reads (capture : Capture) (octets_taken : List ℕ) : Type 0 where
  pub octets : capture.octets ≡ length octets_taken
  pub packets : capture.packets ≡ length (packets octets_taken)
  pub stands : HoldsEnding capture (reading octets_taken).ending

-- there is room for the same number of interfaces, and for a packet of the same length
pub record HasSameRoom (old new : Capture) : Type 0 where
  pub interfaces : vec_capacity new.interfaces ≡ vec_capacity old.interfaces
  pub packet_octets : vec_capacity new.packet_octets ≡ vec_capacity old.packet_octets

-- how many octets a capture has taken
abbrev pub octets_of : (capture : Capture) → ℕ
octets_of c = c.octets

-- the packet stands in what the capture holds, or in the octets that were given last
abbrev pub PacketIsWithin : (is_held : Bool) (packet_end : ℕ) (held_octets given_octets : List ℕ) →
    Type 0
PacketIsWithin true end held octets = end ≤ length held
PacketIsWithin false end held octets = end ≤ length octets

abbrev pub PacketIsIn : (capture : Capture) (given_octets : List ℕ) → Type 0
PacketIsIn c octets = PacketIsWithin c.packet_range.held c.packet_range.end c.packet_octets.items
    octets

-- what is known of the packet, and its octets
abbrev pub info_in : (capture : Capture) → PacketInfo
info_in c = c.packet_range.info

abbrev pub octets_around : (capture : Capture) (given_octets : List ℕ) → List ℕ
octets_around c octets = if c.packet_range.held then c.packet_octets.items else octets

abbrev pub octets_in : (capture : Capture) (given_octets : List ℕ) → List ℕ
octets_in c octets =
    slice_range (octets_around c octets) c.packet_range.start c.packet_range.end

-- The answer after octets were taken that come after `before`. They are the first ones of those
-- given, and only the last of them completes or shows anything. The answer is that more octets can
-- be taken, that a packet is complete, or that a fault shows.
abbrev pub Answers : (progress : Progress) (octets_before octets_taken : List ℕ) (capture : Capture)
    (given_octets : List ℕ) → Type 0
Answers progress.More before taken c octets =
    (packets (before ++ taken) ≡ packets before) × (fault (before ++ taken) ≡ None)
Answers progress.Packet before taken c octets =
    (packets (before ++ taken)
    ≡ packets before ++ record {
      place = length (before ++ taken);
      info = info_in c;
      octets = octets_in c octets;
    } ∷ [])
    × (fault (before ++ taken) ≡ None)
Answers (progress.Fault f) before taken c octets =
    (packets (before ++ taken) ≡ packets before) × (fault (before ++ taken) ≡ Some f)
    × (f.place ≡ length (before ++ taken))

-- the capture goes on if the octets complete nothing
abbrev pub RunsIfMore : (progress : Progress) (capture : Capture) → Type 0
RunsIfMore progress.More c = c.fault ≡ None
RunsIfMore _ c = Unit {0}
