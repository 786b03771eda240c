-- The packets of a capture, and the fault that ends its reading (meaning). A capture is a row of
-- parts. The octets of each part tell which part comes next.
use Rattle.std.specs.Prelude.{ℕ, zero, suc, ◌+◌, nat_lt, List, [], ◌∷◌, length, take, drop, Option, Some, None, if◌then◌else◌}
use Rattle.capture_file.specs.declared.fault.FaultKind.TheVariants.{Truncated}
use Rattle.capture_file.specs.declared.fault.CaptureFault.{CaptureFault}
use Rattle.capture_file.specs.declared.part.Interface.{Interface}
use Rattle.capture_file.specs.declared.part.PacketInfo.{PacketInfo}
use Rattle.capture_file.specs.declared.part.Part.{Part}
use Rattle.capture_file.specs.declared.part.Part.TheVariants as parts
use Rattle.capture_file.specs.declared.part.Outcome.{Outcome}
use Rattle.capture_file.specs.declared.part.Outcome.TheVariants.{Continues, EndsPacket, Fails}
use Rattle.capture_file.specs.Parts.{front, passed, back, packet_offset, size, may_end_before}
use Rattle.capture_file.specs.Format.{outcome_after, interfaces_behind}

-- a packet: its link type, its time and its octets; its place is the number of octets that the
-- capture has up to the end of the packet's record or block
pub record PacketRecord : Type 0 where
  pub place : ℕ
  pub info : PacketInfo
  pub octets : List ℕ

-- the part that comes next, and the interfaces of its section
pub record ParserState : Type 0 where
  pub part : Part
  pub interfaces : List Interface

-- how a reading ends: within a part, which begins after this number of octets of the capture, and
-- of which these octets have come; or with a fault
pub data Ending : Type 0 where
  Within : ParserState → ℕ → List ℕ → Ending
  Faulted : CaptureFault → Ending

-- the packets that were read, and how the reading ends
pub record Reading : Type 0 where
  pub packets : List PacketRecord
  pub ending : Ending

-- the octets at a part's end
abbrev pub end_of : (part : Part) (part_octets : List ℕ) → List ℕ
end_of part octets = take (back part) (drop (front part + passed part) octets)

-- the octets of the packet at a part's front
abbrev pub packet_in : (part : Part) (part_octets : List ℕ) → List ℕ
packet_in part octets = drop (packet_offset part) (take (front part) octets)

-- how a reading goes on after a part that ends at this place; `packet` is the packet's octets, if
-- the part ends one
abbrev pub behind : (state_at_part : ParserState) (packet_octets : List ℕ) (part_end_place : ℕ)
    (outcome_of_part : Outcome) (reading_after_part : ParserState → Reading) → Reading
behind state packet place (Continues part) rest =
    rest (record { part = part; interfaces = interfaces_behind state.part state.interfaces })
behind state packet place (EndsPacket info part) rest =
    let r =
    rest (record { part = part; interfaces = interfaces_behind state.part state.interfaces }) in
    record r { packets = record { place = place; info = info; octets = packet } ∷ r.packets }
behind state packet place (Fails kind) rest =
    record { packets = []; ending = Faulted (record { kind = kind; place = place }) }

-- The reading of octets, if this part comes next after `at` other octets. The first number is a
-- bound on how many parts are read. Each part has at least one octet, so there are no more parts
-- than octets.
unfoldable pub reading_from : (most_parts : ℕ) (state : ParserState) (capture_octets_before : ℕ)
    (octets : List ℕ) → Reading
reading_from zero state at octets = record { packets = []; ending = Within state at octets }
reading_from (suc most) state at octets =
    if nat_lt (length octets) (size state.part)
    then record { packets = []; ending = Within state at octets }
    else behind state (packet_in state.part octets) (at + size state.part)
    (outcome_after state.part state.interfaces (end_of state.part octets))
    (λ rest. reading_from most rest (at + size state.part) (drop (size state.part) octets))

-- the state at the beginning of a capture
abbrev pub start : ParserState
start = record { part = parts.Beginning; interfaces = [] }

unfoldable pub reading : (capture : List ℕ) → Reading
reading capture = reading_from (length capture) start 0 capture

-- the packets of a capture, or of as much of it as there is
abbrev pub packets : (capture : List ℕ) → List PacketRecord
packets capture = (reading capture).packets

abbrev pub fault_of : (ending : Ending) → Option CaptureFault
fault_of (Within state at octets) = None
fault_of (Faulted fault) = Some fault

-- the fault that the octets of a capture show, if they show one
abbrev pub fault : (capture : List ℕ) → Option CaptureFault
fault capture = fault_of (reading capture).ending

abbrev pub truncated_at : (capture_end_place : ℕ) (next_part : Part) (part_octets_so_far : List ℕ) →
    Option CaptureFault
truncated_at place part (octet ∷ octets) = Some (record { kind = Truncated; place = place })
truncated_at place part [] =
    if may_end_before part then None else Some (record { kind = Truncated; place = place })

-- the fault that a capture shows at its end, if it ends after this number of octets
abbrev pub fault_at_end : (capture_end_place : ℕ) (ending : Ending) → Option CaptureFault
fault_at_end place (Within state at octets) = truncated_at place state.part octets
fault_at_end place (Faulted fault) = Some fault

-- the fault of a capture that ends here, if it has one
abbrev pub final_fault : (capture : List ℕ) → Option CaptureFault
final_fault capture = fault_at_end (length capture) (reading capture).ending
