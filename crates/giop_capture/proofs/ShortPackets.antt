-- A packet has at most 262,144 octets.
use Rattle.std.proofs.Common.{◌≡◌, ℕ, zero, suc, ◌+◌, ◌≤◌, List, [], ◌∷◌, ◌++◌, Bool, true, false, Some, None, Option, length, drop, arith}
use Rattle.std.specs.Prelude.{nat_lt, ◌==◌, if◌then◌else◌}
use Rattle.std.proofs.lemmas.List.{length-drop, length-take}
use Rattle.capture_file.specs.declared.fault.FaultKind.{FaultKind}
use Rattle.capture_file.specs.declared.part.ByteOrder.{ByteOrder}
use Rattle.capture_file.specs.declared.part.LengthByOrder.{LengthByOrder}
use Rattle.capture_file.specs.declared.part.FileHeader.{FileHeader}
use Rattle.capture_file.specs.declared.part.Magic.{Magic}
use Rattle.capture_file.specs.declared.part.Part.{Part}
use Rattle.capture_file.specs.declared.part.Part.TheVariants as parts
use Rattle.capture_file.specs.declared.part.Block.{Block}
use Rattle.capture_file.specs.declared.part.Body.{Body}
use Rattle.capture_file.specs.declared.part.Interface.{Interface}
use Rattle.capture_file.specs.declared.part.Outcome.{Outcome}
use Rattle.capture_file.specs.declared.part.Outcome.TheVariants.{Continues, EndsPacket, Fails}
use Rattle.capture_file.specs.Parts.{front, packet_offset}
use Rattle.capture_file.specs.Records.{beginning, file_version, file_rest, record_header}
use Rattle.capture_file.specs.Blocks.{section_length, section, byte_order_magic, section_version, block_header, block_of, interface_header, options, option_header, time_unit, of_interface, enhanced_interface, enhanced_header, of_first_interface, simple_header, block_end, packet_of}
use Rattle.capture_file.specs.Numbers.{four_at}
use Rattle.capture_file.specs.Format.{outcome_after}
use Rattle.capture_file.specs.Parts.{size}
use Rattle.capture_file.specs.declared.capture.Capture.{Capture}
use Rattle.capture_file.specs.CaptureState.{Reads}
use Rattle.capture_file.specs.Reading.{PacketRecord, ParserState, Within, Reading, end_of, packet_in, behind, reading_from, start, reading, packets}

-- the packet at the start of a part, if there is one, isn't longer than a packet may be
abbrev IsShort : Part → Type 0
IsShort part = front part ≤ packet_offset part + 262144

abbrev LeadsShort : Outcome → Type 0
LeadsShort (Continues part) = IsShort part
LeadsShort (EndsPacket info part) = IsShort part
LeadsShort (Fails kind) = Unit {0}

record AreShort (o : Outcome) : Type 0 where
  short : LeadsShort o

on : (part : Part) → IsShort part → AreShort (Continues part)
on part h = record { short = h }

over : (kind : FaultKind) → AreShort (Fails kind)
over kind = record { short = tt }

either : (c : Bool) (a b : Outcome) → AreShort a → AreShort b → AreShort (if c then a else b)
either true a b p q = p
either false a b p q = q

short_beginning : (octets : List ℕ) → AreShort (beginning octets)
unfolding beginning
short_beginning octets = record { short = grind arith }

short_version : (magic : Magic) (octets : List ℕ) → AreShort (file_version magic octets)
unfolding file_version
short_version magic octets = either _ _ _ (on _ (omega arith)) (over _)

short_rest : (magic : Magic) (octets : List ℕ) → AreShort (file_rest magic octets)
unfolding file_rest
short_rest magic octets = on _ (omega arith)

short_record : (file : FileHeader) (octets : List ℕ) → AreShort (record_header file octets)
unfolding record_header
short_record file octets = record { short = grind arith }

short_section_length : (octets : List ℕ) → AreShort (section_length octets)
unfolding section_length
short_section_length octets = on _ (omega arith)

short_section : (order : ByteOrder) (n : ℕ) → AreShort (section order n)
unfolding section
short_section order n = either _ _ _ (on _ (omega arith)) (over _)

short_magic : (n : LengthByOrder) (octets : List ℕ) → AreShort (byte_order_magic n octets)
unfolding byte_order_magic
short_magic n octets = either (four_at ByteOrder.Big 0 octets == 439041101)
    (section ByteOrder.Big n.big) _ (short_section ByteOrder.Big n.big)
    (either (four_at ByteOrder.Little 0 octets == 439041101) (section ByteOrder.Little n.little)
    (Fails FaultKind.Format) (short_section ByteOrder.Little n.little) (over _))

short_section_version : (block : Block) (octets : List ℕ) → AreShort (section_version block octets)
unfolding section_version
short_section_version block octets = either _ _ _ (on _ (omega arith)) (over _)

short_block : (order : ByteOrder) (kind n count : ℕ) → AreShort (block_of order kind n count)
unfolding block_of
short_block order kind n count = record { short = grind arith }

short_block_header : (order : ByteOrder) (count : ℕ) (octets : List ℕ) →
    AreShort (block_header order count octets)
unfolding block_header
short_block_header order count octets = either _ _ _ (on _ (omega arith))
    (either _ _ _ (short_block _ _ _ _) (over _))

short_options : (block : Block) (interface : Interface) (skip : ℕ) →
    AreShort (options block interface skip)
unfolding options
short_options block interface skip = either _ _ _ (on _ (omega arith)) (on _ (omega arith))

short_options' : (block : Block) (interface : Interface) (skip : ℕ) →
    LeadsShort (options block interface skip)
short_options' block interface skip = (short_options block interface skip).short

short_interface : (block : Block) (octets : List ℕ) → AreShort (interface_header block octets)
unfolding interface_header
short_interface block octets = short_options _ _ _

short_option : (block : Block) (interface : Interface) (octets : List ℕ) →
    AreShort (option_header block interface octets)
unfolding option_header
short_option block interface octets = record { short = grind (short_options', arith) }

short_unit : (block : Block) (interface : Interface) (octets : List ℕ) →
    AreShort (time_unit block interface octets)
unfolding time_unit
short_unit block interface octets = either _ _ _ (short_options _ _ _) (over _)

short_end : (block : Block) (octets : List ℕ) (o : Outcome) → AreShort o →
    AreShort (block_end block octets o)
unfolding block_end
short_end block octets o short = either _ _ _ short (over _)

short_found : (block : Block) (found : Option Interface) → AreShort (of_interface block found)
short_found block None = (over _)
short_found block (Some interface) = on _ (omega arith)

short_enhanced : (block : Block) (interfaces : List Interface) (octets : List ℕ)
    → AreShort (enhanced_interface block interfaces octets)
unfolding enhanced_interface
short_enhanced block interfaces octets = short_found block _

short_packet : (block : Block) (body : Body) → AreShort (packet_of block body)
unfolding packet_of
short_packet block body = record { short = grind arith }

short_enhanced_header : (block : Block) (interface : Interface) (octets : List ℕ)
    → AreShort (enhanced_header block interface octets)
unfolding enhanced_header
short_enhanced_header block interface octets = short_packet _ _

short_first : (block : Block) (original : ℕ) (found : Option Interface) →
    AreShort (of_first_interface block original found)
short_first block original None = (over _)
short_first block original (Some interface) = short_packet _ _

short_simple : (block : Block) (interfaces : List Interface) (octets : List ℕ)
    → AreShort (simple_header block interfaces octets)
unfolding simple_header
short_simple block interfaces octets = short_first _ _ _

short_next : (part : Part) (interfaces : List Interface) (octets : List ℕ) →
    AreShort (outcome_after part interfaces octets)
short_next parts.Beginning interfaces octets = short_beginning octets
short_next (parts.FileVersion magic) interfaces octets = short_version magic octets
short_next (parts.FileRest magic) interfaces octets = short_rest magic octets
short_next (parts.RecordHeader file) interfaces octets = short_record file octets
short_next (parts.Record file info captured) interfaces octets = record { short = omega arith }
short_next parts.SectionLength interfaces octets = short_section_length octets
short_next (parts.ByteOrderMagic n) interfaces octets = short_magic n octets
short_next (parts.SectionVersion block) interfaces octets = short_section_version block octets
short_next (parts.BlockHeader order) interfaces octets = short_block_header order _ octets
short_next (parts.InterfaceHeader block) interfaces octets = short_interface block octets
short_next (parts.OptionHeader block interface skip) interfaces octets =
    short_option block interface octets
short_next (parts.TimeUnit block interface) interfaces octets = short_unit block interface octets
short_next (parts.InterfaceEnd block interface) interfaces octets =
    short_end block octets _ (on _ (omega arith))
short_next (parts.EnhancedInterface block) interfaces octets =
    short_enhanced block interfaces octets
short_next (parts.EnhancedHeader block interface) interfaces octets =
    short_enhanced_header block interface octets
short_next (parts.SimpleHeader block) interfaces octets = short_simple block interfaces octets
short_next (parts.Packet block body) interfaces octets =
    short_end block octets _ (record { short = omega arith })
short_next (parts.BlockEnd block) interfaces octets = short_end block octets _ (on _ (omega arith))

-- ---- A whole reading.

abbrev AllShort : (packet_records : List PacketRecord) → Type 0
AllShort [] = Unit {0}
AllShort (r ∷ rs) = (length r.octets ≤ 262144) × AllShort rs

short_behind : (state : ParserState) (packet : List ℕ) (place : ℕ) (o : Outcome)
    (rest : ParserState → Reading)
    → LeadsShort o → length packet ≤ 262144 →
    ((d : ParserState) → IsShort d.part → AllShort (rest d).packets)
    → AllShort (behind state packet place o rest).packets
short_behind state packet place (Continues part) rest o p r = r _ o
short_behind state packet place (EndsPacket info part) rest o p r = (p, r _ o)
short_behind state packet place (Fails kind) rest o p r = tt

short_if : (c : Bool) (a b : Reading) → AllShort a.packets → AllShort b.packets
    → AllShort (if c then a else b).packets
short_if true a b p q = p
short_if false a b p q = q

short_octets : (part : Part) (octets : List ℕ) → IsShort part →
    length (packet_in part octets) ≤ 262144
short_octets part octets h =
    simp (length-drop, length-take) (omega arith)

short_from : (most : ℕ) (state : ParserState) (at : ℕ) (octets : List ℕ) → IsShort state.part
    → AllShort (reading_from most state at octets).packets
unfolding reading_from
short_from zero state at octets h = tt
short_from (suc most) state at octets h =
    short_if (nat_lt (length octets) (size state.part))
    (record { packets = []; ending = Within state at octets }) _ tt
    (short_behind state _ _ _ _ (short_next state.part state.interfaces
    (end_of state.part octets)).short
    (short_octets state.part octets h)
    (λ d k. short_from most d (at + size state.part) (drop (size state.part) octets) k))

all_short : (p : List ℕ) → AllShort (packets p)
unfolding reading
all_short p = short_from (length p) start 0 p (omega arith)

last_short : (rs : List PacketRecord) (r : PacketRecord) → AllShort (rs ++ r ∷ []) →
    length r.octets ≤ 262144
last_short [] r h = h.0
last_short (x ∷ xs) r h = last_short xs r h.1

-- the last packet of a capture isn't longer than a packet may be
pub short : (p : List ℕ) (rs : List PacketRecord) (r : PacketRecord) → packets p ≡ rs ++ r ∷ []
    → length r.octets ≤ 262144
short p rs r e = last_short rs r (rw e at (all_short p))

-- there are no more packets than octets
pub few : (c : Capture) (p : List ℕ) → Reads c p → length (packets p) ≤ length p
few c p h = rw (← h.packets, ← h.octets) c.few_packets
