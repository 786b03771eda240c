-- A pcapng file as it is written: a section header block, and then other blocks (the PCAP Next
-- Generation capture file format; meaning).
use Rattle.std.specs.Prelude.{◌≡◌, ◌≢◌, ℕ, ◌+◌, ◌-◌, ◌*◌, ◌%◌, ◌^◌, ◌<◌, ◌≤◌, ◌==◌, ◌&&◌, ◌||◌, nat_lt, nat_le, Bool, true, List, [], ◌∷◌, ◌++◌, length, replicate, Option, None, Some, IfSome, slice_get, slice_index, if◌then◌else◌}
use Rattle.std.specs.List.{AllByRecursion}
use Rattle.std.specs.Int.{w16, to_be_bytes, to_le_bytes}
use Rattle.capture_file.specs.declared.part.ByteOrder.{ByteOrder}
use Rattle.capture_file.specs.declared.part.ByteOrder.TheVariants.{Big, Little}
use Rattle.capture_file.specs.declared.part.Interface.{Interface}
use Rattle.capture_file.specs.Blocks.{section_type, interface_type, simple_type, enhanced_type, most_interfaces, padded, units_in_second, time_of, captured_size}
use Rattle.capture_file.specs.PcapFiles.{number_octets}
use Rattle.capture_file.specs.Reading.{PacketRecord, packets, final_fault}

-- a number of two octets
unfoldable pub half_octets : (order : ByteOrder) (two_octet_number : ℕ) → List ℕ
half_octets Big number = to_be_bytes w16 number
half_octets Little number = to_le_bytes w16 number

-- the byte-order magic
abbrev pub order_octets : (order : ByteOrder) → List ℕ
order_octets Big = 0x1a ∷ 0x2b ∷ 0x3c ∷ 0x4d ∷ []
order_octets Little = 0x4d ∷ 0x3c ∷ 0x2b ∷ 0x1a ∷ []

-- an option of an interface
pub record BlockOption : Type 0 where
  pub code : ℕ
  pub value : List ℕ

-- the value of an option, and zeros up to a multiple of 4 octets
abbrev pub value_octets : (option : BlockOption) → List ℕ
value_octets x = x.value ++ replicate (padded (length x.value) - length x.value) 0

abbrev pub option_octets : (order : ByteOrder) (option : BlockOption) → List ℕ
option_octets o x =
    (half_octets o x.code ++ half_octets o (length x.value)) ++ value_octets x

-- options, and the option that ends them
unfoldable pub ended_options : (order : ByteOrder) (options : List BlockOption) → List ℕ
ended_options o [] = half_octets o 0 ++ half_octets o 0
ended_options o (x ∷ xs) = option_octets o x ++ ended_options o xs

abbrev pub options_octets : (order : ByteOrder) (options : List BlockOption) → List ℕ
options_octets o [] = []
options_octets o (x ∷ xs) = ended_options o (x ∷ xs)

-- A block after the section header: an interface, with its link type, snapshot length and options;
-- an enhanced packet, with the number of its interface, the two halves of its time in units, its
-- original length, and the octets that were captured; a simple packet, of the first interface; or
-- another block, from which nothing is read. Other octets may follow the octets of a packet:
-- padding and options.
pub data PcapngBlock : Type 0 where
  InterfaceBlock : ℕ → ℕ → List BlockOption → PcapngBlock
  EnhancedBlock : ℕ → ℕ → ℕ → ℕ → List ℕ → List ℕ → PcapngBlock
  SimpleBlock : ℕ → List ℕ → List ℕ → PcapngBlock
  OtherBlock : ℕ → List ℕ → PcapngBlock

-- the type of a block
abbrev pub type_of : (block : PcapngBlock) → ℕ
type_of (InterfaceBlock link snapshot options) = interface_type
type_of (EnhancedBlock interface high low original octets behind) = enhanced_type
type_of (SimpleBlock original octets behind) = simple_type
type_of (OtherBlock kind body) = kind

-- what stands between the two lengths of a block
abbrev pub body_octets : (order : ByteOrder) (block : PcapngBlock) → List ℕ
body_octets o (InterfaceBlock link snapshot options) =
    ((half_octets o link ++ 0 ∷ 0 ∷ []) ++ number_octets o snapshot) ++ options_octets o options
body_octets o (EnhancedBlock interface high low original octets behind) =
    number_octets o interface
    ++ ((number_octets o high ++ number_octets o low ++ number_octets o (length octets))
    ++ ((number_octets o original ++ octets) ++ behind))
body_octets o (SimpleBlock original octets behind) =
    number_octets o original ++ (octets ++ behind)
body_octets o (OtherBlock kind body) = body

abbrev pub length_of : (order : ByteOrder) (block : PcapngBlock) → ℕ
length_of o b = 12 + length (body_octets o b)

abbrev pub block_octets : (order : ByteOrder) (block : PcapngBlock) → List ℕ
block_octets o b =
    (number_octets o (type_of b) ++ number_octets o (length_of o b))
    ++ (body_octets o b ++ number_octets o (length_of o b))

unfoldable pub blocks_octets : (order : ByteOrder) (blocks : List PcapngBlock) → List ℕ
blocks_octets o [] = []
blocks_octets o (b ∷ bs) = block_octets o b ++ blocks_octets o bs

-- a file: its byte order, the minor version, and the octets after that in the section header block,
-- such as the section's length and options
pub record PcapngFile : Type 0 where
  pub order : ByteOrder
  pub minor : List ℕ
  pub rest : List ℕ

abbrev pub section_size : (file : PcapngFile) → ℕ
section_size f = 20 + length f.rest

abbrev pub section_octets : (file : PcapngFile) → List ℕ
section_octets f =
    (((0x0a ∷ 0x0d ∷ 0x0d ∷ 0x0a ∷ []) ++ number_octets f.order (section_size f))
    ++ order_octets f.order) ++ (half_octets f.order 1 ++ f.minor)
    ++ (f.rest ++ number_octets f.order (section_size f))

abbrev pub pcapng_octets : (file : PcapngFile) (blocks : List PcapngBlock) → List ℕ
pcapng_octets f blocks = section_octets f ++ blocks_octets f.order blocks

-- the parts of the file have the right lengths
pub record IsPcapngFile (file : PcapngFile) : Type 0 where
  pub minor : length file.minor ≡ 2
  pub some : 8 ≤ length file.rest
  pub whole : section_size file % 4 ≡ 0
  pub few : section_size file < 2 ^ 32

-- the length is one that a block may have
pub record HasLength (block_length : ℕ) : Type 0 where
  pub whole : block_length % 4 ≡ 0
  pub few : block_length < 2 ^ 32

abbrev pub is_unit_in_range : (resolution_octet : ℕ) → Bool
is_unit_in_range unit = nat_lt unit 20 || (nat_le 128 unit && nat_lt unit 192)

-- The option's code isn't the one that ends the options, the length of its value fits its field,
-- and if it is the unit of times, that is in range.
abbrev pub is_unit : (option : BlockOption) → Bool
is_unit x = (x.code == 9) && (length x.value == 1)

pub record IsOption (option : BlockOption) : Type 0 where
  pub some : option.code ≢ 0
  pub code : option.code < 2 ^ 16
  pub few : length option.value < 2 ^ 16
  pub unit : is_unit option ≡ true → is_unit_in_range (slice_index option.value 0) ≡ true

-- how many units make a second, by the options: those of microseconds, unless an option says
-- another number
unfoldable pub ticks_by : (units_per_second_before : ℕ) (options : List BlockOption) → ℕ
ticks_by ticks [] = ticks
ticks_by ticks (x ∷ xs) =
    ticks_by (if is_unit x then units_in_second (slice_index x.value 0) else ticks) xs

abbrev pub interface_of : (link_type snapshot_length : ℕ) (options : List BlockOption) → Interface
interface_of link snapshot options =
    record { link = link; snapshot = snapshot; ticks = ticks_by 1000000 options }

-- the block may stand in a section that has these interfaces
abbrev pub IsBlock : (order : ByteOrder) (interfaces_before : List Interface)
    (block : PcapngBlock) → Type 0
IsBlock o interfaces (InterfaceBlock link snapshot options) =
    (length interfaces < most_interfaces) × (link < 2 ^ 16) × (snapshot < 2 ^ 32)
    × AllByRecursion IsOption options
    × HasLength (length_of o (InterfaceBlock link snapshot options))
IsBlock o interfaces (EnhancedBlock interface high low original octets behind) =
    (interface < length interfaces) × (interface < 2 ^ 32) × (high < 2 ^ 32) × (low < 2 ^ 32)
    × (length octets ≤ 262144)
    × HasLength (length_of o (EnhancedBlock interface high low original octets behind))
IsBlock o interfaces (SimpleBlock original octets behind) =
    (0 < length interfaces)
    × IfSome (slice_get interfaces 0) (λ i. length octets ≡ captured_size original i.snapshot)
    × (original < 2 ^ 32) × (length octets ≤ 262144)
    × HasLength (length_of o (SimpleBlock original octets behind))
IsBlock o interfaces (OtherBlock kind body) =
    (kind ≢ interface_type) × (kind ≢ enhanced_type) × (kind ≢ simple_type)
    × (kind ≢ section_type) × (kind < 2 ^ 32) × HasLength (length_of o (OtherBlock kind body))

-- the interfaces of the section after a block
abbrev pub with_block : (interfaces_before : List Interface) (block : PcapngBlock) → List Interface
with_block interfaces (InterfaceBlock link snapshot options) =
    interfaces ++ interface_of link snapshot options ∷ []
with_block interfaces (EnhancedBlock interface high low original octets behind) = interfaces
with_block interfaces (SimpleBlock original octets behind) = interfaces
with_block interfaces (OtherBlock kind body) = interfaces

-- each block may stand after those before it
unfoldable pub AreBlocks : (order : ByteOrder) (interfaces_before : List Interface)
    (blocks : List PcapngBlock) → Type 0
AreBlocks o interfaces [] = Unit {0}
AreBlocks o interfaces (b ∷ bs) =
    IsBlock o interfaces b × AreBlocks o (with_block interfaces b) bs

-- the packet of an enhanced packet block that ends at this place, by its interface, with its time
abbrev pub enhanced_packet : (block_end_place time_in_units : ℕ) (octets : List ℕ)
    (interface : Option Interface) → List PacketRecord
enhanced_packet place units octets None = []
enhanced_packet place units octets (Some interface) = record {
  place = place;
  info = record { link = interface.link; time = time_of units interface.ticks };
  octets = octets;
} ∷ []

-- the packet of a simple packet block that ends at this place, by its interface, without a time
abbrev pub simple_packet : (block_end_place : ℕ) (octets : List ℕ) (interface : Option Interface) →
    List PacketRecord
simple_packet place octets None = []
simple_packet place octets (Some interface) = record {
  place = place;
  info = record { link = interface.link; time = None };
  octets = octets;
} ∷ []

-- the packet of a block that ends at this place, if it has one, by the interfaces before it
abbrev pub packet_of_block : (interfaces_before : List Interface) (block_end_place : ℕ)
    (block : PcapngBlock) → List PacketRecord
packet_of_block interfaces place (InterfaceBlock link snapshot options) = []
packet_of_block interfaces place (EnhancedBlock interface high low original octets behind) =
    enhanced_packet place (high * 2 ^ 32 + low) octets (slice_get interfaces interface)
packet_of_block interfaces place (SimpleBlock original octets behind) =
    simple_packet place octets (slice_get interfaces 0)
packet_of_block interfaces place (OtherBlock kind body) = []

-- the packets of blocks that begin at this place, in a section that has these interfaces
unfoldable pub packets_of_blocks : (order : ByteOrder) (interfaces_before : List Interface)
    (first_block_place : ℕ) (blocks : List PcapngBlock) → List PacketRecord
packets_of_blocks o interfaces place [] = []
packets_of_blocks o interfaces place (b ∷ bs) =
    packet_of_block interfaces (place + length_of o b) b
    ++ packets_of_blocks o (with_block interfaces b) (place + length_of o b) bs

-- The packets that are read of a file are those of its blocks, with their times and places, and the
-- file has no fault.
abbrev pub APcapngFileHasItsBlocks : Type 0
APcapngFileHasItsBlocks = (f : PcapngFile) (bs : List PcapngBlock) → IsPcapngFile f
    → AreBlocks f.order [] bs
    → (packets (pcapng_octets f bs) ≡ packets_of_blocks f.order [] (section_size f) bs)
    × (final_fault (pcapng_octets f bs) ≡ None)
