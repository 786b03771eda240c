-- What comes after each part of a pcapng file (the PCAP Next Generation capture file format;
-- meaning).
use Rattle.std.specs.Prelude.{ℕ, ◌+◌, ◌-◌, ◌*◌, ◌/◌, ◌%◌, ◌^◌, min, nat_lt, nat_le, ◌==◌, ◌&&◌, ◌||◌, List, length, slice_get, slice_index, Option, Some, None, if◌then◌else◌}
use Rattle.capture_file.specs.declared.fault.FaultKind.TheVariants as faults
use Rattle.capture_file.specs.declared.part.ByteOrder.{ByteOrder}
use Rattle.capture_file.specs.declared.part.ByteOrder.TheVariants.{Big, Little}
use Rattle.capture_file.specs.declared.part.LengthByOrder.{LengthByOrder}
use Rattle.capture_file.specs.declared.part.Block.{Block}
use Rattle.capture_file.specs.declared.part.Interface.{Interface}
use Rattle.capture_file.specs.declared.part.Body.{Body}
use Rattle.capture_file.specs.declared.part.Part.TheVariants as parts
use Rattle.capture_file.specs.declared.part.Outcome.{Outcome}
use Rattle.capture_file.specs.declared.part.Outcome.TheVariants.{Continues, Fails}
use Rattle.capture_file.specs.Numbers.{two_at, four_at}
use Rattle.capture_file.specs.Records.{most_captured}

-- the greatest number of interfaces in a section
abbrev pub most_interfaces : ℕ
most_interfaces = 256

-- the types of the blocks that are read
abbrev pub section_type : ℕ
section_type = 0x0a0d0d0a

abbrev pub interface_type : ℕ
interface_type = 1

abbrev pub simple_type : ℕ
simple_type = 3

abbrev pub enhanced_type : ℕ
enhanced_type = 6

-- the least total length that a block of a type needs, for its fixed fields
abbrev pub least_length : (block_type : ℕ) → ℕ
least_length kind =
    if kind == interface_type then 20
    else (if kind == enhanced_type then 32 else (if kind == simple_type then 16 else 12))

-- the length of a section header block, in both byte orders; the byte-order magic after it tells
-- which order is the right one
abbrev pub length_by_order : (offset_of_length : ℕ) (octets : List ℕ) → Outcome
length_by_order at octets =
    Continues (parts.ByteOrderMagic (record {
      big = four_at Big at octets;
      little = four_at Little at octets;
    }))

unfoldable pub section_length : (octets : List ℕ) → Outcome
section_length octets = length_by_order 0 octets

unfoldable pub section : (order : ByteOrder) (block_length : ℕ) → Outcome
section order length =
    if (length % 4 == 0) && nat_le 28 length
    then Continues
    (parts.SectionVersion (record { order = order; length = length; left = length - 20 }))
    else Fails faults.Length

-- the byte-order magic tells the order of the section, and so the length of its own block
unfoldable pub byte_order_magic : (length : LengthByOrder) (octets : List ℕ) → Outcome
byte_order_magic length octets =
    if four_at Big 0 octets == 0x1a2b3c4d then section Big length.big else
    (if four_at Little 0 octets == 0x1a2b3c4d then section Little length.little
    else Fails faults.Format)

-- the major version, which must be 1, and the minor one, which may be any
unfoldable pub section_version : (block : Block) (octets : List ℕ) → Outcome
section_version block octets =
    if two_at block.order 0 octets == 1 then Continues (parts.BlockEnd block)
    else Fails faults.Version

-- what comes after the type and the length of a block, in a section that has this number of
-- interfaces
unfoldable pub block_of : (order : ByteOrder) (block_type block_length interface_count : ℕ) →
    Outcome
block_of order kind length interfaces =
    if kind == interface_type then
    (if nat_lt interfaces most_interfaces
    then Continues
    (parts.InterfaceHeader (record { order = order; length = length; left = length - 20 }))
    else Fails faults.Interface) else
    (if kind == enhanced_type
    then Continues
    (parts.EnhancedInterface (record { order = order; length = length; left = length - 32 })) else
    (if kind == simple_type
    then Continues
    (parts.SimpleHeader (record { order = order; length = length; left = length - 16 })) else
    Continues (parts.BlockEnd (record { order = order; length = length; left = length - 12 }))))

-- the type and the length of a block
unfoldable pub block_header : (order : ByteOrder) (interface_count : ℕ) (octets : List ℕ) → Outcome
block_header order interfaces octets =
    let kind = four_at order 0 octets in
    let length = four_at order 4 octets in
    if kind == section_type then length_by_order 4 octets else
    (if (length % 4 == 0) && nat_le (least_length kind) length
    then block_of order kind length interfaces else Fails faults.Length)

-- what comes among the options of a block: another option, if there is room for its header after
-- `skip` octets of the one before, else the block's end
unfoldable pub options : (block : Block) (interface : Interface) (octets_of_option_to_skip : ℕ) →
    Outcome
options block interface skip =
    if nat_le (skip + 4) block.left
    then Continues
    (parts.OptionHeader (record block { left = block.left - (skip + 4) }) interface skip)
    else Continues (parts.InterfaceEnd block interface)

-- the link type, two unused octets, and the snapshot length; a unit of time is a microsecond unless
-- an option says another one
unfoldable pub interface_header : (block : Block) (octets : List ℕ) → Outcome
interface_header block octets =
    options block (record {
      link = two_at block.order 0 octets;
      snapshot = four_at block.order 4 octets;
      ticks = 1000000;
    }) 0

-- a number of octets with their padding to a multiple of 4
abbrev pub padded : (count_before_padding_to_4 : ℕ) → ℕ
padded count = (count + 3) / 4 * 4

-- the code and the length of an option; code 0 ends the options, and so does a value that there is
-- no room for; code 9 with one octet gives the unit of times (`if_tsresol`)
unfoldable pub option_header : (block : Block) (interface : Interface) (octets : List ℕ) → Outcome
option_header block interface octets =
    let code = two_at block.order 0 octets in
    let count = two_at block.order 2 octets in
    if (code == 0) || nat_lt block.left (padded count)
    then Continues (parts.InterfaceEnd block interface) else
    (if (code == 9) && (count == 1)
    then Continues (parts.TimeUnit (record block { left = block.left - 1 }) interface) else
    options block interface (padded count))

-- how many units make a second: 10 to the number, or, if the number's highest bit is set, 2 to the
-- number without it
abbrev pub units_in_second : (resolution_octet : ℕ) → ℕ
units_in_second unit = if nat_lt unit 128 then 10 ^ unit else 2 ^ (unit - 128)

-- the unit of times, and then three octets of padding; a unit below 10^-19 or 2^-63 seconds is out
-- of range
unfoldable pub time_unit : (block : Block) (interface : Interface) (octets : List ℕ) → Outcome
time_unit block interface octets =
    let unit = slice_index octets 0 in
    if nat_lt unit 20 || (nat_le 128 unit && nat_lt unit 192)
    then options block (record interface { ticks = units_in_second unit }) 3
    else Fails faults.Format

-- what comes after the number of an enhanced packet's interface
abbrev pub of_interface : (block : Block) (interface : Option Interface) → Outcome
of_interface block None = Fails faults.Interface
of_interface block (Some interface) = Continues (parts.EnhancedHeader block interface)

unfoldable pub enhanced_interface : (block : Block) (interfaces : List Interface)
    (octets : List ℕ) → Outcome
enhanced_interface block interfaces octets =
    of_interface block (slice_get interfaces (four_at block.order 0 octets))

-- a packet, if it doesn't have too many octets and its block has room for them
unfoldable pub packet_of : (block : Block) (body : Body) → Outcome
packet_of block body =
    if nat_lt most_captured body.captured || nat_lt block.left body.captured
    then Fails faults.Length else
    Continues (parts.Packet (record block { left = block.left - body.captured }) body)

-- a number of units in nanoseconds, rounded down
abbrev pub nanoseconds_of : (unit_count units_per_second : ℕ) → ℕ
nanoseconds_of units ticks = units * 1000000000 / ticks

-- a number of units in nanoseconds since 1970; from the year 10000 on there is none (nor if no unit
-- makes a second, which no interface can say)
unfoldable pub time_of : (unit_count units_per_second : ℕ) → Option ℕ
time_of units ticks =
    if (ticks == 0) || nat_le (253402300800 * 1000000000) (nanoseconds_of units ticks)
    then None else Some (nanoseconds_of units ticks)

-- the upper half of a time and then the lower one
abbrev pub units_at : (order : ByteOrder) (time_octets : List ℕ) → ℕ
units_at order octets = four_at order 0 octets * 2 ^ 32 + four_at order 4 octets

-- the time of an enhanced packet, and the length that was captured
unfoldable pub enhanced_header : (block : Block) (interface : Interface) (octets : List ℕ) → Outcome
enhanced_header block interface octets =
    packet_of block (record {
      info = record {
        link = interface.link;
        time = time_of (units_at block.order octets) interface.ticks;
      };
      packet_offset = 4;
      captured = four_at block.order 8 octets;
    })

-- how many octets of a packet an interface captures, by the packet's original length
abbrev pub captured_size : (original_length snapshot_length : ℕ) → ℕ
captured_size original snapshot = if snapshot == 0 then original else min original snapshot

-- a simple packet is of interface 0, and has no time
abbrev pub of_first_interface : (block : Block) (original_length : ℕ)
    (interface : Option Interface) → Outcome
of_first_interface block original None = Fails faults.Interface
of_first_interface block original (Some interface) =
    packet_of block (record {
      info = record { link = interface.link; time = None };
      packet_offset = 0;
      captured = captured_size original interface.snapshot;
    })

-- the original length of a simple packet
unfoldable pub simple_header : (block : Block) (interfaces : List Interface) (octets : List ℕ) →
    Outcome
simple_header block interfaces octets =
    of_first_interface block (four_at block.order 0 octets) (slice_get interfaces 0)

-- the second length of a block, which must be the first one again
unfoldable pub block_end : (block : Block) (octets : List ℕ) (outcome_if_lengths_agree : Outcome) →
    Outcome
block_end block octets outcome =
    if four_at block.order 0 octets == block.length then outcome else Fails faults.Format
