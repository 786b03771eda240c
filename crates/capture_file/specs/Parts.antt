-- The parts of a capture and their lengths (meaning). The octets of a packet stand at a part's
-- front, those of a header at its end, and octets that are skipped between them. Most parts have
-- only one of the three.
use Rattle.std.specs.Prelude.{ℕ, ◌+◌, Bool, true, false}
use Rattle.capture_file.specs.declared.part.Part.{Part}
use Rattle.capture_file.specs.declared.part.Part.TheVariants as parts

-- how many octets of a part belong to a packet, with the original length if that stands directly
-- before the packet's own
abbrev pub front : (part_with_packet_at_front : Part) → ℕ
front (parts.Record file info captured) = 4 + captured
front (parts.Packet block body) = body.packet_offset + body.captured
front _ = 0

-- how many octets are skipped after those
abbrev pub passed : (part_with_skipped_octets : Part) → ℕ
passed (parts.OptionHeader block interface skip) = skip
passed (parts.InterfaceEnd block interface) = block.left
passed (parts.Packet block body) = block.left
passed (parts.BlockEnd block) = block.left
passed _ = 0

-- how many octets at a part's end are looked at
abbrev pub back : (part_with_header_at_end : Part) → ℕ
back (parts.Record file info captured) = 0
back (parts.TimeUnit block interface) = 1
back (parts.BlockHeader order) = 8
back (parts.InterfaceHeader block) = 8
back (parts.RecordHeader file) = 12
back (parts.EnhancedHeader block interface) = 12
back (parts.FileRest magic) = 16
back _ = 4

-- how many octets stand before a packet's own
abbrev pub packet_offset : Part → ℕ
packet_offset (parts.Record file info captured) = 4
packet_offset (parts.Packet block body) = body.packet_offset
packet_offset _ = 0

-- how many octets a part has
abbrev pub size : Part → ℕ
size part = front part + passed part + back part

-- whether a capture may end before a part: before a record or a block
abbrev pub may_end_before : Part → Bool
may_end_before (parts.RecordHeader file) = true
may_end_before (parts.BlockHeader order) = true
may_end_before _ = false
