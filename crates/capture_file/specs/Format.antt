-- What comes after each part of a capture, by the octets at the part's end, and by the interfaces
-- of the section (meaning).
use Rattle.std.specs.Prelude.{ℕ, List, [], ◌∷◌, ◌++◌, length}
use Rattle.capture_file.specs.declared.part.Interface.{Interface}
use Rattle.capture_file.specs.declared.part.Part.{Part}
use Rattle.capture_file.specs.declared.part.Part.TheVariants as parts
use Rattle.capture_file.specs.declared.part.Outcome.{Outcome}
use Rattle.capture_file.specs.declared.part.Outcome.TheVariants.{Continues, EndsPacket}
use Rattle.capture_file.specs.Records.{beginning, file_version, file_rest, record_header, record_end}
use Rattle.capture_file.specs.Blocks.{section_length, byte_order_magic, section_version, block_header, interface_header, option_header, time_unit, enhanced_interface, enhanced_header, simple_header, block_end}

abbrev pub outcome_after : (part : Part) (interfaces : List Interface)
    (octets_at_part_end : List ℕ) → Outcome
outcome_after parts.Beginning interfaces octets = beginning octets
outcome_after (parts.FileVersion magic) interfaces octets = file_version magic octets
outcome_after (parts.FileRest magic) interfaces octets = file_rest magic octets
outcome_after (parts.RecordHeader file) interfaces octets = record_header file octets
outcome_after (parts.Record file info captured) interfaces octets = record_end file info
outcome_after parts.SectionLength interfaces octets = section_length octets
outcome_after (parts.ByteOrderMagic length) interfaces octets = byte_order_magic length octets
outcome_after (parts.SectionVersion block) interfaces octets = section_version block octets
outcome_after (parts.BlockHeader order) interfaces octets =
    block_header order (length interfaces) octets
outcome_after (parts.InterfaceHeader block) interfaces octets = interface_header block octets
outcome_after (parts.OptionHeader block interface skip) interfaces octets =
    option_header block interface octets
outcome_after (parts.TimeUnit block interface) interfaces octets = time_unit block interface octets
outcome_after (parts.InterfaceEnd block interface) interfaces octets =
    block_end block octets (Continues (parts.BlockHeader block.order))
outcome_after (parts.EnhancedInterface block) interfaces octets =
    enhanced_interface block interfaces octets
outcome_after (parts.EnhancedHeader block interface) interfaces octets =
    enhanced_header block interface octets
outcome_after (parts.SimpleHeader block) interfaces octets = simple_header block interfaces octets
outcome_after (parts.Packet block body) interfaces octets =
    block_end block octets (EndsPacket body.info (parts.BlockHeader block.order))
outcome_after (parts.BlockEnd block) interfaces octets =
    block_end block octets (Continues (parts.BlockHeader block.order))

-- the interfaces of the section after a part: a section begins with none, and each interface
-- description adds one
abbrev pub interfaces_behind : (part : Part) (interfaces_before : List Interface) → List Interface
interfaces_behind (parts.ByteOrderMagic length) interfaces = []
interfaces_behind (parts.InterfaceEnd block interface) interfaces = interfaces ++ interface ∷ []
interfaces_behind _ interfaces = interfaces
