-- How long a part may be.
use Rattle.std.proofs.Common.{◌≤◌, arith}
use Rattle.capture_file.specs.declared.part.Part.{Part}
use Rattle.capture_file.specs.declared.part.Part.TheVariants as parts
use Rattle.capture_file.specs.Parts.{back, front, packet_offset}

pub back_few : (part : Part) → back part ≤ 16
back_few (parts.Record file info captured) = omega arith
back_few (parts.TimeUnit block interface) = omega arith
back_few (parts.BlockHeader order) = omega arith
back_few (parts.InterfaceHeader block) = omega arith
back_few (parts.RecordHeader file) = omega arith
back_few (parts.EnhancedHeader block interface) = omega arith
back_few (parts.FileRest magic) = omega arith
back_few _ = omega arith

-- what stands before a packet is at the part's front
pub packet_offset_few : (part : Part) → packet_offset part ≤ front part
packet_offset_few (parts.Record file info captured) = omega arith
packet_offset_few (parts.Packet block body) = omega arith
packet_offset_few _ = omega arith
