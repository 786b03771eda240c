-- What comes after each part of a pcap file (the libpcap file format; meaning).
use Rattle.std.specs.Prelude.{◌≡◌, ℕ, ◌+◌, ◌*◌, ◌%◌, ◌^◌, ◌≤◌, nat_lt, ◌==◌, List, length, take, Some, if◌then◌else◌}
use Rattle.capture_file.specs.declared.fault.FaultKind.TheVariants as faults
use Rattle.capture_file.specs.declared.part.ByteOrder.TheVariants.{Big, Little}
use Rattle.capture_file.specs.declared.part.Magic.{Magic}
use Rattle.capture_file.specs.declared.part.FileHeader.{FileHeader}
use Rattle.capture_file.specs.declared.part.PacketInfo.{PacketInfo}
use Rattle.capture_file.specs.declared.part.Part.TheVariants as parts
use Rattle.capture_file.specs.declared.part.Outcome.{Outcome}
use Rattle.capture_file.specs.declared.part.Outcome.TheVariants.{Continues, EndsPacket, Fails}
use Rattle.capture_file.specs.Numbers.{two_at, four_at}
use Rattle.capture_file.specs.OtherFiles.{other_file}

-- the greatest number of octets of a packet
abbrev pub most_captured : ℕ
most_captured = 262144

-- the magic tells the byte order of the file's own numbers, and whether its times are in
-- microseconds or nanoseconds; a pcapng file begins with the type of a section header block, which
-- is the same in either order
unfoldable pub beginning : (octets : List ℕ) → Outcome
beginning octets =
    if four_at Big 0 octets == 0xa1b2c3d4
    then Continues (parts.FileVersion (record { order = Big; unit = 1000 })) else
    (if four_at Big 0 octets == 0xa1b23c4d
    then Continues (parts.FileVersion (record { order = Big; unit = 1 })) else
    (if four_at Little 0 octets == 0xa1b2c3d4
    then Continues (parts.FileVersion (record { order = Little; unit = 1000 })) else
    (if four_at Little 0 octets == 0xa1b23c4d
    then Continues (parts.FileVersion (record { order = Little; unit = 1 })) else
    (if four_at Big 0 octets == 0x0a0d0d0a then Continues parts.SectionLength
    else Fails (faults.Magic (other_file octets))))))

-- the major version, which must be 2, and the minor one, which may be any
unfoldable pub file_version : (magic : Magic) (octets : List ℕ) → Outcome
file_version magic octets =
    if two_at magic.order 0 octets == 2 then Continues (parts.FileRest magic)
    else Fails faults.Version

-- eight unused octets, the snapshot length, and the link type; the upper bits of the link type say
-- something else
unfoldable pub file_rest : (magic : Magic) (octets : List ℕ) → Outcome
file_rest magic octets =
    Continues (parts.RecordHeader (record {
      magic = magic;
      link = four_at magic.order 12 octets % 2 ^ 16;
    }))

-- the seconds and their fraction, which may be a second or more, in nanoseconds
unfoldable pub record_time : (magic : Magic) (octets : List ℕ) → ℕ
record_time magic octets =
    four_at magic.order 0 octets * 1000000000 + four_at magic.order 4 octets * magic.unit

-- what is known of a record's packet before its octets come
abbrev pub record_info : (file : FileHeader) (octets : List ℕ) → PacketInfo
record_info file octets =
    record { link = file.link; time = Some (record_time file.magic octets) }

-- the seconds, the fraction, and the length that was captured
unfoldable pub record_header : (file : FileHeader) (octets : List ℕ) → Outcome
record_header file octets =
    let captured = four_at file.magic.order 8 octets in
    if nat_lt most_captured captured then Fails faults.Length else
    Continues (parts.Record file (record_info file octets) captured)

-- the packet, and then the next record
abbrev pub record_end : (file : FileHeader) (info : PacketInfo) → Outcome
record_end file info = EndsPacket info (parts.RecordHeader file)

-- the octets begin with a whole record: its header, the original length, and a packet of this
-- number of octets
pub record IsWholeRecord (file : FileHeader) (octets : List ℕ) (info : PacketInfo)
    (captured_length : ℕ) : Type 0 where
  pub header : record_header file (take 12 octets)
      ≡ Continues (parts.Record file info captured_length)
  pub within : 16 + captured_length ≤ length octets
