-- A pcap file as it is written: its header, and then its records (the libpcap file format;
-- meaning).
use Rattle.std.specs.Prelude.{◌≡◌, ℕ, ◌+◌, ◌*◌, ◌%◌, ◌^◌, ◌<◌, ◌≤◌, List, [], ◌∷◌, ◌++◌, length, None, Some}
use Rattle.std.specs.Int.{w32, to_be_bytes, to_le_bytes}
use Rattle.std.specs.List.{AllByRecursion}
use Rattle.capture_file.specs.declared.part.ByteOrder.{ByteOrder}
use Rattle.capture_file.specs.declared.part.ByteOrder.TheVariants.{Big, Little}
use Rattle.capture_file.specs.Reading.{PacketRecord, packets, final_fault}

-- the unit of the fractions of seconds
pub data Fractions : Type 0 where
  Microseconds : Fractions
  Nanoseconds : Fractions

-- how many nanoseconds the unit has
abbrev pub nanoseconds_in : (fractions : Fractions) → ℕ
nanoseconds_in Microseconds = 1000
nanoseconds_in Nanoseconds = 1

-- the magic, which tells the unit, and the byte order of the file's numbers
abbrev pub magic_octets : (order : ByteOrder) (fractions : Fractions) → List ℕ
magic_octets Big Microseconds = 0xa1 ∷ 0xb2 ∷ 0xc3 ∷ 0xd4 ∷ []
magic_octets Big Nanoseconds = 0xa1 ∷ 0xb2 ∷ 0x3c ∷ 0x4d ∷ []
magic_octets Little Microseconds = 0xd4 ∷ 0xc3 ∷ 0xb2 ∷ 0xa1 ∷ []
magic_octets Little Nanoseconds = 0x4d ∷ 0x3c ∷ 0xb2 ∷ 0xa1 ∷ []

-- the major version, 2
abbrev pub major_octets : (order : ByteOrder) → List ℕ
major_octets Big = 0 ∷ 2 ∷ []
major_octets Little = 2 ∷ 0 ∷ []

-- a number of the file
unfoldable pub number_octets : (order : ByteOrder) (four_octet_number : ℕ) → List ℕ
number_octets Big number = to_be_bytes w32 number
number_octets Little number = to_le_bytes w32 number

-- a file: its byte order and its unit, the octets that are not looked at (those of the minor
-- version, and after them the unused ones and those of the snapshot length), and the number of its
-- link type
pub record PcapFile : Type 0 where
  pub order : ByteOrder
  pub fractions : Fractions
  pub minor : List ℕ
  pub unused : List ℕ
  pub link : ℕ

abbrev pub header_octets : (file : PcapFile) → List ℕ
header_octets f = magic_octets f.order f.fractions ++ (major_octets f.order ++ f.minor)
    ++ (f.unused ++ number_octets f.order f.link)

-- a record: its time, the original length of its packet, and the octets that were captured
pub record PcapRecord : Type 0 where
  pub seconds : ℕ
  pub fraction : ℕ
  pub original : ℕ
  pub octets : List ℕ

unfoldable pub record_octets : (order : ByteOrder) (pcap_record : PcapRecord) → List ℕ
record_octets order r =
    number_octets order r.seconds ++ number_octets order r.fraction
    ++ number_octets order (length r.octets) ++ number_octets order r.original ++ r.octets

unfoldable pub records_octets : (order : ByteOrder) (records : List PcapRecord) → List ℕ
records_octets order [] = []
records_octets order (r ∷ rs) = record_octets order r ++ records_octets order rs

abbrev pub file_octets : (file : PcapFile) (records : List PcapRecord) → List ℕ
file_octets f records = header_octets f ++ records_octets f.order records

-- the parts of the file have the right lengths
pub record IsPcapFile (file : PcapFile) : Type 0 where
  pub minor : length file.minor ≡ 2
  pub unused : length file.unused ≡ 12
  pub link : file.link < 2 ^ 32

pub record IsPcapRecord (pcap_record : PcapRecord) : Type 0 where
  pub seconds : pcap_record.seconds < 2 ^ 32
  pub fraction : pcap_record.fraction < 2 ^ 32
  pub few : length pcap_record.octets ≤ 262144

-- the packet of a record that ends at this place
abbrev pub packet_of : (file : PcapFile) (record_end_place : ℕ) (pcap_record : PcapRecord) →
    PacketRecord
packet_of f place r = record {
  place = place;
  info = record {
    link = f.link % 2 ^ 16;
    time = Some (r.seconds * 1000000000 + r.fraction * nanoseconds_in f.fractions);
  };
  octets = r.octets;
}

-- the packets of records that begin at this place
unfoldable pub packets_of : (file : PcapFile) (first_record_place : ℕ) (records : List PcapRecord) →
    List PacketRecord
packets_of f place [] = []
packets_of f place (r ∷ rs) =
    packet_of f (place + (16 + length r.octets)) r
    ∷ packets_of f (place + (16 + length r.octets)) rs

-- The packets that are read of a file are those of its records, with their times and places, and
-- the file has no fault.
abbrev pub AFileHasItsRecords : Type 0
AFileHasItsRecords = (f : PcapFile) (rs : List PcapRecord) → IsPcapFile f
    → AllByRecursion IsPcapRecord rs
    → (packets (file_octets f rs) ≡ packets_of f 24 rs) × (final_fault (file_octets f rs) ≡ None)
