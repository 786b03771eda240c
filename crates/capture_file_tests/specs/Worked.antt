-- Captures worked by hand: what is read of them (meaning).
use Rattle.std.specs.Prelude.{◌≡◌, ℕ, ◌+◌, ◌-◌, ◌*◌, ◌==◌, nat_lt, if◌then◌else◌, List, [], ◌∷◌, ◌++◌, Some, codes}
use Rattle.capture_file.specs.declared.fault.FaultKind.TheVariants as faults
use Rattle.capture_file.specs.Reading.{packets, fault, final_fault}

unfoldable pub digit : ℕ → ℕ
digit c = if nat_lt c 58 then c - 48 else c - 87

-- the octets that hexadecimal digits give, with spaces between octets
unfoldable pub octets : List ℕ → List ℕ
octets [] = []
octets (a ∷ []) = []
octets (a ∷ (b ∷ more)) =
    if a == 32 then octets (b ∷ more) else (16 * digit a + digit b) ∷ octets more

-- a pcap file with the least significant octet first, and times in nanoseconds: one record at 1
-- second and 2,000,000,007 nanoseconds, with two octets of a packet of five
abbrev pub records : List ℕ
records = octets
    (codes
    "4d3cb2a1 0200 0400 00000000 00000000 00000400 65000000 01000000 07943577 02000000 05000000 abcd")

abbrev pub OfRecords : Type 0
OfRecords = packets records
    ≡ record {
      place = 42;
      info = record { link = 101; time = Some 3000000007 };
      octets = 0xab ∷ (0xcd ∷ []);
    } ∷ []

-- a section, and an interface whose times are in units of 2^-10 seconds
abbrev pub section : List ℕ
section = octets
    (codes
    "0a0d0d0a 0000001c 1a2b3c4d 0001 0000 ffffffffffffffff 0000001c 00000001 00000020 0065 0000 00000000 0009 0001 8a 000000 0000 0000 00000020")

-- an enhanced packet of one octet, 1536 units after 1970, without its second length
abbrev pub packet : List ℕ
packet = octets (codes "00000006 00000024 00000000 00000000 00000600 00000001 00000005 47 000000")

abbrev pub OfBlocks : Type 0
OfBlocks = packets (section ++ (packet ++ octets (codes "00000024")))
    ≡ record {
      place = 96;
      info = record { link = 101; time = Some 1500000000 };
      octets = 0x47 ∷ [];
    } ∷ []

-- the fault if the second length differs from the first
abbrev pub OfLengths : Type 0
OfLengths =
    fault (section ++ (packet ++ octets (codes "00000028")))
    ≡ Some (record { kind = faults.Format; place = 96 })

-- the fault if a capture ends before the second length
abbrev pub OfEnd : Type 0
OfEnd = final_fault (section ++ packet) ≡ Some (record { kind = faults.Truncated; place = 92 })
