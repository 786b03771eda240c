-- How one more part of a pcapng file is read, and the header and the end of a block.
use Rattle.std.proofs.Common.{◌≡◌, ℕ, ◌^◌, ◌<◌, ◌≤◌, ◌==◌, false, List, [], ◌∷◌, ◌++◌, length, take, drop, refl, ◌∙◌, ap, arith, append-nil}
use Rattle.std.proofs.lemmas.Bool.{le-leb, eq-eqb}
use Rattle.std.proofs.lemmas.Nat.{from_be_bytes-to_be_bytes_2, from_le_bytes-to_le_bytes_2}
use Rattle.std.proofs.lemmas.List.{length-append, take_all, take-append-le}
use Rattle.capture_file.specs.declared.part.ByteOrder.{ByteOrder}
use Rattle.capture_file.specs.declared.part.ByteOrder.TheVariants.{Big, Little}
use Rattle.capture_file.specs.declared.part.Block.{Block}
use Rattle.capture_file.specs.declared.part.Interface.{Interface}
use Rattle.capture_file.specs.declared.part.Part.{Part}
use Rattle.capture_file.specs.declared.part.Part.TheVariants as parts
use Rattle.capture_file.specs.declared.part.PacketInfo.{PacketInfo}
use Rattle.capture_file.specs.declared.part.Outcome.{Outcome}
use Rattle.capture_file.specs.declared.part.Outcome.TheVariants.{Continues, EndsPacket}
use Rattle.capture_file.specs.Parts.{size}
use Rattle.capture_file.specs.Format.{outcome_after, interfaces_behind}
use Rattle.capture_file.specs.Reading.{PacketRecord, Within, Reading, reading, end_of, packet_in}
use Rattle.capture_file.specs.Numbers.{two_at, four_at}
use Rattle.capture_file.specs.Blocks.{section_type, least_length, block_of, block_header, block_end}
use Rattle.capture_file.specs.PcapFiles.{number_octets}
use Rattle.capture_file.specs.PcapngFiles.{half_octets, HasLength}
use Rattle.capture_file.proofs.PcapFileReading.{long, spells, last_four}
use Rattle.capture_file.proofs.ReadingSteps.{completes}

-- ---- One more part.

-- a reading that has given these packets, and in which this part comes next
abbrev pub due : (given : List PacketRecord) (part : Part) (interfaces : List Interface)
    (offset : ℕ) → Reading
due given part interfaces at = record {
  packets = given;
  ending = Within (record { part = part; interfaces = interfaces }) at [];
}

pub on : (p q : List ℕ) (given : List PacketRecord) (part more : Part) (interfaces : List Interface)
    (at : ℕ) → reading p ≡ due given part interfaces at → length q ≡ size part →
    outcome_after part interfaces (end_of part q) ≡ Continues more →
    reading (p ++ q) ≡ due given more (interfaces_behind part interfaces) (length (p ++ q))
on p q given part more interfaces at r all is =
    completes p q (record { part = part; interfaces = interfaces }) at []
    (ap (λ (x : Reading). x.ending) r) all
    ∙ rw (is, r, append-nil given) refl

pub on_packet : (p q : List ℕ) (given : List PacketRecord) (part more : Part) (info : PacketInfo)
    (interfaces : List Interface) (at : ℕ) → reading p ≡ due given part interfaces at →
    length q ≡ size part → outcome_after part interfaces (end_of part q) ≡ EndsPacket info more →
    reading (p ++ q) ≡ due (given
    ++ record { place = length (p ++ q); info = info; octets = packet_in part q } ∷ []) more
    (interfaces_behind part interfaces) (length (p ++ q))
on_packet p q given part more info interfaces at r all is =
    completes p q (record { part = part; interfaces = interfaces }) at []
    (ap (λ (x : Reading). x.ending) r) all
    ∙ rw (is, r) refl

-- ---- Numbers, and the lengths around a block.

pub half_long : (o : ByteOrder) (n : ℕ) → length (half_octets o n) ≡ 2
unfolding half_octets
half_long Big n = refl
half_long Little n = refl

pub spells_half : (o : ByteOrder) (n at : ℕ) (octets : List ℕ) → n < 2 ^ 16 →
    take 2 (drop at octets) ≡ half_octets o n → two_at o at octets ≡ n
unfolding half_octets two_at
spells_half Big n at octets small e = search (arith, from_be_bytes-to_be_bytes_2)
spells_half Little n at octets small e = search (arith, from_le_bytes-to_le_bytes_2)

pub front_of : (n : ℕ) (a b : List ℕ) → length a ≡ n → take n (drop 0 (a ++ b)) ≡ a
front_of n a b l = search (arith, take-append-le, take_all)

-- a number that stands alone
pub alone : (o : ByteOrder) (n : ℕ) → n < 2 ^ 32 → four_at o 0 (number_octets o n) ≡ n
alone o n small =
    spells o n 0 (number_octets o n) small
    (take_all 4 (number_octets o n) (omega (arith, long o n)))

header_is : (o : ByteOrder) (kind size count : ℕ) → kind < 2 ^ 32 → HasLength size →
    (kind == section_type) ≡ false → least_length kind ≤ size →
    block_header o count (number_octets o kind ++ number_octets o size)
    ≡ block_of o kind size count
unfolding block_header
header_is o kind size count small h other least =
    let q : List ℕ = number_octets o kind ++ number_octets o size in
    let first : four_at o 0 q ≡ kind =
    spells o kind 0 q small
    (front_of 4 (number_octets o kind) (number_octets o size) (long o kind)) in
    let second : four_at o 4 q ≡ size =
    spells o size 4 q h.few
    (last_four 4 (number_octets o kind) (number_octets o size) (long o kind) (long o size)) in
    rw (first, second, other, eq-eqb _ _ h.whole, le-leb _ _ least) refl

pub end_is : (o : ByteOrder) (size left : ℕ) (outcome : Outcome) → size < 2 ^ 32 →
    block_end (record { order = o; length = size; left = left }) (number_octets o size) outcome
    ≡ outcome
unfolding block_end
end_is o size left outcome small = search (arith, alone, eq-eqb)

-- the header of a block
pub infos : (o : ByteOrder) (kind size : ℕ) (p : List ℕ) (given : List PacketRecord) (more : Part)
    (interfaces : List Interface) (at : ℕ) → kind < 2 ^ 32 → HasLength size →
    (kind == section_type) ≡ false → least_length kind ≤ size →
    block_of o kind size (length interfaces) ≡ Continues more →
    reading p ≡ due given (parts.BlockHeader o) interfaces at →
    reading (p ++ (number_octets o kind ++ number_octets o size))
    ≡ due given more interfaces (length (p ++ (number_octets o kind ++ number_octets o size)))
infos o kind size p given more interfaces at small h other least is r =
    let q : List ℕ = number_octets o kind ++ number_octets o size in
    let all : length q ≡ 8 =
    omega (
      arith,
      length-append (number_octets o kind) (number_octets o size),
      long o kind,
      long o size,
    ) in
    on p q given (parts.BlockHeader o) more interfaces at r all
    (ap (block_header o (length interfaces)) (take_all 8 q (omega (arith, all)))
    ∙ header_is o kind size (length interfaces) small h other least ∙ is)

abbrev pub block_with_left : (order : ByteOrder) (size left : ℕ) → Block
block_with_left o size left = record { order = o; length = size; left = left }
