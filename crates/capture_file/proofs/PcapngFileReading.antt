-- The packets that are read of a pcapng file are those of its blocks.
use Rattle.std.proofs.Common.{◌≡◌, ℕ, zero, suc, ◌+◌, ◌%◌, ◌^◌, ◌<◌, ◌≤◌, List, [], ◌∷◌, ◌++◌, length, Some, refl, ◌∙◌, ap, subst, arith, append-nil, append_assoc, slice_get}
use Rattle.std.proofs.lemmas.Bool.{le-leb, eq-eqb}
use Rattle.std.proofs.lemmas.List.{length-append, take_all}
use Rattle.capture_file.specs.declared.part.ByteOrder.{ByteOrder}
use Rattle.capture_file.specs.declared.part.ByteOrder.TheVariants.{Big, Little}
use Rattle.capture_file.specs.declared.part.Block.{Block}
use Rattle.capture_file.specs.declared.part.LengthByOrder.{LengthByOrder}
use Rattle.capture_file.specs.declared.part.Interface.{Interface}
use Rattle.capture_file.specs.declared.part.Part.TheVariants as parts
use Rattle.capture_file.specs.declared.part.Outcome.TheVariants.{Continues}
use Rattle.capture_file.specs.Parts.{size}
use Rattle.capture_file.specs.Reading.{PacketRecord, Reading, reading_from, reading, fault_at_end}
use Rattle.capture_file.specs.Numbers.{four_at}
use Rattle.capture_file.specs.Blocks.{block_end, options, byte_order_magic, section, section_version, section_length}
use Rattle.capture_file.specs.PcapFiles.{number_octets}
use Rattle.capture_file.specs.Records.{beginning}
use Rattle.capture_file.specs.PcapngFiles.{half_octets, order_octets, PcapngBlock, InterfaceBlock, EnhancedBlock, SimpleBlock, OtherBlock, length_of, block_octets, blocks_octets, PcapngFile, section_size, section_octets, pcapng_octets, IsPcapngFile, IsBlock, with_block, AreBlocks, packet_of_block, packets_of_blocks, APcapngFileHasItsBlocks}
use Rattle.capture_file.proofs.PcapFileReading.{long, last_four}
use Rattle.capture_file.proofs.PcapngParts.{due, on, half_long, spells_half, front_of, alone, end_is}
use Rattle.capture_file.proofs.PcapngInterfaces.{reads_interface}
use Rattle.capture_file.proofs.PcapngPackets.{reads_packet, reads_simple, reads_other}

-- ---- All blocks.

around : (o : ByteOrder) (b : PcapngBlock) → length (block_octets o b) ≡ length_of o b
around o b = search (arith, length-append, long)

has : (xs : List Interface) (n : ℕ) → n < length xs →
    (i : Interface) × (slice_get xs n ≡ Some i)
has [] n low = absurd (omega (arith, low))
has (x ∷ xs) zero low = (x, refl)
has (x ∷ xs) (suc n) low = has xs n (omega (arith, low))

-- one more block is read, with its packet
one_block : (o : ByteOrder) (b : PcapngBlock) (p : List ℕ) (given : List PacketRecord)
    (interfaces : List Interface) (at : ℕ) → IsBlock o interfaces b →
    reading p ≡ due given (parts.BlockHeader o) interfaces at →
    reading (p ++ block_octets o b)
    ≡ due (given ++ packet_of_block interfaces (length (p ++ block_octets o b)) b)
    (parts.BlockHeader o) (with_block interfaces b) (length (p ++ block_octets o b))
one_block o (InterfaceBlock link snapshot options) p given interfaces at h r = search (
  arith,
  append-nil,
  reads_interface,
)
one_block o (EnhancedBlock interface high low original octets behind) p given interfaces at h r =
    let here = has interfaces interface h.0 in
    rw here.1 (reads_packet o interface high low original octets behind here.0 p given interfaces at
    h here.1 r)
one_block o (SimpleBlock original octets behind) p given interfaces at h r =
    let here = has interfaces 0 h.0 in
    rw here.1 (reads_simple o original octets behind here.0 p given interfaces at h here.1
    (rw here.1 at h.1) r)
one_block o (OtherBlock kind body) p given interfaces at h r = search (
  arith,
  append-nil,
  reads_other,
)

reads_blocks : (o : ByteOrder) (bs : List PcapngBlock) (p : List ℕ) (given : List PacketRecord)
    (interfaces : List Interface) → AreBlocks o interfaces bs →
    reading p ≡ due given (parts.BlockHeader o) interfaces (length p) →
    (last : List Interface) × (reading (p ++ blocks_octets o bs)
    ≡ due (given ++ packets_of_blocks o interfaces (length p) bs) (parts.BlockHeader o) last
    (length (p ++ blocks_octets o bs)))
unfolding blocks_octets packets_of_blocks AreBlocks
reads_blocks o [] p given interfaces h r = search (arith, append-nil)
reads_blocks o (b ∷ bs) p given interfaces h r =
    let q : List ℕ = block_octets o b in
    let place : ℕ = length p + length_of o b in
    let there : length (p ++ q) ≡ place = omega (arith, length-append p q, around o b) in
    let own = packet_of_block interfaces place b in
    let more = with_block interfaces b in
    let one = one_block o b p given interfaces (length p) h.0 r in
    let next = reads_blocks o bs (p ++ q) (given ++ own) more h.1
    (one ∙ ap (λ (n : ℕ). due (given ++ packet_of_block interfaces n b) (parts.BlockHeader o) more
    (length (p ++ q))) there) in (
      next.0,
      subst (λ (ys : List ℕ). reading ys
          ≡ due (given ++ (own ++ packets_of_blocks o more place bs)) (parts.BlockHeader o) next.0
          (length ys)) (append_assoc p q (blocks_octets o bs))
          (next.1
          ∙ (ap (λ (n : ℕ). due ((given ++ own) ++ packets_of_blocks o more n bs)
          (parts.BlockHeader o) next.0 (length ((p ++ q) ++ blocks_octets o bs))) there
          ∙ ap (λ (g : List PacketRecord). due g (parts.BlockHeader o) next.0
          (length ((p ++ q) ++ blocks_octets o bs)))
          (append_assoc given own (packets_of_blocks o more place bs)))),
    )

-- ---- The section header.

abbrev lengths_of : (q : List ℕ) → LengthByOrder
lengths_of q = record { big = four_at Big 0 q; little = four_at Little 0 q }

big_order : four_at Big 0 (order_octets Big) ≡ 0x1a2b3c4d
unfolding four_at
big_order = refl

other_order : four_at Big 0 (order_octets Little) ≡ 0x4d3c2b1a
unfolding four_at
other_order = refl

little_order : four_at Little 0 (order_octets Little) ≡ 0x1a2b3c4d
unfolding four_at
little_order = refl

section_is : (o : ByteOrder) (size left : ℕ) → size % 4 ≡ 0 → 28 ≤ size → size < 2 ^ 32 →
    size ≡ 20 + left →
    byte_order_magic (lengths_of (number_octets o size)) (order_octets o)
    ≡ Continues (parts.SectionVersion (record { order = o; length = size; left = left }))
unfolding byte_order_magic section
section_is Big size left whole some few is = search (arith, big_order, alone, eq-eqb, le-leb)
section_is Little size left whole some few is = search (
  arith,
  other_order,
  little_order,
  alone,
  eq-eqb,
  le-leb,
)

section_begins : reading (0x0a ∷ 0x0d ∷ 0x0d ∷ 0x0a ∷ []) ≡ due [] parts.SectionLength [] 4
unfolding reading reading_from beginning four_at
section_begins = refl

section_size_is : (q : List ℕ) → section_length q ≡ Continues (parts.ByteOrderMagic (lengths_of q))
unfolding section_length
section_size_is q = refl

section_version_is : (o : ByteOrder) (size left : ℕ) (minor : List ℕ) →
    section_version (record { order = o; length = size; left = left }) (half_octets o 1 ++ minor)
    ≡ Continues (parts.BlockEnd (record { order = o; length = size; left = left }))
unfolding section_version
section_version_is o size left minor =
    rw (spells_half o 1 0 (half_octets o 1 ++ minor) (omega arith)
    (front_of 2 (half_octets o 1) minor (half_long o 1))) refl

order_long : (o : ByteOrder) → length (order_octets o) ≡ 4
order_long Big = refl
order_long Little = refl

reads_section : (f : PcapngFile) → IsPcapngFile f → reading (section_octets f)
    ≡ due [] (parts.BlockHeader f.order) [] (length (section_octets f))
reads_section f h =
    let o : ByteOrder = f.order in
    let size : ℕ = section_size f in
    let M : List ℕ = 0x0a ∷ 0x0d ∷ 0x0d ∷ 0x0a ∷ [] in
    let L : List ℕ = number_octets o size in
    let V : List ℕ = half_octets o 1 ++ f.minor in
    let block : Block = record { order = o; length = size; left = length f.rest } in
    let four : length V ≡ 4 =
    omega (arith, length-append (half_octets o 1) f.minor, half_long o 1, h.minor) in
    let one = on M L [] parts.SectionLength (parts.ByteOrderMagic (lengths_of L)) [] 4
    section_begins
    (long o size)
    (ap section_length (take_all 4 L (omega (arith, long o size))) ∙ section_size_is L) in
    let two = on (M ++ L) (order_octets o) [] (parts.ByteOrderMagic (lengths_of L))
    (parts.SectionVersion block) [] (length (M ++ L)) one (order_long o)
    (ap (byte_order_magic (lengths_of L)) (take_all 4 (order_octets o)
    (omega (arith, order_long o)))
    ∙ section_is o size (length f.rest) h.whole (omega (arith, h.some)) h.few refl) in
    let three = on ((M ++ L) ++ order_octets o) V [] (parts.SectionVersion block)
    (parts.BlockEnd block) [] (length ((M ++ L) ++ order_octets o)) two four
    (ap (section_version block) (take_all 4 V (omega (arith, four)))
    ∙ section_version_is o size (length f.rest) f.minor) in
    on (((M ++ L) ++ order_octets o) ++ V) (f.rest ++ L) [] (parts.BlockEnd block)
    (parts.BlockHeader o) [] (length (((M ++ L) ++ order_octets o) ++ V)) three
    (omega (arith, length-append f.rest L, long o size))
    (ap (λ (xs : List ℕ). block_end block xs (Continues (parts.BlockHeader o)))
    (last_four (0 + length f.rest) f.rest L (omega arith) (long o size))
    ∙ end_is o size (length f.rest) (Continues (parts.BlockHeader o)) h.few)

section_long : (f : PcapngFile) → IsPcapngFile f → length (section_octets f) ≡ section_size f
section_long f h = search (arith, length-append, half_long, order_long, long)

pub file_has_its_blocks : APcapngFileHasItsBlocks
file_has_its_blocks f bs h all =
    let whole = reads_blocks f.order bs (section_octets f) [] [] all (reads_section f h) in (
      ap (λ (x : Reading). x.packets) whole.1
          ∙ ap (λ (n : ℕ). packets_of_blocks f.order [] n bs) (section_long f h),
      ap (λ (x : Reading). fault_at_end (length (pcapng_octets f bs)) x.ending) whole.1,
    )
