-- How a block of a pcapng file is read, if it has a packet, and if it has neither a packet nor an
-- interface.
use Rattle.std.proofs.Common.{◌≡◌, ◌≢◌, ℕ, ◌+◌, ◌-◌, ◌*◌, ◌^◌, ◌<◌, ◌≤◌, nat_lt, false, List, [], ◌∷◌, ◌++◌, length, take, drop, None, Some, refl, ◌∙◌, ap, subst, arith, append_assoc, slice_get}
use Rattle.std.proofs.lemmas.Bool.{le-ltb, ne_eqb}
use Rattle.std.proofs.lemmas.List.{length-append, take_all, take-append-le, drop-append-le, drop_all}
use Rattle.capture_file.specs.declared.part.ByteOrder.{ByteOrder}
use Rattle.capture_file.specs.declared.part.Block.{Block}
use Rattle.capture_file.specs.declared.part.Body.{Body}
use Rattle.capture_file.specs.declared.part.Interface.{Interface}
use Rattle.capture_file.specs.declared.part.Part.TheVariants as parts
use Rattle.capture_file.specs.declared.part.PacketInfo.{PacketInfo}
use Rattle.capture_file.specs.declared.part.Outcome.TheVariants.{Continues, EndsPacket}
use Rattle.capture_file.specs.Parts.{size}
use Rattle.capture_file.specs.Reading.{PacketRecord, reading}
use Rattle.capture_file.specs.Numbers.{four_at}
use Rattle.capture_file.specs.Blocks.{section_type, least_length, block_of, block_end, simple_header, captured_size, enhanced_interface, enhanced_header, packet_of, time_of}
use Rattle.capture_file.specs.PcapFiles.{number_octets}
use Rattle.capture_file.specs.PcapngFiles.{EnhancedBlock, SimpleBlock, OtherBlock, length_of, block_octets, IsBlock}
use Rattle.capture_file.proofs.PcapFileReading.{long, spells, first_four, second_four, last_four}
use Rattle.capture_file.proofs.PcapngParts.{due, on, on_packet, alone, end_is, infos, block_with_left}

-- ---- A packet.

abbrev packet_info : (interface : Interface) (high low : ℕ) → PacketInfo
packet_info i high low =
    record { link = i.link; time = time_of (high * 2 ^ 32 + low) i.ticks }

abbrev packet_body : (interface : Interface) (high low captured : ℕ) → Body
packet_body i high low captured =
    record { info = packet_info i high low; packet_offset = 4; captured = captured }

packet_is : (o : ByteOrder) (i : Interface) (size high low captured rest : ℕ) → high < 2 ^ 32 →
    low < 2 ^ 32 → captured ≤ 262144 →
    enhanced_header (record { order = o; length = size; left = captured + rest }) i
    (number_octets o high ++ number_octets o low ++ number_octets o captured)
    ≡ Continues (parts.Packet (record { order = o; length = size; left = rest })
    (packet_body i high low captured))
unfolding enhanced_header packet_of
packet_is o i size high low captured rest h l few =
    let a : List ℕ = number_octets o high in
    let b : List ℕ = number_octets o low in
    let c : List ℕ = number_octets o captured in
    let q : List ℕ = a ++ b ++ c in
    let first : four_at o 0 q ≡ high = spells o high 0 q h (first_four a b c (long o high)) in
    let second : four_at o 4 q ≡ low =
    spells o low 4 q l (second_four a b c (long o high) (long o low)) in
    let third : four_at o 8 q ≡ captured =
    spells o captured 8 q (omega (arith, few))
    (last_four 8 (a ++ b) c (omega (arith, length-append a b, long o high, long o low))
    (long o captured)) in
    let fits : nat_lt 262144 captured ≡ false = le-ltb 262144 captured few in
    let room : nat_lt (captured + rest) captured ≡ false =
    le-ltb (captured + rest) captured (omega arith) in
    let left : (captured + rest) - captured ≡ rest = omega arith in
    rw (first, second, third, fits, room, left) refl

shift_twice : (p a b c d e : List ℕ) → (((p ++ a) ++ b) ++ c) ++ (d ++ e)
    ≡ p ++ (a ++ ((b ++ (c ++ d)) ++ e))
shift_twice p a b c d e = search (arith, append_assoc)

space : (o : ByteOrder) (size left count : ℕ) → size - 32 ≡ left → block_of o 6 size count
    ≡ Continues (parts.EnhancedInterface (record { order = o; length = size; left = left }))
unfolding block_of
space o size left count is = rw is refl

chosen : (o : ByteOrder) (block : Block) (interfaces : List Interface) (n : ℕ) (i : Interface) →
    block.order ≡ o → n < 2 ^ 32 → slice_get interfaces n ≡ Some i →
    enhanced_interface block interfaces (number_octets o n)
    ≡ Continues (parts.EnhancedHeader block i)
unfolding enhanced_interface
chosen o block interfaces n i same small here = search (arith, alone)

pub reads_packet : (o : ByteOrder) (interface high low original : ℕ) (octets behind : List ℕ)
    (i : Interface) (p : List ℕ) (given : List PacketRecord) (interfaces : List Interface)
    (at : ℕ) →
    IsBlock o interfaces (EnhancedBlock interface high low original octets behind) →
    slice_get interfaces interface ≡ Some i →
    reading p ≡ due given (parts.BlockHeader o) interfaces at →
    reading (p ++ block_octets o (EnhancedBlock interface high low original octets behind))
    ≡ due (given ++ record {
      place = length (p
          ++ block_octets o (EnhancedBlock interface high low original octets behind));
      info = packet_info i high low;
      octets = octets;
    } ∷ []) (parts.BlockHeader o) interfaces
    (length (p ++ block_octets o (EnhancedBlock interface high low original octets behind)))
reads_packet o interface high low original octets behind i p given interfaces at h here r =
    let size : ℕ =
    length_of o (EnhancedBlock interface high low original octets behind) in
    let A : List ℕ = number_octets o 6 ++ number_octets o size in
    let B : List ℕ = number_octets o interface in
    let C : List ℕ =
    number_octets o high ++ number_octets o low ++ number_octets o (length octets) in
    let D : List ℕ = (number_octets o original ++ octets) ++ behind in
    let E : List ℕ = number_octets o size in
    let twelve : length C ≡ 12 = omega (
      arith,
      length-append (number_octets o high ++ number_octets o low) (number_octets o (length octets)),
      length-append (number_octets o high) (number_octets o low),
      long o high,
      long o low,
      long o (length octets),
    ) in
    let front : length (number_octets o original ++ octets) ≡ 4 + length octets =
    omega (arith, length-append (number_octets o original) octets, long o original) in
    let there : length D ≡ 4 + length octets + length behind =
    omega (arith, length-append (number_octets o original ++ octets) behind, front) in
    let size_is : size ≡ 32 + length octets + length behind = omega (
      arith,
      length-append B (C ++ D),
      length-append C D,
      long o interface,
      twelve,
      there,
    ) in
    let block : Block =
    record { order = o; length = size; left = length octets + length behind } in
    let last : Block = record { order = o; length = size; left = length behind } in
    let body = packet_body i high low (length octets) in
    let left : size - 32 ≡ length octets + length behind = omega (arith, size_is) in
    let one = infos o 6 size p given (parts.EnhancedInterface block) interfaces at (omega arith)
    h.5 refl (omega (arith, size_is))
    (space o size (length octets + length behind) (length interfaces) left) r in
    let two = on (p ++ A) B given (parts.EnhancedInterface block) (parts.EnhancedHeader block i)
    interfaces (length (p ++ A)) one (long o interface)
    (ap (enhanced_interface block interfaces) (take_all 4 B (omega (arith, long o interface)))
    ∙ chosen o block interfaces interface i refl h.1 here) in
    let three = on ((p ++ A) ++ B) C given (parts.EnhancedHeader block i) (parts.Packet last body)
    interfaces (length ((p ++ A) ++ B)) two twelve
    (ap (enhanced_header block i) (take_all 12 C (omega (arith, twelve)))
    ∙ packet_is o i size high low (length octets) (length behind) h.2 h.3 h.4) in
    let four = on_packet (((p ++ A) ++ B) ++ C) (D ++ E) given (parts.Packet last body)
    (parts.BlockHeader o) (packet_info i high low) interfaces (length (((p ++ A) ++ B) ++ C)) three
    (omega (arith, length-append D E, there, long o size))
    (ap (λ (xs : List ℕ). block_end last xs
    (EndsPacket (packet_info i high low) (parts.BlockHeader o)))
    (last_four (4 + length octets + length behind) D E there (long o size))
    ∙ end_is o size (length behind) (EndsPacket (packet_info i high low) (parts.BlockHeader o))
    h.5.few) in
    let first : take (4 + length octets) (D ++ E) ≡ number_octets o original ++ octets =
    take-append-le (4 + length octets) D E (omega (arith, there))
    ∙ take-append-le (4 + length octets) (number_octets o original ++ octets) behind
    (omega (arith, front))
    ∙ take_all (4 + length octets) (number_octets o original ++ octets) (omega (arith, front)) in
    let inner : drop 4 (take (4 + length octets) (D ++ E)) ≡ octets =
    ap (drop 4) first
    ∙ drop-append-le 4 (number_octets o original) octets (omega (arith, long o original))
    ∙ ap (λ (xs : List ℕ). xs ++ octets)
    (drop_all 4 (number_octets o original) (omega (arith, long o original))) in
    subst (λ (ys : List ℕ). reading ys ≡ due (given ++ record {
      place = length ys;
      info = packet_info i high low;
      octets = octets;
    } ∷ []) (parts.BlockHeader o) interfaces (length ys)) (shift_twice p A B C D E)
    (rw inner at four)

-- ---- A simple packet.

shift_simple : (p a b d e : List ℕ) → ((p ++ a) ++ b) ++ (d ++ e)
    ≡ p ++ (a ++ ((b ++ d) ++ e))
shift_simple p a b d e = search (arith, append_assoc)

abbrev simple_body : (interface : Interface) (captured : ℕ) → Body
simple_body i captured = record {
  info = record { link = i.link; time = None };
  packet_offset = 0;
  captured = captured;
}

simple_space : (o : ByteOrder) (size left count : ℕ) → size - 16 ≡ left →
    block_of o 3 size count ≡ Continues (parts.SimpleHeader (block_with_left o size left))
unfolding block_of
simple_space o size left count is = rw is refl

simple_is : (o : ByteOrder) (interfaces : List Interface) (i : Interface)
    (size original captured rest : ℕ) → original < 2 ^ 32 → captured ≤ 262144 →
    slice_get interfaces 0 ≡ Some i → captured ≡ captured_size original i.snapshot →
    simple_header (block_with_left o size (captured + rest)) interfaces (number_octets o original)
    ≡ Continues (parts.Packet (block_with_left o size rest) (simple_body i captured))
unfolding simple_header packet_of
simple_is o interfaces i size original captured rest small few here is = search (
  arith,
  nat_lt,
  le-ltb,
  alone,
)

pub reads_simple : (o : ByteOrder) (original : ℕ) (octets behind : List ℕ) (i : Interface)
    (p : List ℕ) (given : List PacketRecord) (interfaces : List Interface) (at : ℕ) →
    IsBlock o interfaces (SimpleBlock original octets behind) →
    slice_get interfaces 0 ≡ Some i → length octets ≡ captured_size original i.snapshot →
    reading p ≡ due given (parts.BlockHeader o) interfaces at →
    reading (p ++ block_octets o (SimpleBlock original octets behind))
    ≡ due (given ++ record {
      place = length (p ++ block_octets o (SimpleBlock original octets behind));
      info = record { link = i.link; time = None };
      octets = octets;
    } ∷ []) (parts.BlockHeader o) interfaces
    (length (p ++ block_octets o (SimpleBlock original octets behind)))
reads_simple o original octets behind i p given interfaces at h here captured r =
    let size : ℕ = length_of o (SimpleBlock original octets behind) in
    let A : List ℕ = number_octets o 3 ++ number_octets o size in
    let B : List ℕ = number_octets o original in
    let D : List ℕ = octets ++ behind in
    let E : List ℕ = number_octets o size in
    let info : PacketInfo = record { link = i.link; time = None } in
    let size_is : size ≡ 16 + (length octets + length behind) =
    omega (arith, length-append B D, length-append octets behind, long o original) in
    let there : length D ≡ 0 + length octets + length behind =
    omega (arith, length-append octets behind) in
    let one = infos o 3 size p given
    (parts.SimpleHeader (block_with_left o size (length octets + length behind))) interfaces at
    (omega arith) h.4 refl (omega (arith, size_is))
    (simple_space o size (length octets + length behind) (length interfaces)
    (omega (arith, size_is))) r in
    let two = on (p ++ A) B given
    (parts.SimpleHeader (block_with_left o size (length octets + length behind)))
    (parts.Packet (block_with_left o size (length behind)) (simple_body i (length octets)))
    interfaces
    (length (p ++ A)) one (long o original)
    (ap (simple_header (block_with_left o size (length octets + length behind)) interfaces)
    (take_all 4 B (omega (arith, long o original)))
    ∙ simple_is o interfaces i size original (length octets) (length behind) h.2 h.3 here captured)
    in
    let three = on_packet ((p ++ A) ++ B) (D ++ E) given
    (parts.Packet (block_with_left o size (length behind)) (simple_body i (length octets)))
    (parts.BlockHeader o) info interfaces (length ((p ++ A) ++ B)) two
    (omega (arith, length-append D E, there, long o size))
    (ap (λ (xs : List ℕ). block_end (block_with_left o size (length behind)) xs
    (EndsPacket info (parts.BlockHeader o)))
    (last_four (0 + length octets + length behind) D E there (long o size))
    ∙ end_is o size (length behind) (EndsPacket info (parts.BlockHeader o)) h.4.few) in
    let inner : drop 0 (take (0 + length octets) (D ++ E)) ≡ octets =
    take-append-le (0 + length octets) D E (omega (arith, there))
    ∙ take-append-le (0 + length octets) octets behind (omega arith)
    ∙ take_all (0 + length octets) octets (omega arith) in
    subst (λ (ys : List ℕ). reading ys
    ≡ due (given ++ record { place = length ys; info = info; octets = octets } ∷ [])
    (parts.BlockHeader o) interfaces (length ys)) (shift_simple p A B D E)
    (rw inner at three)

-- ---- Another block.

another : (o : ByteOrder) (kind size left count : ℕ) → kind ≢ 1 → kind ≢ 6 → kind ≢ 3 →
    size ≡ 12 + left → block_of o kind size count
    ≡ Continues (parts.BlockEnd (record { order = o; length = size; left = left }))
unfolding block_of
another o kind size left count a b c is = search (arith, ne_eqb)

least : (o : ByteOrder) (kind size count : ℕ) → kind ≢ 1 → kind ≢ 6 → kind ≢ 3 → 12 ≤ size →
    least_length kind ≤ size
least o kind size count a b c some = search (arith, ne_eqb)

pub reads_other : (o : ByteOrder) (kind : ℕ) (body : List ℕ) (p : List ℕ)
    (given : List PacketRecord) (interfaces : List Interface) (at : ℕ) →
    IsBlock o interfaces (OtherBlock kind body) →
    reading p ≡ due given (parts.BlockHeader o) interfaces at →
    reading (p ++ block_octets o (OtherBlock kind body))
    ≡ due given (parts.BlockHeader o) interfaces
    (length (p ++ block_octets o (OtherBlock kind body)))
reads_other o kind body p given interfaces at h r =
    let size : ℕ = 12 + length body in
    let A : List ℕ = number_octets o kind ++ number_octets o size in
    let E : List ℕ = number_octets o size in
    let block : Block = record { order = o; length = size; left = length body } in
    let is = another o kind size (length body) (length interfaces) h.0 h.1 h.2 (omega arith) in
    let one = infos o kind size p given (parts.BlockEnd block) interfaces at h.4 h.5
    (ne_eqb kind section_type h.3) (least o kind size (length interfaces) h.0 h.1 h.2
    (omega arith)) is r in
    let two = on (p ++ A) (body ++ E) given (parts.BlockEnd block) (parts.BlockHeader o) interfaces
    (length (p ++ A)) one (omega (arith, length-append body E, long o size))
    (ap (λ (xs : List ℕ). block_end block xs (Continues (parts.BlockHeader o)))
    (last_four (0 + length body) body E (omega arith) (long o size))
    ∙ end_is o size (length body) (Continues (parts.BlockHeader o)) h.5.few) in
    subst (λ (ys : List ℕ). reading ys ≡ due given (parts.BlockHeader o) interfaces (length ys))
    (append_assoc p A (body ++ E)) two
