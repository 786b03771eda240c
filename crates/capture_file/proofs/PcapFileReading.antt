-- The packets that are read of a pcap file are those of its records.
use Rattle.std.proofs.Common.{◌≡◌, ℕ, ◌+◌, ◌*◌, ◌%◌, ◌^◌, ◌<◌, nat_lt, false, List, [], ◌∷◌, ◌++◌, length, take, drop, Some, refl, ◌∙◌, ap, subst, arith, append-nil, append_assoc}
use Rattle.std.specs.List.{AllByRecursion}
use Rattle.std.proofs.lemmas.Bool.{le-ltb}
use Rattle.std.proofs.lemmas.List.{length-append, take_all, take-append-le, drop-append-le, drop_all}
use Rattle.std.proofs.lemmas.Nat.{from_be_bytes-to_be_bytes_4, from_le_bytes-to_le_bytes_4}
use Rattle.capture_file.specs.declared.part.ByteOrder.{ByteOrder}
use Rattle.capture_file.specs.declared.part.ByteOrder.TheVariants.{Big, Little}
use Rattle.capture_file.specs.declared.part.Magic.{Magic}
use Rattle.capture_file.specs.declared.part.FileHeader.{FileHeader}
use Rattle.capture_file.specs.declared.part.PacketInfo.{PacketInfo}
use Rattle.capture_file.specs.declared.part.Part.{Part}
use Rattle.capture_file.specs.declared.part.Part.TheVariants as parts
use Rattle.capture_file.specs.declared.part.Outcome.TheVariants.{Continues}
use Rattle.capture_file.specs.Numbers.{two_at, four_at}
use Rattle.capture_file.specs.Records.{beginning, file_version, file_rest, record_time, record_header}
use Rattle.capture_file.specs.Reading.{PacketRecord, Within, Reading, reading_from, reading, packets, fault_at_end}
use Rattle.capture_file.specs.PcapFiles.{Fractions, Microseconds, Nanoseconds, nanoseconds_in, magic_octets, major_octets, number_octets, PcapFile, header_octets, PcapRecord, record_octets, records_octets, file_octets, IsPcapFile, IsPcapRecord, packet_of, packets_of, AFileHasItsRecords}
use Rattle.capture_file.proofs.ReadingSteps.{completes}
use Rattle.capture_file.proofs.WholeRecords.{at_header, reads_record}

-- ---- Numbers.

pub long : (order : ByteOrder) (n : ℕ) → length (number_octets order n) ≡ 4
unfolding number_octets
long Big n = refl
long Little n = refl

-- if four octets are those of a number, that number is read
pub spells : (order : ByteOrder) (n at : ℕ) (octets : List ℕ) → n < 2 ^ 32 →
    take 4 (drop at octets) ≡ number_octets order n → four_at order at octets ≡ n
unfolding number_octets four_at
spells Big n at octets small e = search (arith, from_be_bytes-to_be_bytes_4)
spells Little n at octets small e = search (arith, from_le_bytes-to_le_bytes_4)

pub first_four : (a b c : List ℕ) → length a ≡ 4 → take 4 (drop 0 (a ++ b ++ c)) ≡ a
first_four a b c l =
    take-append-le 4 (a ++ b) c (omega (arith, length-append a b, l))
    ∙ take-append-le 4 a b (omega (arith, l)) ∙ take_all 4 a (omega (arith, l))

pub second_four : (a b c : List ℕ) → length a ≡ 4 → length b ≡ 4 →
    take 4 (drop 4 (a ++ b ++ c)) ≡ b
second_four a b c l m =
    ap (take 4) (drop-append-le 4 (a ++ b) c (omega (arith, length-append a b, l))
    ∙ ap (λ (xs : List ℕ). xs ++ c) (drop-append-le 4 a b (omega (arith, l))
    ∙ ap (λ (xs : List ℕ). xs ++ b) (drop_all 4 a (omega (arith, l)))))
    ∙ take-append-le 4 b c (omega (arith, m)) ∙ take_all 4 b (omega (arith, m))

pub last_four : (at : ℕ) (a c : List ℕ) → length a ≡ at → length c ≡ 4 →
    take 4 (drop at (a ++ c)) ≡ c
last_four at a c l n =
    ap (take 4) (drop-append-le at a c (omega (arith, l))
    ∙ ap (λ (xs : List ℕ). xs ++ c) (drop_all at a (omega (arith, l))))
    ∙ take_all 4 c (omega (arith, n))

-- ---- The header of a file.

abbrev magic_of : PcapFile → Magic
magic_of f = record { order = f.order; unit = nanoseconds_in f.fractions }

abbrev header_of : PcapFile → FileHeader
header_of f = record { magic = magic_of f; link = f.link % 2 ^ 16 }

abbrev reading_up_to : (part : Part) (offset : ℕ) → Reading
reading_up_to part at =
    record { packets = []; ending = Within (record { part = part; interfaces = [] }) at [] }

reads_magic : (order : ByteOrder) (fractions : Fractions) → reading (magic_octets order fractions)
    ≡ reading_up_to (parts.FileVersion (record { order = order; unit = nanoseconds_in fractions }))
    4
unfolding reading reading_from beginning four_at
reads_magic Big Microseconds = refl
reads_magic Big Nanoseconds = refl
reads_magic Little Microseconds = refl
reads_magic Little Nanoseconds = refl

version_is : (magic : Magic) (minor : List ℕ) →
    file_version magic (take 4 (drop 0 (major_octets magic.order ++ minor)))
    ≡ Continues (parts.FileRest magic)
unfolding file_version two_at
version_is magic minor = search (arith, take, drop)

major_long : (o : ByteOrder) → length (major_octets o) ≡ 2
major_long Big = refl
major_long Little = refl

reads_version : (f : PcapFile) (p q : List ℕ) (at : ℕ) →
    reading p ≡ reading_up_to (parts.FileVersion (magic_of f)) at →
    q ≡ major_octets f.order ++ f.minor → length f.minor ≡ 2
    → reading (p ++ q) ≡ reading_up_to (parts.FileRest (magic_of f)) (length (p ++ q))
reads_version f p q at r e minor =
    let all : length q ≡ 4 =
    ap length e ∙ omega (
      arith,
      length-append (major_octets f.order) f.minor,
      minor,
      major_long f.order,
    ) in
    let is : file_version (magic_of f) (take 4 (drop 0 q))
    ≡ Continues (parts.FileRest (magic_of f)) =
    ap (λ (xs : List ℕ). file_version (magic_of f) (take 4 (drop 0 xs))) e
    ∙ version_is (magic_of f) f.minor in
    completes p q (record { part = parts.FileVersion (magic_of f); interfaces = [] }) at []
    (ap (λ (x : Reading). x.ending) r) all
    ∙ rw (is, r) refl

reads_rest_of_header : (f : PcapFile) (p q : List ℕ) (at : ℕ) → IsPcapFile f →
    reading p ≡ reading_up_to (parts.FileRest (magic_of f)) at →
    q ≡ f.unused ++ number_octets f.order f.link
    → reading (p ++ q) ≡ reading_up_to (parts.RecordHeader (header_of f)) (length (p ++ q))
unfolding file_rest
reads_rest_of_header f p q at h r e =
    let all : length q ≡ 16 =
    ap length e
    ∙ omega (
      arith,
      length-append f.unused (number_octets f.order f.link),
      h.unused,
      long f.order f.link,
    ) in
    let whole : take 16 (drop 0 q) ≡ f.unused ++ number_octets f.order f.link =
    take_all 16 q (omega (arith, all)) ∙ e in
    let link : four_at f.order 12 (take 16 (drop 0 q)) ≡ f.link =
    spells f.order f.link 12 (take 16 (drop 0 q)) h.link
    (ap (λ (xs : List ℕ). take 4 (drop 12 xs)) whole
    ∙ last_four 12 f.unused (number_octets f.order f.link) h.unused (long f.order f.link)) in
    completes p q (record { part = parts.FileRest (magic_of f); interfaces = [] }) at []
    (ap (λ (x : Reading). x.ending) r) all
    ∙ rw (link, r) refl

magic_long : (o : ByteOrder) (u : Fractions) → length (magic_octets o u) ≡ 4
magic_long Big Microseconds = refl
magic_long Big Nanoseconds = refl
magic_long Little Microseconds = refl
magic_long Little Nanoseconds = refl

header_long : (f : PcapFile) → IsPcapFile f → length (header_octets f) ≡ 24
header_long f h = search (arith, length-append, magic_long, major_long, long)

reads_file_header : (f : PcapFile) → IsPcapFile f → reading (header_octets f)
    ≡ reading_up_to (parts.RecordHeader (header_of f)) (length (header_octets f))
reads_file_header f h =
    let m : List ℕ = magic_octets f.order f.fractions in
    let v : List ℕ = major_octets f.order ++ f.minor in
    reads_rest_of_header f (m ++ v) (f.unused ++ number_octets f.order f.link)
    (length (m ++ v)) h
    (reads_version f m v 4 (reads_magic f.order f.fractions) refl h.minor) refl

-- ---- A record.

abbrev info_of : (file : PcapFile) (pcap_record : PcapRecord) → PacketInfo
info_of f r = record {
  link = f.link % 2 ^ 16;
  time = Some (r.seconds * 1000000000 + r.fraction * nanoseconds_in f.fractions);
}

header_is : (f : PcapFile) (r : PcapRecord) (octets : List ℕ) → IsPcapRecord r →
    octets ≡ number_octets f.order r.seconds ++ number_octets f.order r.fraction
    ++ number_octets f.order (length r.octets)
    → record_header (header_of f) octets
    ≡ Continues (parts.Record (header_of f) (info_of f r) (length r.octets))
unfolding record_header record_time
header_is f r octets h e =
    let a : List ℕ = number_octets f.order r.seconds in
    let b : List ℕ = number_octets f.order r.fraction in
    let c : List ℕ = number_octets f.order (length r.octets) in
    let seconds : four_at f.order 0 octets ≡ r.seconds =
    spells f.order r.seconds 0 octets h.seconds
    (ap (λ (xs : List ℕ). take 4 (drop 0 xs)) e ∙ first_four a b c (long f.order r.seconds)) in
    let fraction : four_at f.order 4 octets ≡ r.fraction =
    spells f.order r.fraction 4 octets h.fraction
    (ap (λ (xs : List ℕ). take 4 (drop 4 xs)) e
    ∙ second_four a b c (long f.order r.seconds) (long f.order r.fraction)) in
    let captured : four_at f.order 8 octets ≡ length r.octets =
    spells f.order (length r.octets) 8 octets (omega (arith, h.few))
    (ap (λ (xs : List ℕ). take 4 (drop 8 xs)) e
    ∙ last_four 8 (a ++ b) c
    (omega (arith, length-append a b, long f.order r.seconds, long f.order r.fraction))
    (long f.order (length r.octets))) in
    let few : nat_lt 262144 (length r.octets) ≡ false =
    le-ltb 262144 (length r.octets) h.few in
    rw (seconds, fraction, captured, few) refl

record_long : (o : ByteOrder) (r : PcapRecord) → length (record_octets o r) ≡ 16 + length r.octets
unfolding record_octets
record_long o r = search (arith, length-append, long)

reads_one : (f : PcapFile) (p : List ℕ) (r : PcapRecord) (at : ℕ) → IsPcapRecord r →
    (reading p).ending ≡ Within (at_header (header_of f) []) at []
    → reading (p ++ record_octets f.order r) ≡ record {
      packets = packets p ++ packet_of f (length p + (16 + length r.octets)) r ∷ [];
      ending = Within (at_header (header_of f) []) (length p + (16 + length r.octets)) [];
    }
unfolding record_octets
reads_one f p r at h ending =
    let a : List ℕ = number_octets f.order r.seconds in
    let b : List ℕ = number_octets f.order r.fraction in
    let c : List ℕ = number_octets f.order (length r.octets) in
    let o : List ℕ = number_octets f.order r.original in
    let q : List ℕ = a ++ b ++ c ++ o ++ r.octets in
    let twelve : length (a ++ b ++ c) ≡ 12 = omega (
      arith,
      length-append (a ++ b) c,
      length-append a b,
      long f.order r.seconds,
      long f.order r.fraction,
      long f.order (length r.octets),
    ) in
    let sixteen : length (a ++ b ++ c ++ o) ≡ 16 =
    omega (arith, length-append (a ++ b ++ c) o, twelve, long f.order r.original) in
    let all : length q ≡ 16 + length r.octets = record_long f.order r in
    let front : take 12 q ≡ a ++ b ++ c =
    take-append-le 12 (a ++ b ++ c ++ o) r.octets (omega (arith, sixteen))
    ∙ take-append-le 12 (a ++ b ++ c) o (omega (arith, twelve))
    ∙ take_all 12 (a ++ b ++ c) (omega (arith, twelve)) in
    let back : drop 16 q ≡ r.octets =
    drop-append-le 16 (a ++ b ++ c ++ o) r.octets (omega (arith, sixteen))
    ∙ ap (λ (xs : List ℕ). xs ++ r.octets)
    (drop_all 16 (a ++ b ++ c ++ o) (omega (arith, sixteen))) in
    let place : length (p ++ q) ≡ length p + (16 + length r.octets) =
    omega (arith, length-append p q, all) in
    reads_record p q (header_of f) [] at (info_of f r) (length r.octets) ending all
    (header_is f r (take 12 q) h front)
    ∙ rw (place, back) refl

-- ---- All records.

-- the packets of a file that was read up to here
reads_records : (f : PcapFile) (rs : List PcapRecord) (p : List ℕ) (given : List PacketRecord) →
    AllByRecursion IsPcapRecord rs
    → reading p ≡ record {
      packets = given;
      ending = Within (at_header (header_of f) []) (length p) [];
    }
    → reading (p ++ records_octets f.order rs) ≡ record {
      packets = given ++ packets_of f (length p) rs;
      ending = Within (at_header (header_of f) []) (length (p ++ records_octets f.order rs)) [];
    }
unfolding records_octets packets_of
reads_records f [] p given h r = search (arith, append-nil)
reads_records f (x ∷ rs) p given h r =
    let q : List ℕ = record_octets f.order x in
    let place : ℕ = length p + (16 + length x.octets) in
    let one = reads_one f p x (length p) h.0 (ap (λ (y : Reading). y.ending) r) in
    let had : packets p ≡ given = ap (λ (y : Reading). y.packets) r in
    let there : length (p ++ q) ≡ place =
    omega (arith, length-append p q, record_long f.order x) in
    let next = reads_records f rs (p ++ q) (given ++ packet_of f place x ∷ []) h.1
    (one ∙ rw (had, there) refl) in
    subst (λ (ys : List ℕ). reading ys ≡ record {
      packets = given ++ (packet_of f place x ∷ packets_of f place rs);
      ending = Within (at_header (header_of f) []) (length ys) [];
    }) (append_assoc p q (records_octets f.order rs))
    (next ∙ rw (there, append_assoc given (packet_of f place x ∷ []) (packets_of f place rs)) refl)

pub file_has_its_records : AFileHasItsRecords
file_has_its_records f rs h all =
    let whole = reads_records f rs (header_octets f) [] all (reads_file_header f h) in (
      ap (λ (x : Reading). x.packets) whole ∙ ap (λ (n : ℕ). packets_of f n rs) (header_long f h),
      ap (λ (x : Reading). fault_at_end (length (file_octets f rs)) x.ending) whole,
    )
