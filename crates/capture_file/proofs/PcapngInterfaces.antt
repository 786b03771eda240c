-- How a block of a pcapng file is read, if it describes an interface with its options.
use Rattle.std.proofs.Common.{◌≡◌, ◌≢◌, ℕ, ◌+◌, ◌-◌, ◌^◌, ◌<◌, ◌≤◌, ◌==◌, ◌&&◌, slice_index, replicate, if◌then◌else◌, nat_lt, nat_le, Bool, true, false, List, [], ◌∷◌, ◌++◌, length, take, drop, refl, ◌∙◌, ap, subst, sym, arith, append-nil, append_assoc}
use Rattle.std.specs.List.{AllByRecursion}
use Rattle.std.proofs.lemmas.Bool.{le-ltb, le-leb, lt-ltb, eqb-true, ne_eqb, false≢true}
use Rattle.std.proofs.lemmas.List.{length-append, length-replicate, take_all, take-append-le, drop-append-le, drop_all}
use Rattle.capture_file.specs.declared.part.ByteOrder.{ByteOrder}
use Rattle.capture_file.specs.declared.part.Interface.{Interface}
use Rattle.capture_file.specs.declared.part.Part.{Part}
use Rattle.capture_file.specs.declared.part.Part.TheVariants as parts
use Rattle.capture_file.specs.declared.part.Outcome.TheVariants.{Continues}
use Rattle.capture_file.specs.Parts.{size}
use Rattle.capture_file.specs.Reading.{PacketRecord, reading}
use Rattle.capture_file.specs.Numbers.{two_at, four_at}
use Rattle.capture_file.specs.Blocks.{block_of, block_end, interface_header, options, option_header, time_unit, padded, units_in_second}
use Rattle.capture_file.specs.PcapFiles.{number_octets}
use Rattle.capture_file.specs.PcapngFiles.{half_octets, BlockOption, value_octets, ended_options, options_octets, InterfaceBlock, length_of, block_octets, is_unit_in_range, is_unit, IsOption, ticks_by, interface_of, IsBlock}
use Rattle.capture_file.proofs.PcapFileReading.{long, spells, last_four}
use Rattle.capture_file.proofs.PcapngParts.{due, on, half_long, spells_half, front_of, end_is, infos, block_with_left}

-- ---- An interface.

shift_block : (p a b c d : List ℕ) → (((p ++ a) ++ b) ++ c) ++ d ≡ p ++ (a ++ ((b ++ c) ++ d))
shift_block p a b c d = search (arith, append_assoc)

shift_option : (p a b c d : List ℕ) → (p ++ (a ++ b)) ++ (c ++ d) ≡ p ++ (a ++ ((b ++ c) ++ d))
shift_option p a b c d = search (arith, append_assoc)

shift_unit : (p a b c d e : List ℕ) → ((p ++ (a ++ b)) ++ c) ++ (d ++ e)
    ≡ p ++ (a ++ ((b ++ (c ++ d)) ++ e))
shift_unit p a b c d e = search (arith, append_assoc)

and_true : (a b : Bool) → (a && b) ≡ true → (a ≡ true) × (b ≡ true)
and_true true b both = (refl, both)
and_true false b both = absurd (false≢true both)

halves_long : (o : ByteOrder) (a b : ℕ) → length (half_octets o a ++ half_octets o b) ≡ 4
halves_long o a b = search (arith, length-append, half_long)

code_is : (o : ByteOrder) (a b : ℕ) → a < 2 ^ 16 →
    two_at o 0 (half_octets o a ++ half_octets o b) ≡ a
code_is o a b small = search (arith, spells_half, front_of, half_long)

count_is : (o : ByteOrder) (a b : ℕ) → b < 2 ^ 16 →
    two_at o 2 (half_octets o a ++ half_octets o b) ≡ b
count_is o a b small =
    let x : List ℕ = half_octets o a in
    let y : List ℕ = half_octets o b in
    spells_half o b 2 (x ++ y) small
    (ap (take 2) (drop-append-le 2 x y (omega (arith, half_long o a))
    ∙ ap (λ (xs : List ℕ). xs ++ y) (drop_all 2 x (omega (arith, half_long o a))))
    ∙ take_all 2 y (omega (arith, half_long o b)))

ends_options : (o : ByteOrder) (size left : ℕ) (i : Interface) →
    option_header (block_with_left o size left) i (half_octets o 0 ++ half_octets o 0)
    ≡ Continues (parts.InterfaceEnd (block_with_left o size left) i)
unfolding option_header
ends_options o size left i = search (arith, code_is)

passes_option : (o : ByteOrder) (size left code count more : ℕ) (i : Interface) → code ≢ 0 →
    code < 2 ^ 16 → count < 2 ^ 16 → ((code == 9) && (count == 1)) ≡ false →
    left ≡ padded count + (more + 4) →
    option_header (block_with_left o size left) i (half_octets o code ++ half_octets o count)
    ≡ Continues (parts.OptionHeader (block_with_left o size more) i (padded count))
unfolding option_header options
passes_option o size left code count more i some small few other is = search (
  arith,
  nat_lt,
  le-ltb,
  nat_le,
  le-leb,
  code_is,
  count_is,
  ne_eqb,
)

sees_unit : (o : ByteOrder) (size left more : ℕ) (i : Interface) → left ≡ 1 + more → 4 ≤ left →
    option_header (block_with_left o size left) i (half_octets o 9 ++ half_octets o 1)
    ≡ Continues (parts.TimeUnit (block_with_left o size more) i)
unfolding option_header
sees_unit o size left more i is enough = search (arith, nat_lt, le-ltb, code_is, count_is)

abbrev with_ticks : (interface : Interface) (ticks : ℕ) → Interface
with_ticks i ticks = record { link = i.link; snapshot = i.snapshot; ticks = ticks }

reads_unit : (o : ByteOrder) (size left more : ℕ) (i : Interface) (octets : List ℕ) →
    is_unit_in_range (slice_index octets 0) ≡ true → left ≡ 3 + (more + 4) →
    time_unit (block_with_left o size left) i octets
    ≡ Continues (parts.OptionHeader (block_with_left o size more)
    (with_ticks i (units_in_second (slice_index octets 0))) 3)
unfolding time_unit options
reads_unit o size left more i octets known is = search (arith, nat_le, le-leb)

value_long : (x : BlockOption) → length (value_octets x) ≡ padded (length x.value)
value_long x = search (arith, length-append, replicate, length-replicate)

ended_long : (o : ByteOrder) (xs : List BlockOption) → 4 ≤ length (ended_options o xs)
unfolding ended_options
ended_long o [] = search (arith, halves_long)
ended_long o (x ∷ xs) = search (arith, length-append, ended_long o xs)

option_long : (o : ByteOrder) (x : BlockOption) (xs : List BlockOption) →
    length (ended_options o (x ∷ xs))
    ≡ 4 + padded (length x.value) + length (ended_options o xs)
unfolding ended_options
option_long o x xs = search (arith, length-append, halves_long, value_long)

reads_options : (o : ByteOrder) (size left : ℕ) (xs : List BlockOption) (p skipped : List ℕ)
    (given : List PacketRecord) (i : Interface) (interfaces : List Interface) (at : ℕ) →
    AllByRecursion IsOption xs → left + 4 ≡ length (ended_options o xs) →
    reading p ≡ due given (parts.OptionHeader (block_with_left o size left) i (length skipped))
    interfaces
    at →
    reading (p ++ (skipped ++ ended_options o xs))
    ≡ due given (parts.InterfaceEnd (block_with_left o size 0) (with_ticks i (ticks_by i.ticks xs)))
    interfaces (length (p ++ (skipped ++ ended_options o xs)))
unfolding ended_options ticks_by
reads_options o size left [] p skipped given i interfaces at h is r =
    let E : List ℕ = half_octets o 0 ++ half_octets o 0 in
    let none : left ≡ 0 = omega (arith, is, halves_long o 0 0) in
    subst (λ (n : ℕ). reading (p ++ (skipped ++ E))
    ≡ due given (parts.InterfaceEnd (block_with_left o size n) i) interfaces
    (length (p ++ (skipped ++ E)))) none
    (on p (skipped ++ E) given (parts.OptionHeader (block_with_left o size left) i (length skipped))
    (parts.InterfaceEnd (block_with_left o size left) i) interfaces at r
    (omega (arith, length-append skipped E, halves_long o 0 0))
    (ap (option_header (block_with_left o size left) i)
    (last_four (0 + length skipped) skipped E (omega arith) (halves_long o 0 0))
    ∙ ends_options o size left i))
reads_options o size left (x ∷ xs) p skipped given i interfaces at h is r =
    by (is_unit x) refl (λ p' skipped' i' at' r'. reads_options o size
    (length (ended_options o xs) - 4) xs p' skipped' given i' interfaces at' h.1
    (omega (arith, ended_long o xs)) r')
  where
    H : List ℕ
    H = half_octets o x.code ++ half_octets o (length x.value)

    V : List ℕ
    V = value_octets x

    E : List ℕ
    E = ended_options o xs

    pad : List ℕ
    pad = replicate (padded (length x.value) - length x.value) 0

    more : ℕ
    more = length E - 4

    four : more + 4 ≡ length E
    four = omega (arith, ended_long o xs)

    room : left ≡ padded (length x.value) + (more + 4)
    room = omega (arith, is, option_long o x xs, four)

    all : length (skipped ++ H) ≡ 0 + length skipped + 4
    all = omega (arith, length-append skipped H, halves_long o x.code (length x.value))

    end : take 4 (drop (0 + length skipped) (skipped ++ H)) ≡ H
    end = last_four (0 + length skipped) skipped H (omega arith)
        (halves_long o x.code (length x.value))

    by : (b : Bool) → is_unit x ≡ b →
        ((p' skipped' : List ℕ) (i' : Interface) (at' : ℕ) →
        reading p' ≡ due given (parts.OptionHeader (block_with_left o size more) i'
        (length skipped'))
        interfaces at' →
        reading (p' ++ (skipped' ++ E))
        ≡ due given (parts.InterfaceEnd (block_with_left o size 0)
        (with_ticks i' (ticks_by i'.ticks xs)))
        interfaces (length (p' ++ (skipped' ++ E)))) →
        reading (p ++ (skipped ++ ((H ++ V) ++ E)))
        ≡ due given (parts.InterfaceEnd (block_with_left o size 0)
        (with_ticks i (ticks_by (if is_unit x then units_in_second
        (slice_index x.value 0) else i.ticks) xs)))
        interfaces (length (p ++ (skipped ++ ((H ++ V) ++ E))))
    by false other rest =
        let one = on p (skipped ++ H) given
        (parts.OptionHeader (block_with_left o size left) i (length skipped))
        (parts.OptionHeader (block_with_left o size more) i (padded (length x.value))) interfaces at
        r all
        (ap (option_header (block_with_left o size left) i) end
        ∙ passes_option o size left x.code (length x.value) more i h.0.some h.0.code h.0.few other
        room) in
        let next = rest (p ++ (skipped ++ H)) V i (length (p ++ (skipped ++ H)))
        (subst (λ (n : ℕ). reading (p ++ (skipped ++ H))
        ≡ due given (parts.OptionHeader (block_with_left o size more) i n) interfaces
        (length (p ++ (skipped ++ H)))) (sym (value_long x)) one) in
        rw other (subst (λ (ys : List ℕ). reading ys
        ≡ due given (parts.InterfaceEnd (block_with_left o size 0)
        (with_ticks i (ticks_by i.ticks xs)))
        interfaces (length ys)) (shift_option p skipped H V E) next)
    by true unit rest =
        let both = and_true (x.code == 9) (length x.value == 1) unit in
        let nine : x.code ≡ 9 = eqb-true _ _ both.0 in
        let single : length x.value ≡ 1 = eqb-true _ _ both.1 in
        let t : ℕ = units_in_second (slice_index x.value 0) in
        let padded_is : padded (length x.value) ≡ 4 = rw single refl in
        let three : length pad ≡ 3 =
        omega (
          arith,
          length-replicate {A = ℕ} (padded (length x.value) - length x.value) 0,
          padded_is,
          single,
        ) in
        let one = on p (skipped ++ H) given
        (parts.OptionHeader (block_with_left o size left) i (length skipped))
        (parts.TimeUnit (block_with_left o size (3 + (more + 4))) i) interfaces at r all
        (ap (option_header (block_with_left o size left) i) end
        ∙ rw (nine, single) (sees_unit o size left (3 + (more + 4)) i
        (omega (arith, room, padded_is)) (omega (arith, room, padded_is)))) in
        let two = on (p ++ (skipped ++ H)) x.value given
        (parts.TimeUnit (block_with_left o size (3 + (more + 4))) i)
        (parts.OptionHeader (block_with_left o size more) (with_ticks i t) 3) interfaces
        (length (p ++ (skipped ++ H))) one single
        (ap (time_unit (block_with_left o size (3 + (more + 4))) i)
        (take_all 1 x.value (omega (arith, single)))
        ∙ reads_unit o size (3 + (more + 4)) more i x.value (h.0.unit unit) refl) in
        let next = rest ((p ++ (skipped ++ H)) ++ x.value) pad (with_ticks i t)
        (length ((p ++ (skipped ++ H)) ++ x.value))
        (subst (λ (n : ℕ). reading ((p ++ (skipped ++ H)) ++ x.value)
        ≡ due given (parts.OptionHeader (block_with_left o size more) (with_ticks i t) n) interfaces
        (length ((p ++ (skipped ++ H)) ++ x.value))) (sym three) two) in
        rw unit (subst (λ (ys : List ℕ). reading ys
        ≡ due given (parts.InterfaceEnd (block_with_left o size 0) (with_ticks i (ticks_by t xs)))
        interfaces (length ys)) (shift_unit p skipped H x.value pad E) next)

-- the part that comes after the fields of an interface
abbrev first_part : (order : ByteOrder) (size : ℕ) (block_options : List BlockOption)
    (interface : Interface) → Part
first_part o size [] i = parts.InterfaceEnd (block_with_left o size 0) i
first_part o size (x ∷ xs) i =
    parts.OptionHeader (block_with_left o size (length (ended_options o (x ∷ xs)) - 4)) i 0

begins_options : (o : ByteOrder) (size : ℕ) (xs : List BlockOption) (i : Interface) →
    options (block_with_left o size (length (options_octets o xs))) i 0
    ≡ Continues (first_part o size xs i)
unfolding options
begins_options o size [] i = refl
begins_options o size (x ∷ xs) i = search (arith, le-leb, ended_long)

all_options : (o : ByteOrder) (size : ℕ) (xs : List BlockOption) (p : List ℕ)
    (given : List PacketRecord) (i : Interface) (interfaces : List Interface) (at : ℕ) →
    AllByRecursion IsOption xs → at ≡ length p →
    reading p ≡ due given (first_part o size xs i) interfaces at →
    reading (p ++ options_octets o xs)
    ≡ due given (parts.InterfaceEnd (block_with_left o size 0) (with_ticks i (ticks_by i.ticks xs)))
    interfaces (length (p ++ options_octets o xs))
unfolding ticks_by
all_options o size [] p given i interfaces at h is r = rw (append-nil p, ← is) r
all_options o size (x ∷ xs) p given i interfaces at h is r =
    reads_options o size (length (ended_options o (x ∷ xs)) - 4) (x ∷ xs) p [] given i interfaces at
    h (omega (arith, ended_long o (x ∷ xs))) r

interface_is : (o : ByteOrder) (size left link snapshot : ℕ) → link < 2 ^ 16 →
    snapshot < 2 ^ 32 →
    interface_header (block_with_left o size left)
    ((half_octets o link ++ 0 ∷ 0 ∷ []) ++ number_octets o snapshot)
    ≡ options (block_with_left o size left)
    (record { link = link; snapshot = snapshot; ticks = 1000000 }) 0
unfolding interface_header
interface_is o size left link snapshot small few =
    let a : List ℕ = half_octets o link in
    let b : List ℕ = a ++ 0 ∷ 0 ∷ [] in
    let q : List ℕ = b ++ number_octets o snapshot in
    let four : length b ≡ 4 = omega (arith, length-append a (0 ∷ 0 ∷ []), half_long o link) in
    let first : two_at o 0 q ≡ link =
    spells_half o link 0 q small
    (take-append-le 2 b (number_octets o snapshot) (omega (arith, four))
    ∙ front_of 2 a (0 ∷ 0 ∷ []) (half_long o link)) in
    let second : four_at o 4 q ≡ snapshot =
    spells o snapshot 4 q few (last_four 4 b (number_octets o snapshot) four (long o snapshot)) in
    rw (first, second) refl

described : (o : ByteOrder) (size left count : ℕ) → count < 256 → size - 20 ≡ left →
    block_of o 1 size count ≡ Continues (parts.InterfaceHeader (block_with_left o size left))
unfolding block_of
described o size left count few is = search (arith, lt-ltb)

pub reads_interface : (o : ByteOrder) (link snapshot : ℕ) (options : List BlockOption) (p : List ℕ)
    (given : List PacketRecord) (interfaces : List Interface) (at : ℕ) →
    IsBlock o interfaces (InterfaceBlock link snapshot options) →
    reading p ≡ due given (parts.BlockHeader o) interfaces at →
    reading (p ++ block_octets o (InterfaceBlock link snapshot options))
    ≡ due given (parts.BlockHeader o) (interfaces ++ interface_of link snapshot options ∷ [])
    (length (p ++ block_octets o (InterfaceBlock link snapshot options)))
reads_interface o link snapshot options p given interfaces at h r =
    let size : ℕ = length_of o (InterfaceBlock link snapshot options) in
    let plain : Interface = record { link = link; snapshot = snapshot; ticks = 1000000 } in
    let i : Interface = interface_of link snapshot options in
    let A : List ℕ = number_octets o 1 ++ number_octets o size in
    let B : List ℕ = (half_octets o link ++ 0 ∷ 0 ∷ []) ++ number_octets o snapshot in
    let O : List ℕ = options_octets o options in
    let C : List ℕ = number_octets o size in
    let eight : length B ≡ 8 = omega (
      arith,
      length-append (half_octets o link ++ 0 ∷ 0 ∷ []) (number_octets o snapshot),
      length-append (half_octets o link) (0 ∷ 0 ∷ []),
      half_long o link,
      long o snapshot,
    ) in
    let size_is : size ≡ 20 + length O = omega (arith, length-append B O, eight) in
    let one = infos o 1 size p given (parts.InterfaceHeader (block_with_left o size (length O)))
    interfaces
    at (omega arith) h.4 refl (omega (arith, size_is))
    (described o size (length O) (length interfaces) h.0 (omega (arith, size_is))) r in
    let two = on (p ++ A) B given (parts.InterfaceHeader (block_with_left o size (length O)))
    (first_part o size options plain) interfaces (length (p ++ A)) one eight
    (ap (interface_header (block_with_left o size (length O))) (take_all 8 B (omega (arith, eight)))
    ∙ interface_is o size (length O) link snapshot h.1 h.2
    ∙ begins_options o size options plain) in
    let three = all_options o size options ((p ++ A) ++ B) given plain interfaces
    (length ((p ++ A) ++ B)) h.3 refl two in
    let four = on (((p ++ A) ++ B) ++ O) C given (parts.InterfaceEnd (block_with_left o size 0) i)
    (parts.BlockHeader o) interfaces (length (((p ++ A) ++ B) ++ O)) three (long o size)
    (ap (λ (xs : List ℕ). block_end (block_with_left o size 0) xs (Continues (parts.BlockHeader o)))
    (take_all 4 C (omega (arith, long o size)))
    ∙ end_is o size 0 (Continues (parts.BlockHeader o)) h.4.few) in
    subst (λ (ys : List ℕ). reading ys
    ≡ due given (parts.BlockHeader o) (interfaces ++ i ∷ []) (length ys))
    (shift_block p A B O C) four
