-- What a capture has read, and what it answers, after it took a whole record at once.
use Rattle.std.proofs.Common.{◌≡◌, ℕ, ◌+◌, false, List, [], ◌∷◌, ◌++◌, length, take, drop, None, refl, sym, ◌∙◌, ap, arith, append-nil, append_assoc}
use Rattle.std.proofs.lemmas.List.{length-append, length-drop, length-take-le, drop-drop, take-take, take_all, take-append-drop}
use Rattle.capture_file.specs.declared.capture.Capture.{Capture}
use Rattle.capture_file.specs.declared.capture.PacketRange.{PacketRange}
use Rattle.capture_file.specs.declared.part.FileHeader.{FileHeader}
use Rattle.capture_file.specs.declared.part.PacketInfo.{PacketInfo}
use Rattle.capture_file.specs.declared.part.Interface.{Interface}
use Rattle.capture_file.specs.declared.part.Part.TheVariants as parts
use Rattle.capture_file.specs.declared.part.Outcome.TheVariants.{Continues}
use Rattle.capture_file.specs.declared.progress.Progress.TheVariants as progress
use Rattle.capture_file.specs.Records.{record_header}
use Rattle.capture_file.specs.Reading.{PacketRecord, ParserState, Within, Reading, reading, packets, fault_of}
use Rattle.capture_file.specs.CaptureState.{Reads, octets_in}
use Rattle.capture_file.specs.CaptureSteps.{IsRecordDue, TakesRecord}
use Rattle.capture_file.proofs.ReadingSteps.{completes}
use Rattle.capture_file.proofs.Taking.{HasTaken, begun, none_of, slice_front}

-- the header of a record comes next
abbrev pub at_header : (file : FileHeader) (interfaces : List Interface) → ParserState
at_header file interfaces = record { part = parts.RecordHeader file; interfaces = interfaces }

-- the reading of a header's octets
reads_header : (p q : List ℕ) (file : FileHeader) (interfaces : List Interface) (at : ℕ)
    (info : PacketInfo) (captured : ℕ) →
    (reading p).ending ≡ Within (at_header file interfaces) at [] → length q ≡ 12 →
    record_header file q ≡ Continues (parts.Record file info captured) →
    reading (p ++ q) ≡ record {
      packets = packets p;
      ending = Within
          (record { part = parts.Record file info captured; interfaces = interfaces })
          (length (p ++ q)) [];
    }
reads_header p q file interfaces at info captured ending long header =
    let all : take 12 q ≡ q = take_all 12 q (omega arith) in
    completes p q (at_header file interfaces) at [] ending long
    ∙ rw (all, header, append-nil) refl

-- the reading of the rest of a record
reads_rest : (p q : List ℕ) (file : FileHeader) (interfaces : List Interface) (at : ℕ)
    (info : PacketInfo) (captured : ℕ) →
    (reading p).ending
    ≡ Within (record { part = parts.Record file info captured; interfaces = interfaces }) at [] →
    length q ≡ 4 + captured →
    reading (p ++ q) ≡ record {
      packets = packets p
          ++ record { place = length (p ++ q); info = info; octets = drop 4 q } ∷ [];
      ending = Within (at_header file interfaces) (length (p ++ q)) [];
    }
reads_rest p q file interfaces at info captured ending long =
    let all : take (4 + captured) q ≡ q = take_all (4 + captured) q (omega arith) in
    completes p q (record { part = parts.Record file info captured; interfaces = interfaces })
    at [] ending (omega arith)
    ∙ rw all refl

-- the reading of a whole record
pub reads_record : (p q : List ℕ) (file : FileHeader) (interfaces : List Interface) (at : ℕ)
    (info : PacketInfo) (captured : ℕ) →
    (reading p).ending ≡ Within (at_header file interfaces) at [] → length q ≡ 16 + captured →
    record_header file (take 12 q) ≡ Continues (parts.Record file info captured) →
    reading (p ++ q) ≡ record {
      packets = packets p
          ++ record { place = length (p ++ q); info = info; octets = drop 16 q } ∷ [];
      ending = Within (at_header file interfaces) (length (p ++ q)) [];
    }
reads_record p q file interfaces at info captured ending long header =
    let first = take 12 q in
    let rest = drop 12 q in
    let first_long : length first ≡ 12 = length-take-le 12 q (omega arith) in
    let rest_long : length rest ≡ 4 + captured = omega (arith, length-drop 12 q) in
    let whole : (p ++ first) ++ rest ≡ p ++ q =
    append_assoc p first rest ∙ ap (λ x. p ++ x) (take-append-drop 12 q) in
    let one = reads_header p first file interfaces at info captured ending first_long header in
    let two = reads_rest (p ++ first) rest file interfaces (length (p ++ first)) info captured
    (ap (λ (r : Reading). r.ending) one) rest_long in
    let same : packets (p ++ first) ≡ packets p = ap (λ (r : Reading). r.packets) one in
    let inner : drop 4 rest ≡ drop 16 q = drop-drop 4 12 q in
    rw (whole, same, inner) at two

-- a record was taken at once
pub takes_record : (p given : List ℕ) (info : PacketInfo) (start captured : ℕ) (old new : Capture) →
    Reads old p → old.fault ≡ None → IsRecordDue old (drop start given) info captured →
    TakesRecord old new info start captured →
    HasTaken progress.Packet p (take (16 + captured) (drop start given)) new given
takes_record p given info start captured old new r running d t =
    let b = begun p old r running in
    let count = 16 + captured in
    let q = take count (drop start given) in
    let long : length q ≡ count = length-take-le count (drop start given) d.whole.within in
    let none : b.had ≡ [] = none_of b.had (sym b.holds.taken ∙ d.fresh) in
    let due : b.state ≡ at_header d.file b.state.interfaces =
    ap (λ x. record { part = x; interfaces = b.state.interfaces }) (sym b.holds.part ∙ d.part) in
    let ending : (reading p).ending ≡ Within (at_header d.file b.state.interfaces) b.at [] =
    b.ending ∙ rw (none, due) refl in
    let front : take 12 q ≡ take 12 (drop start given) =
    take-take 12 count (drop start given) (omega arith) in
    let is = reads_record p q d.file b.state.interfaces b.at info captured ending long
    (ap (record_header d.file) front ∙ d.whole.header) in
    let info_is : new.packet_range.info ≡ info = ap (λ (x : PacketRange). x.info) t.packet_range in
    let held_is : new.packet_range.held ≡ false = ap (λ (x : PacketRange). x.held) t.packet_range in
    let start_is : new.packet_range.start ≡ start + 16 =
    ap (λ (x : PacketRange). x.start) t.packet_range in
    let end_is : new.packet_range.end ≡ start + count =
    ap (λ (x : PacketRange). x.end) t.packet_range in
    let slice : octets_in new given ≡ drop 16 q =
    rw (held_is, start_is, end_is) (slice_front given start 16 count (omega arith)) in
    let last : List PacketRecord =
    record { place = length (p ++ q); info = info; octets = drop 16 q } ∷ [] in
    let more : length (packets p ++ last) ≡ new.packets =
    omega (arith, t.packets, r.packets, length-append (packets p) last) in
    record {
      reads = record {
        octets = omega (arith, t.octets, r.octets, length-append p q, long);
        packets = sym more ∙ ap (λ (x : Reading). length x.packets) (sym is);
        stands = rw is (record {
          running = t.fault ∙ running;
          part = t.part ∙ d.part;
          interfaces = t.interfaces ∙ b.holds.interfaces;
          taken = t.taken ∙ d.fresh;
          packet_octets = λ k below come. absurd (omega arith);
          end_octets = λ k below come. absurd (omega arith);
        });
      };
      answers = (
        rw (slice, info_is) (ap (λ (x : Reading). x.packets) is),
        ap (λ (x : Reading). fault_of x.ending) is,
      );
    }
