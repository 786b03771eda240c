-- What a capture has read, and what it answers, after it took octets of the part that has begun.
use Rattle.std.proofs.Common.{◌≡◌, ℕ, ◌+◌, ◌-◌, ◌<◌, ◌≤◌, Bool, true, false, List, [], ◌∷◌, ◌++◌, length, take, drop, slice_range, None, refl, sym, ◌∙◌, ap, subst, arith, append-nil, append_assoc, if◌then◌else◌}
use Rattle.std.proofs.lemmas.List.{length-append, length-drop, length-take-le, drop-drop, drop-take, take-take, take_all}
use Rattle.capture_file.specs.declared.capture.Capture.{Capture}
use Rattle.capture_file.specs.declared.part.Outcome.{Outcome}
use Rattle.capture_file.specs.declared.part.Outcome.TheVariants.{Continues, EndsPacket, Fails}
use Rattle.capture_file.specs.declared.progress.Progress.{Progress}
use Rattle.capture_file.specs.declared.progress.Progress.TheVariants as progress
use Rattle.capture_file.specs.Parts.{front, passed, back, packet_offset, size}
use Rattle.capture_file.specs.Format.{outcome_after, interfaces_behind}
use Rattle.capture_file.specs.Reading.{ParserState, Ending, Within, Faulted, Reading, end_of, packet_in, behind, reading, packets, fault_of}
use Rattle.capture_file.specs.CaptureState.{Reads, HoldsPart, HoldsEnding, Answers}
use Rattle.capture_file.specs.CaptureSteps.{Completes, HoldsPiece, PartBegins}
use Rattle.capture_file.specs.Window.{IsHeld}
use Rattle.capture_file.proofs.WindowLemmas.{held_all}
use Rattle.capture_file.proofs.Sizes.{back_few, packet_offset_few}
use Rattle.capture_file.proofs.ReadingSteps.{with_packets, stays_within, completes}

-- the part that has begun in a capture, and the octets of it that have come
pub record HasPartBegun (octets_taken : List ℕ) (capture : Capture) : Type 0 where
  pub state : ParserState
  pub at : ℕ
  pub had : List ℕ
  pub ending : (reading octets_taken).ending ≡ Within state at had
  pub holds : HoldsPart capture state had

begun_in : (p : List ℕ) (c : Capture) (e : Ending) → (reading p).ending ≡ e → HoldsEnding c e →
    c.fault ≡ None → HasPartBegun p c
begun_in p c (Within state at had) is stands running = search (arith)
begun_in p c (Faulted f) is stands running = cc

pub begun : (p : List ℕ) (c : Capture) → Reads c p → c.fault ≡ None → HasPartBegun p c
begun p c r running = search (arith, begun_in)

-- octets were taken: what the capture has read after them, and what it answers
pub record HasTaken (answer : Progress) (before taken : List ℕ) (capture : Capture)
    (octets : List ℕ) : Type 0 where
  pub reads : Reads capture (before ++ taken)
  pub answers : Answers answer before taken capture octets

piece_held : (old mid : Capture) (q : List ℕ) (state : ParserState) (had : List ℕ) →
    HoldsPart old state had → HoldsPiece old mid q →
    IsHeld 0 (front state.part) (had ++ q) mid.packet_octets.items
    × IsHeld (front state.part + passed state.part) (back state.part) (had ++ q) mid.end_octets
piece_held old mid q state had holds kept = search (arith)

held_of : (p q octets : List ℕ) (old new : Capture) (state : ParserState) (at : ℕ)
    (had : List ℕ) → Reads old p →
    (reading p).ending ≡ Within state at had → HoldsPart old state had → old.fault ≡ None →
    HoldsPiece old new q →
    new.taken ≡ old.taken + length q → new.octets ≡ old.octets + length q →
    old.taken + length q < size old.part →
    HasTaken progress.More p q new octets
held_of p q octets old new state at had r ending holds running kept taken count less =
    let same : size old.part ≡ size state.part = ap size holds.part in
    let short : length (had ++ q) < size state.part =
    omega (arith, length-append had q, holds.taken, less, same) in
    let now = stays_within p q state at had ending short in
    let held = piece_held old new q state had holds kept in
    record {
      reads = record {
        octets = omega (arith, count, r.octets, length-append p q);
        packets = kept.packets ∙ r.packets ∙ ap (λ (x : Reading). length x.packets) (sym now);
        stands = rw now (record {
          running = kept.fault ∙ running;
          part = kept.part ∙ holds.part;
          interfaces = kept.interfaces ∙ holds.interfaces;
          taken = omega (arith, taken, holds.taken, length-append had q);
          packet_octets = held.0;
          end_octets = held.1;
        });
      };
      answers = (ap (λ (x : Reading). x.packets) now, ap (λ (x : Reading). fault_of x.ending) now);
    }

pub takes_piece : (p q octets : List ℕ) (old new : Capture) → Reads old p → old.fault ≡ None →
    HoldsPiece old new q →
    new.taken ≡ old.taken + length q → new.octets ≡ old.octets + length q →
    old.taken + length q < size old.part →
    HasTaken progress.More p q new octets
takes_piece p q octets old new r running kept taken count less =
    let b = begun p old r running in
    held_of p q octets old new b.state b.at b.had r b.ending b.holds running kept taken count less

holds_none : (mid new : Capture) (state next : ParserState) → mid.fault ≡ None →
    PartBegins mid new next.part →
    next.interfaces ≡ interfaces_behind state.part state.interfaces → mid.part ≡ state.part →
    mid.interfaces.items ≡ state.interfaces → HoldsPart new next []
holds_none mid new state next running begins behind_is part interfaces = search (arith)

-- the reading after the part, up to where the next part begins
abbrev pub behind_here : (state : ParserState) (packet : List ℕ) (place : ℕ)
    (outcome : Outcome) → Reading
behind_here state packet place o =
    behind state packet place o (λ d. record { packets = []; ending = Within d place [] })

pub takes_outcome : (p q octets : List ℕ) (mid new : Capture) (answer : Progress) (start : ℕ)
    (held : Bool) (state : ParserState)
    (packet : List ℕ) (o : Outcome) →
    reading (p ++ q)
    ≡ with_packets (reading p).packets (behind_here state packet (length (p ++ q)) o) →
    mid.part ≡ state.part → mid.interfaces.items ≡ state.interfaces → mid.fault ≡ None →
    mid.packets ≡ length (packets p) → mid.octets ≡ length (p ++ q) →
    slice_range (if held then mid.packet_octets.items
    else octets) (start + packet_offset mid.part) (start + front mid.part) ≡ packet →
    Completes o mid new answer start held → HasTaken answer p q new octets
takes_outcome p q octets mid new answer start held state packet (Continues part) is a b running
    count place slice c = search (arith, append-nil, holds_none)
takes_outcome p q octets mid new answer start held state packet (EndsPacket info part) is a b
    running count place slice c = search (arith, length-append, holds_none)
takes_outcome p q octets mid new answer start held state packet (Fails kind) is a b running count
    place slice c = search (arith, append-nil)

whole_of : (p q octets end : List ℕ) (old mid new : Capture) (answer : Progress) (start : ℕ)
    (held : Bool) (state : ParserState) (at : ℕ)
    (had : List ℕ) → Reads old p → (reading p).ending ≡ Within state at had →
    HoldsPart old state had →
    old.taken + length q ≡ size old.part → mid.part ≡ old.part →
    mid.interfaces.items ≡ old.interfaces.items →
    mid.fault ≡ None → mid.packets ≡ old.packets → mid.octets ≡ old.octets + length q →
    end ≡ end_of state.part (had ++ q) →
    slice_range (if held then mid.packet_octets.items
    else octets) (start + packet_offset state.part) (start + front state.part)
    ≡ packet_in state.part (had ++ q) →
    Completes (outcome_after mid.part mid.interfaces.items end) mid new answer start held →
    HasTaken answer p q new octets
whole_of p q octets end old mid new answer start held state at had r ending holds whole part
    interfaces running count place end_is
    slice c =
    let same : size old.part ≡ size state.part = ap size holds.part in
    let all : length (had ++ q) ≡ size state.part =
    omega (arith, length-append had q, holds.taken, whole, same) in
    let part_is : mid.part ≡ state.part = part ∙ holds.part in
    let interfaces_is : mid.interfaces.items ≡ state.interfaces = interfaces ∙ holds.interfaces in
    let next_is : outcome_after mid.part mid.interfaces.items end
    ≡ outcome_after state.part state.interfaces (end_of state.part (had ++ q)) =
    rw (part_is, interfaces_is, end_is) refl in
    takes_outcome p q octets mid new answer start held state (packet_in state.part (had ++ q))
    (outcome_after state.part state.interfaces (end_of state.part (had ++ q)))
    (completes p q state at had ending all) part_is interfaces_is running (count ∙ r.packets)
    (omega (arith, place, r.octets, length-append p q)) (rw part_is slice)
    (subst (λ (o : Outcome). Completes o mid new answer start held) next_is c)

-- a slice of octets that begins after an index is a slice of the octets from that index on
pub slice_front : (octets : List ℕ) (start low high : ℕ) → low ≤ high →
    slice_range octets (start + low) (start + high) ≡ drop low (take high (drop start octets))
slice_front octets start low high less =
    let size : (start + high) - (start + low) ≡ high - low = omega arith in
    let sum : low + (high - low) ≡ high = omega arith in
    ap (λ n. take n (drop (start + low) octets)) size
    ∙ sym (ap (take (high - low)) (drop-drop low start octets))
    ∙ sym (drop-take low (high - low) (drop start octets))
    ∙ ap (λ n. drop low (take n (drop start octets))) sum

-- the last octets of a list of this length
pub last_of : (q : List ℕ) (first last : ℕ) → length q ≡ first + last →
    take last (drop first q) ≡ drop (length q - last) q
last_of q first last long = search (arith, drop, length-drop, take_all)

pub none_of : (had : List ℕ) → length had ≡ 0 → had ≡ []
none_of [] none = refl
none_of (x ∷ had) none = absurd (omega arith)

-- the whole part was taken at once, from this index of the octets that the caller gave
pub takes_at_once : (p octets end : List ℕ) (count : ℕ) (old mid new : Capture)
    (answer : Progress) (start : ℕ) →
    Reads old p → old.fault ≡ None → old.taken ≡ 0 → count ≡ size old.part →
    start + count ≤ length octets →
    mid.part ≡ old.part → mid.interfaces.items ≡ old.interfaces.items →
    mid.fault ≡ None → mid.packets ≡ old.packets → mid.octets ≡ old.octets + count →
    end ≡ drop (count - back old.part) (take count (drop start octets)) →
    Completes (outcome_after mid.part mid.interfaces.items end) mid new answer start false →
    HasTaken answer p (take count (drop start octets)) new octets
takes_at_once p octets end count old mid new answer start r running fresh whole within part
    interfaces mid_running packets_same
    place end_is c =
    let b = begun p old r running in
    let q = take count (drop start octets) in
    let long : length q ≡ count =
    length-take-le count (drop start octets) (omega (arith, length-drop start octets)) in
    let none : b.had ≡ [] = none_of b.had (sym b.holds.taken ∙ fresh) in
    let is : old.part ≡ b.state.part = b.holds.part in
    let ends : end ≡ end_of b.state.part q =
    end_is ∙ ap (λ n. drop (n - back old.part) q) (sym long)
    ∙ sym (last_of q (front old.part + passed old.part) (back old.part) (long ∙ whole))
    ∙ ap (λ x. end_of x q) is in
    let few : packet_offset b.state.part ≤ front b.state.part = packet_offset_few b.state.part in
    let size_is : count ≡ size b.state.part = whole ∙ ap size is in
    let slice : slice_range octets (start + packet_offset b.state.part)
    (start + front b.state.part) ≡ packet_in b.state.part q =
    slice_front octets start (packet_offset b.state.part) (front b.state.part) few
    ∙ ap (drop (packet_offset b.state.part))
    (sym (take-take (front b.state.part) count (drop start octets) (omega (arith, size_is)))) in
    whole_of p q octets end old mid new answer start false b.state b.at b.had r b.ending b.holds
    (omega (arith, long, fresh, whole)) part interfaces mid_running packets_same
    (omega (arith, place, long))
    (rw none ends) (rw none slice) c

-- the rest of a part was taken; the octets that are looked at or given to the caller are held
pub takes_rest : (p q octets end : List ℕ) (old mid new : Capture) (answer : Progress) →
    Reads old p → old.fault ≡ None → old.taken + length q ≡ size old.part → HoldsPiece old mid q →
    mid.octets ≡ old.octets + length q → 16 ≤ length mid.end_octets →
    end ≡ take (back old.part) mid.end_octets →
    Completes (outcome_after mid.part mid.interfaces.items end) mid new answer 0 true →
    HasTaken answer p q new octets
takes_rest p q octets end old mid new answer r running whole kept place room end_is c =
    let b = begun p old r running in
    let had = b.had in
    let part = b.state.part in
    let is : old.part ≡ part = b.holds.part in
    let size_is : size old.part ≡ size part = ap size is in
    let all : length (had ++ q) ≡ size part =
    omega (arith, length-append had q, b.holds.taken, whole, size_is) in
    let front_held = piece_held old mid q b.state had b.holds kept in
    let fits : front old.part ≤ length mid.packet_octets.items = omega (arith, kept.come, whole) in
    let fits_due : front part ≤ length mid.packet_octets.items = rw is at fits in
    let front_all : take (front part) mid.packet_octets.items ≡ take (front part) (had ++ q) =
    held_all 0 (front part) (had ++ q) mid.packet_octets.items front_held.0 fits_due
    (omega (arith, all)) in
    let back_fits : back part ≤ length mid.end_octets = omega (arith, back_few part, room) in
    let back_all : take (back part) mid.end_octets ≡ end_of part (had ++ q) =
    held_all (front part + passed part) (back part)
    (had ++ q) mid.end_octets front_held.1 back_fits (omega (arith, all)) in
    let ends : end ≡ end_of part (had ++ q) = end_is ∙ ap (λ x. take (back x) mid.end_octets) is
    ∙ back_all in
    let slice : slice_range mid.packet_octets.items (0 + packet_offset part) (0 + front part)
    ≡ packet_in part (had ++ q) =
    slice_front mid.packet_octets.items 0 (packet_offset part) (front part)
    (packet_offset_few part) ∙ ap (drop (packet_offset part)) front_all in
    whole_of p q octets end old mid new answer 0 true b.state b.at had r b.ending b.holds whole
    kept.part kept.interfaces
    (kept.fault ∙ running) kept.packets place ends slice c

-- the answer to octets is the answer to them and those before them, if these complete no packet
pub answers_behind : (answer : Progress) (p a b octets : List ℕ) (c : Capture) →
    packets (p ++ a) ≡ packets p →
    Answers answer (p ++ a) b c octets → Answers answer p (a ++ b) c octets
answers_behind progress.More p a b octets c none after = search (arith, append_assoc)
answers_behind progress.Packet p a b octets c none after = search (arith, append_assoc)
answers_behind (progress.Fault f) p a b octets c none after = search (arith, append_assoc)
