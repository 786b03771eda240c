-- How the reading of a list goes on when more octets come: within the part that has begun, or after
-- it.
use Rattle.std.proofs.Common.{◌≡◌, ℕ, zero, suc, ◌+◌, ◌<◌, ◌≤◌, List, [], ◌∷◌, ◌++◌, length, drop, Some, refl, sym, ◌∙◌, ap, arith, inl, inr, zero-add}
use Rattle.std.proofs.lemmas.List.{length-append, length-drop, take-append-le, drop-append-le, drop_all, append-nil}
use Rattle.std.proofs.lemmas.Bool.Decides.{leb_tells}
use Rattle.capture_file.specs.declared.fault.CaptureFault.{CaptureFault}
use Rattle.capture_file.specs.declared.part.Part.{Part}
use Rattle.capture_file.specs.declared.part.Part.TheVariants as parts
use Rattle.capture_file.specs.declared.part.Outcome.{Outcome}
use Rattle.capture_file.specs.declared.part.Outcome.TheVariants.{Continues, EndsPacket, Fails}
use Rattle.capture_file.specs.Parts.{size}
use Rattle.capture_file.specs.Format.{outcome_after}
use Rattle.capture_file.specs.Reading.{PacketRecord, ParserState, Ending, Within, Faulted, Reading, end_of, packet_in, behind, reading_from, reading, fault_of}
use Rattle.capture_file.specs.Laws.{PacketsBegin, FaultStays}

pub size_some : (part : Part) → 1 ≤ size part
size_some (parts.Packet block body) = omega arith
size_some (parts.Record file info captured) = omega arith
size_some _ = omega arith

-- if there are fewer octets than the part has, the reading ends within the part
pub short : (most : ℕ) (state : ParserState) (at : ℕ) (p : List ℕ) → length p < size state.part →
    reading_from most state at p ≡ record { packets = []; ending = Within state at p }
unfolding reading_from
short zero state at p less = refl
short (suc most) state at p less = search (arith, leb_tells)

-- if there are enough octets for the part, the reading goes on after it
pub whole : (most : ℕ) (state : ParserState) (at : ℕ) (p : List ℕ) → size state.part ≤ length p →
    reading_from (suc most) state at p
    ≡ behind state (packet_in state.part p) (at + size state.part)
    (outcome_after state.part state.interfaces (end_of state.part p))
    (λ rest. reading_from most rest (at + size state.part) (drop (size state.part) p))
unfolding reading_from
whole most state at p enough = search (arith, leb_tells)

behind_same : (state : ParserState) (packet : List ℕ) (place : ℕ) (o : Outcome)
    (k l : ParserState → Reading) → ((d : ParserState) → k d ≡ l d) →
    behind state packet place o k ≡ behind state packet place o l
behind_same state packet place (Continues part) k l same = same _
behind_same state packet place (EndsPacket info part) k l same = rw (same _)
behind_same state packet place (Fails kind) k l same = refl

-- any two bounds that are great enough give the same reading
pub enough : (n m : ℕ) (state : ParserState) (at : ℕ) (p : List ℕ) → length p ≤ n → length p ≤ m →
    reading_from n state at p ≡ reading_from m state at p
enough zero m state at p few many = search (arith, size_some, short)
enough (suc n) zero state at p few many = search (arith, size_some, short)
enough (suc n) (suc m) state at p few many =
    let some : 1 ≤ size state.part = size_some state.part in
    elim (leb_tells (suc (length p)) (size state.part)) [
      | inl holds ↦ short (suc n) state at p holds.1 ∙ sym (short (suc m) state at p holds.1)
      | inr fails ↦
          let rest = size state.part in
          whole n state at p (omega arith)
          ∙ behind_same state _ _ _ _ _ (λ d. enough n m d (at + rest) (drop rest p)
          (simp length-drop (omega arith)) (simp length-drop (omega arith)))
          ∙ sym (whole m state at p (omega arith))
    ]

-- a reading with these packets before its own
abbrev pub with_packets : (given : List PacketRecord) (reading : Reading) → Reading
with_packets given r = record r { packets = given ++ r.packets }

-- how a reading that ended goes on with more octets
abbrev pub read_on : (given : List PacketRecord) (ending : Ending) (q : List ℕ) → Reading
read_on given (Within state at had) q =
    with_packets given (reading_from (length (had ++ q)) state at (had ++ q))
read_on given (Faulted fault) q = record { packets = given; ending = Faulted fault }

onward_more : (g : PacketRecord) (given : List PacketRecord) (e : Ending) (q : List ℕ) →
    with_packets (g ∷ []) (read_on given e q) ≡ read_on (g ∷ given) e q
onward_more g given (Within state at had) q = refl
onward_more g given (Faulted fault) q = refl

behind_onward : (state : ParserState) (packet : List ℕ) (place : ℕ) (o : Outcome)
    (k l : ParserState → Reading) (q : List ℕ) →
    ((d : ParserState) → l d ≡ read_on (k d).packets (k d).ending q) →
    behind state packet place o l
    ≡ read_on (behind state packet place o k).packets (behind state packet place o k).ending q
behind_onward state packet place (Continues part) k l q each = each _
behind_onward state packet place (EndsPacket info part) k l q each = search (arith, onward_more)
behind_onward state packet place (Fails kind) k l q each = refl

packet_same : (part : Part) (p q : List ℕ) → size part ≤ length p →
    packet_in part (p ++ q) ≡ packet_in part p
packet_same part p q enough = search (arith, take-append-le)

end_same : (part : Part) (p q : List ℕ) → size part ≤ length p →
    end_of part (p ++ q) ≡ end_of part p
end_same part p q enough = search (arith, drop, length-drop, drop-append-le, take-append-le)

-- the reading of a longer list is the reading of the shorter one, gone on with
grows_short : (n m : ℕ) (state : ParserState) (at : ℕ) (p q : List ℕ) → length (p ++ q) ≤ m →
    length p < size state.part →
    reading_from m state at (p ++ q)
    ≡ read_on (reading_from n state at p).packets (reading_from n state at p).ending q
grows_short n m state at p q many less = search (arith, short, enough)

pub grows_from : (n m : ℕ) (state : ParserState) (at : ℕ) (p q : List ℕ) → length p ≤ n →
    length (p ++ q) ≤ m →
    reading_from m state at (p ++ q)
    ≡ read_on (reading_from n state at p).packets (reading_from n state at p).ending q
grows_from zero m state at p q few many = search (arith, size_some, grows_short)
grows_from (suc n) zero state at p q few many = search (
  arith,
  size_some,
  grows_short,
  length-append,
)
grows_from (suc n) (suc m) state at p q few many =
    elim (leb_tells (suc (length p)) (size state.part)) [
      | inl holds ↦ grows_short (suc n) (suc m) state at p q many holds.1
      | inr fails ↦
          let some : 1 ≤ size state.part = size_some state.part in
          let begun : size state.part ≤ length p = omega arith in
          let long : size state.part ≤ length (p ++ q) = omega (arith, length-append p q) in
          let s = size state.part in
          whole m state at (p ++ q) long
          ∙ rw (
            packet_same state.part p q begun,
            end_same state.part p q begun,
            drop-append-le s
                p q begun,
          )
          (behind_onward state (packet_in state.part p) (at + s)
          (outcome_after state.part state.interfaces (end_of state.part p))
          (λ d. reading_from n d (at + s) (drop s p))
          (λ d. reading_from m d (at + s) (drop s p ++ q)) q
          (λ d. grows_from n m d (at + s) (drop s p) q
          (simp length-drop (omega arith))
          (rw (length-append, length-drop) (omega (arith, length-append p q)))))
          ∙ ap (λ (r : Reading). read_on r.packets r.ending q) (sym (whole n state at p begun))
    ]

pub grows : (p q : List ℕ) → reading (p ++ q) ≡ read_on (reading p).packets (reading p).ending q
unfolding reading
grows p q = search (arith, grows_from)

begun_with : (given : List PacketRecord) (e : Ending) (q : List ℕ) → (more : List PacketRecord)
    × ((read_on given e q).packets ≡ given ++ more)
begun_with given (Within state at had) q = (_, refl)
begun_with given (Faulted fault) q = ([], sym (append-nil given))

pub packets_begin : PacketsBegin
packets_begin p q =
    let b = begun_with (reading p).packets (reading p).ending q in
    (b.0, ap (λ (r : Reading). r.packets) (grows p q) ∙ b.1)

go : (given : List PacketRecord) (e : Ending) (q : List ℕ) (f : CaptureFault) →
    fault_of e ≡ Some f →
    read_on given e q ≡ record { packets = given; ending = e }
go given (Within state at had) q f is = cc
go given (Faulted fault) q f is = refl

stays : (r : Reading) (q : List ℕ) (f : CaptureFault) → fault_of r.ending ≡ Some f →
    read_on r.packets r.ending q ≡ r
stays r q f is = go r.packets r.ending q f is

pub fault_stays : FaultStays
fault_stays p q f is = search (arith, grows, stays)

-- the part that has begun is at its place, and isn't complete
abbrev pub EndsAt : (place : ℕ) (ending : Ending) → Type 0
EndsAt place (Within state at had) = (at + length had ≡ place) × (length had < size state.part)
EndsAt place (Faulted fault) = fault.place ≤ place

behind_ends : (state : ParserState) (packet : List ℕ) (at : ℕ) (o : Outcome) (k : ParserState →
    Reading) (place : ℕ) → at ≤ place →
    ((d : ParserState) → EndsAt place (k d).ending) →
    EndsAt place (behind state packet at o k).ending
behind_ends state packet at (Continues part) k place within each = each _
behind_ends state packet at (EndsPacket info part) k place within each = each _
behind_ends state packet at (Fails kind) k place within each = within

ends_from : (n : ℕ) (state : ParserState) (at : ℕ) (p : List ℕ) → length p ≤ n →
    EndsAt (at + length p) (reading_from n state at p).ending
ends_from zero state at p few = search (arith, size_some, short)
ends_from (suc n) state at p few =
    elim (leb_tells (suc (length p)) (size state.part)) [
      | inl holds ↦ rw (short (suc n) state at p holds.1) (refl, holds.1)
      | inr fails ↦
          let some : 1 ≤ size state.part = size_some state.part in
          let s = size state.part in
          let begun : s ≤ length p = omega arith in
          rw (whole n state at p begun) (behind_ends state (packet_in state.part p) (at + s)
          (outcome_after state.part state.interfaces (end_of state.part p))
          (λ d. reading_from n d (at + s) (drop s p))
          (at + length p) (omega arith) (λ d.
          let same : (at + s) + length (drop s p) ≡ at + length p =
          simp length-drop (omega arith) in
          rw same at (ends_from n d (at + s) (drop s p) (simp length-drop (omega arith)))))
    ]

pub ends_at : (p : List ℕ) → EndsAt (length p) (reading p).ending
unfolding reading
ends_at p = search (arith, zero-add, ends_from)

-- if the octets don't complete the part, the reading stays within it
pub stays_within : (p q : List ℕ) (state : ParserState) (at : ℕ) (had : List ℕ) →
    (reading p).ending ≡ Within state at had →
    length (had ++ q) < size state.part → reading (p ++ q)
    ≡ record { packets = (reading p).packets; ending = Within state at (had ++ q) }
stays_within p q state at had is less = search (arith, grows, short, append-nil)

-- if the octets complete the part, the reading goes on after it
pub completes : (p q : List ℕ) (state : ParserState) (at : ℕ) (had : List ℕ) →
    (reading p).ending ≡ Within state at had →
    length (had ++ q) ≡ size state.part → reading (p ++ q) ≡ with_packets (reading p).packets
    (behind state (packet_in state.part (had ++ q)) (length (p ++ q))
    (outcome_after state.part state.interfaces (end_of state.part (had ++ q)))
    (λ d. record { packets = []; ending = Within d (length (p ++ q)) [] }))
completes p q state at had is all =
    let some : 1 ≤ size state.part = size_some state.part in
    let placed : at + length had ≡ length p = (rw is at (ends_at p)).0 in
    let place : at + size state.part ≡ length (p ++ q) =
    omega (arith, length-append p q, length-append had q) in
    grows p q ∙ rw is (ap (with_packets (reading p).packets)
    (enough (length (had ++ q)) (suc (length (had ++ q))) state at (had ++ q) (omega arith)
    (omega arith)
    ∙ whole (length (had ++ q)) state at (had ++ q) (omega arith)
    ∙ rw place (behind_same state (packet_in state.part (had ++ q)) (length (p ++ q))
    (outcome_after state.part state.interfaces (end_of state.part (had ++ q)))
    (λ d. reading_from (length (had ++ q)) d (length (p ++ q)) (drop (size state.part) (had ++ q)))
    (λ d. record { packets = []; ending = Within d (length (p ++ q)) [] }) (λ d.
    let none : drop (size state.part) (had ++ q) ≡ [] =
    drop_all (size state.part) (had ++ q) (omega arith) in
    let first : 1 ≤ size d.part = size_some d.part in
    rw none (short (length (had ++ q)) d (length (p ++ q)) [] first)))))
