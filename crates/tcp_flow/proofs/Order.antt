-- The order in which payloads come makes no difference.
use Rattle.std.proofs.Common.{◌≡◌, ℕ, ◌+◌, ◌-◌, ◌^◌, ◌<◌, ◌≤◌, false, not, nat_eq, List, [], ◌∷◌, ◌++◌, length, take, drop, is_some, refl, sym, ◌∙◌, ap, subst, arith, inl, inr, true≢false, append-nil}
use Rattle.std.specs.List.{AllByRecursion}
use Rattle.std.proofs.lemmas.Bool.{and_parts, or_parts, eq-eqb}
use Rattle.tcp_waiting.specs.Numbers.{rank}
use Rattle.tcp_waiting.specs.declared.arrival.Arrival as packet
use Rattle.tcp_waiting.specs.Payload.{Payload, oldest_index}
use Rattle.tcp_flow.specs.Flow.{Flow, Reader, Arrival, Octets, End, Hears, oldest_held, after}
use Rattle.tcp_flow.specs.Laws.{HoldsOnlyToCome, AreLater}
use Rattle.tcp_flow.specs.Order.{octets_of, closes_of, Agrees, IsOfContent, StandsIn, IsAt, OrderMakesNoDifference}
use Rattle.tcp_flow.proofs.Content.{ContentCase, IsPieceOfContent, HasEndCome, HasDeliveredUpTo, HoldsForSome}
use Rattle.tcp_flow.proofs.ContentRuns.{HasClosedOrSettled, IsPieceArrival, run, run_has}
use Rattle.tcp_flow.proofs.Places.{same_place, place_later}
use Rattle.tcp_flow.proofs.Firsts.{first_some}

-- ---- Nothing waits at the start.

none_own : (id next : ℕ) (P : Payload → Type 0) (ps : List Payload) →
    is_some (oldest_index id next ps) ≡ false → AllByRecursion (λ p. p.flow ≡ id → P p) ps
none_own id next P [] h = tt
none_own id next P (p ∷ ps) h =
    let e = or_parts (nat_eq p.flow id) (is_some (oldest_index id next ps))
    (sym (first_some id next p ps) ∙ h) in
    ((λ o. absurd (true≢false (sym (eq-eqb p.flow id o) ∙ e.0))), none_own id next P ps e.1)

none_later : (id next least : ℕ) (ps : List Payload) → is_some (oldest_index id next ps) ≡ false →
    AreLater id next least ps
unfolding AreLater
none_later id next least [] h = tt
none_later id next least (p ∷ ps) h =
    let e = or_parts (nat_eq p.flow id) (is_some (oldest_index id next ps))
    (sym (first_some id next p ps) ∙ h) in
    ((λ o. absurd (true≢false (sym (eq-eqb p.flow id o) ∙ e.0))), none_later id next least ps e.1)

-- ---- Payloads that come.

member : (P : Arrival → Type 0) (cs : List Arrival) (c : Arrival) → AllByRecursion P cs →
    StandsIn cs c → P c
unfolding StandsIn
member P [] c h s = absurd s
member P (d ∷ ds) c h (inl e) = subst P (sym e) h.0
member P (d ∷ ds) c h (inr s) = member P ds c h.1 s

members : (P : Arrival → Type 0) (cs : List Arrival) → ((c : Arrival) → StandsIn cs c → P c) →
    AllByRecursion P cs
unfolding StandsIn
members P [] k = tt
members P (d ∷ ds) k = (k d (inl refl), members P ds (λ c s. k c (inr s)))

-- one of the payloads has the octets from a place up to another
record IsSpan (start : ℕ) (content : List ℕ) (arrivals : List Arrival)
    (place end : ℕ) : Type 0 where
  pub number : ℕ
  pub octets : List ℕ
  pub arrival : packet.Arrival
  pub among : StandsIn arrivals (Octets number octets arrival)
  pub agrees : Agrees start content place number octets
  pub long : place + length octets ≡ end

-- no payload spans a place
unfoldable IsUnspanned : (start : ℕ) (content : List ℕ) (arrivals : List Arrival) (place : ℕ) →
    Type 0
IsUnspanned start content ps u = (place end : ℕ) → IsSpan start content ps place end → place ≤ u →
    end ≤ u

abbrev case_of : (flow : Flow) (start reached : ℕ) (content : List ℕ) (place end : ℕ) → ContentCase
case_of f start at content place end = record {
  id = f.id;
  start = start;
  at = at;
  closings = closes_of f.id f.events;
  place = place;
  end = end;
  content = content;
  front = octets_of f.id f.events;
}

start_so : (f : Flow) (start at : ℕ) (content : List ℕ) (U : ℕ → Type 0) (place end : ℕ) →
    IsAt start at content f → HasClosedOrSettled (case_of f start at content place end) U ⊥ f
unfolding HasClosedOrSettled oldest_held
start_so f start at content U place end h =
    let none : at - at ≡ 0 = omega arith in
    inr (
      record {
        same = refl;
        live = h.live;
        r = at;
        next = h.next;
        from = omega arith;
        within = h.within;
        said = sym (ap (λ (n : ℕ). octets_of f.id f.events ++ take n (drop at content)) none
            ∙ append-nil (octets_of f.id f.events));
        count = refl;
        least = λ u l c. l;
        held = none_own f.id f.next (IsPieceOfContent (case_of f start at content place end) U)
            f.held h.waits;
        covered = λ k. absurd k;
      },
      record {
        live = λ l. none_later f.id f.next (2 ^ 31) f.held h.waits;
        dead = λ d. absurd (true≢false
            (sym (and_parts (is_some f.live) (not f.waits) h.live).0 ∙ d));
      },
    )

comes_of : (start at : ℕ) (content : List ℕ) (f : Flow) (ps : List Arrival) (place end : ℕ)
    (c : Arrival) → StandsIn ps c → IsOfContent start content c
    → IsPieceArrival (case_of f start at content place end) (IsUnspanned start content ps) c
unfolding IsPieceArrival IsOfContent IsUnspanned
comes_of start at content f ps place end (Octets n octets arrival) s h = (
  h.0,
  (
    h.1,
    λ u k l. k h.0 (h.0 + length octets)
        (record {
          number = n;
          octets = octets;
          arrival = arrival;
          among = s;
          agrees = h.1;
          long = refl;
        }) l,
  ),
)
comes_of start at content f ps place end (End n) s h = absurd h
comes_of start at content f ps place end (Hears packet) s h = absurd h

later_some : (id next least : ℕ) (Q : Payload → Type 0) (ps : List Payload) →
    AreLater id next least ps → HoldsForSome Q ps → (p : Payload)
    × ((p.flow ≡ id → least < rank next p.number) × Q p)
unfolding AreLater HoldsForSome
later_some id next least Q [] h s = absurd s
later_some id next least Q (p ∷ ps) h (inl s) = (p, (h.0, s))
later_some id next least Q (p ∷ ps) h (inr s) = later_some id next least Q ps h.1 s

-- what has come and doesn't wait ends at the place that is reached, or before it
not_beyond : (x : ContentCase) (U : ℕ → Type 0) (L : Type 0) (g : Flow)
    (so : HasDeliveredUpTo x U L g) → HoldsOnlyToCome g →
    length x.content < 2 ^ 31 → x.place ≤ so.r → HasEndCome x so.r g.held → x.end ≤ so.r
unfolding HasEndCome
not_beyond x U L g so t small l (inl a) = omega (arith, a, l)
not_beyond x U L g so t small l (inr (inl a)) = a
not_beyond x U L g so t small l (inr (inr a)) = search (
  arith,
  later_some,
  and_parts,
  is_some,
  not,
  place_later,
)

-- what the payloads have delivered: the octets up to the first place that none of them spans
record IsReached (start at : ℕ) (content front : List ℕ) (ps : List Arrival) (octets : List ℕ) :
    Type 0 where
  pub r : ℕ
  pub from : at ≤ r
  pub unspanned : IsUnspanned start content ps r
  pub least : (u : ℕ) → at ≤ u → IsUnspanned start content ps u → r ≤ u
  pub said : octets ≡ front ++ take (r - at) (drop at content)

reached : (F : Reader) (f : Flow) (start at : ℕ) (content : List ℕ) (ps cs : List Arrival) →
    length content < 2 ^ 31 → IsAt start at content f
    → AllByRecursion (IsOfContent start content) ps →
    ((c : Arrival) → StandsIn ps c → StandsIn cs c) →
    ((c : Arrival) → StandsIn cs c → StandsIn ps c)
    → closes_of f.id (after F f cs).events ≡ closes_of f.id f.events →
    IsReached start at content (octets_of f.id f.events) ps
    (octets_of f.id (after F f cs).events)
unfolding HasClosedOrSettled IsUnspanned
reached F f start at content ps cs small h agree into back same =
    let U : ℕ → Type 0 = IsUnspanned start content ps in
    let comes : (place end : ℕ) → AllByRecursion
    (IsPieceArrival (case_of f start at content place end) U)
    cs =
    λ place end. members (IsPieceArrival (case_of f start at content place end) U) cs
    (λ c s. comes_of start at content f ps place end c (back c s)
    (member (IsOfContent start content) ps c agree (back c s))) in
    elim (run F (case_of f start at content 0 0) U ⊥ cs f small (comes 0 0)
    (start_so f start at content U 0 0 h)) [
      | inl m ↦ absurd (omega (arith, m, same))
      | inr t ↦
          (let so = t.0 in
          record {
            r = so.r;
            from = so.from;
            unspanned =
                λ place end s l.
                elim (run_has F (case_of f start at content place end) U s.number s.octets s.arrival
                cs f small s.agrees s.long (λ u k m. omega (arith, k place end s m, s.long))
                (into (Octets s.number s.octets s.arrival) s.among) (comes place end)
                (start_so f start at content U place end h)) [
                  | inl m ↦ absurd (omega (arith, m, same))
                  | inr v ↦
                      (let own : v.0.r ≡ so.r = same_place start v.0.r so.r
                      (omega (arith, v.0.within, small)) (omega (arith, so.within, small))
                      (sym v.0.next ∙ so.next) in
                      let z : end ≤ v.0.r = not_beyond (case_of f start at content place end) U
                      (Unit {0}) (after F f cs) v.0 v.1 small (omega (arith, own, l))
                      (v.0.covered tt) in
                      omega (arith, z, own))
                ];
            least = so.least;
            said = so.said;
          })
    ]

pub order_makes_no_difference : OrderMakesNoDifference
order_makes_no_difference F f start at content ps qs small h agree into back closes_p closes_q =
    let front : List ℕ = octets_of f.id f.events in
    let p = reached F f start at content ps ps small h agree (λ c s. s) (λ c s. s) closes_p in
    let q = reached F f start at content ps qs small h agree
    (λ c s. member (StandsIn qs) ps c into s) (λ c s. member (StandsIn ps) qs c back s) closes_q
    in
    let same : p.r ≡ q.r = omega (
      arith,
      p.least q.r q.from q.unspanned,
      q.least p.r p.from p.unspanned,
    ) in
    p.said ∙ ap (λ (r : ℕ). front ++ take (r - at) (drop at content)) same ∙ sym q.said
