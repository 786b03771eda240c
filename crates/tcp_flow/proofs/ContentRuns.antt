-- Payloads of a content come, first one and then all: while the stream lives, their octets are
-- delivered or wait.
use Rattle.std.proofs.Common.{◌≡◌, ◌⊎◌, ℕ, ◌+◌, ◌-◌, ◌^◌, ◌<◌, ◌≤◌, true, not, nat_eq, nat_le, ◌&&◌, ◌||◌, List, [], ◌∷◌, length, take, drop, is_some, refl, sym, ◌∙◌, ap, subst, arith, inl, inr, true≢false}
use Rattle.std.specs.List.{AllByRecursion}
use Rattle.std.proofs.lemmas.Bool.{cases_Bool, cases_lt, and_parts, or_cases, or_parts, eqb-true, leb-true}
use Rattle.std.proofs.lemmas.List.{length-drop}
use Rattle.tcp_waiting.specs.Numbers.{onward, age}
use Rattle.tcp_waiting.specs.declared.arrival.Arrival as packet
use Rattle.tcp_waiting.specs.Payload.{Payload, payload, without_first, holds_as_long, put, place_of, key_of}
use Rattle.tcp_flow.specs.Flow.{Flow, Reader, Arrival, Octets, End, Hears, without_old_octets, with_held, gone_on_with_held, payload_came, step, after}
use Rattle.tcp_flow.specs.Laws.{HoldsOnlyToCome}
use Rattle.tcp_flow.specs.Order.{closes_of, Agrees, StandsIn}
use Rattle.tcp_flow.proofs.Closings.{came_more}
use Rattle.tcp_waiting.proofs.Held.{all_insert}
use Rattle.tcp_flow.proofs.Content.{HoldsForSome, some_left, some_put, some_with, ContentCase, IsPieceOfContent, HasLastOctets, HasEndCome, HasDeliveredUpTo, HasClosedOrDelivered, left_live, some_octets, so_keeps}
use Rattle.tcp_flow.proofs.Direct.{came_settled}
use Rattle.tcp_flow.proofs.Places.{age_before, age_behind, same_place, place_further, drop_content}
use Rattle.tcp_flow.proofs.Preserving.{gone_on_keeps, window_keeps}
use Rattle.tcp_flow.proofs.Steps.{came_nothing, came_held}

-- ---- One payload comes.

-- the one payload has come, or it is this one
unfoldable pub HasComeOrIsThis : (delivery : ContentCase) (HasCome : Type 0) (place end : ℕ) →
    Type 0
HasComeOrIsThis x K place end = K ⊎ ((place ≡ x.place) × (end ≡ x.end))

any_as_much : (id number count : ℕ) (ps : List Payload) → holds_as_long id number count ps ≡ true →
    HoldsForSome (λ p. (p.flow ≡ id) × ((p.number ≡ number) × (count ≤ length p.octets))) ps
unfolding holds_as_long HoldsForSome
any_as_much id number count [] h = absurd (true≢false (sym h))
any_as_much id number count (p ∷ ps) h =
    elim (or_cases (nat_eq p.flow id && nat_eq p.number number && nat_le count (length p.octets))
    (holds_as_long id number count ps) h) [
      | inl a ↦
          (let b = and_parts (nat_eq p.flow id && nat_eq p.number number)
          (nat_le count (length p.octets)) a in
          let c = and_parts (nat_eq p.flow id) (nat_eq p.number number) b.0 in
          inl (
            eqb-true p.flow id c.0,
            (
              eqb-true p.number number c.1,
              leb-true count (length p.octets) b.1,
            ),
          ))
      | inr a ↦ inr (any_as_much id number count ps a)
    ]

-- where the octets begin that are left of a payload
place_left : (x : ContentCase) (r place : ℕ) → (r ≤ place) ⊎ (place < r) → (k : ℕ) →
    length x.content < 2 ^ 31 → r ≤ length x.content → place ≤ length x.content →
    k ≡ age (onward x.start r) (onward x.start place)
    → (k ≡ r - place) × ((place ≤ place + k) × ((place + k ≤ place) ⊎ (place + k ≤ r)))
place_left x r place (inl l) k small within inside e = search (arith, age_behind)
place_left x r place (inr l) k small within inside e = search (arith, age_before)

covered_left : (x : ContentCase) (r : ℕ) (ps : List Payload) (q : Payload) → HasEndCome x r ps →
    HasEndCome x r (put q ps)
unfolding HasEndCome
covered_left x r ps q (inl a) = inl a
covered_left x r ps q (inr (inl a)) = inr (inl a)
covered_left x r ps q (inr (inr a)) = search (arith, some_left)

covered_put : (x : ContentCase) (r : ℕ) (ps : List Payload) (q : Payload) → HasLastOctets x r q →
    HasEndCome x r (put q ps)
unfolding HasEndCome
covered_put x r ps q h = search (arith, some_put)

-- a payload that adds nothing
nothing_so : (x : ContentCase) (U : ℕ → Type 0) (K : Type 0) (f : Flow) (number place k : ℕ)
    (octets : List ℕ) (so : HasDeliveredUpTo x U K f) → length x.content < 2 ^ 31
    → number ≡ onward x.start (place + k) → (place + k ≤ place) ⊎ (place + k ≤ so.r) →
    place + length octets ≤ length x.content
    → (nat_eq (length (drop k octets)) 0 || holds_as_long f.id number
    (length (drop k octets)) f.held)
    ≡ true → place ≡ x.place → place + length octets ≡ x.end
    → HasEndCome x so.r f.held
unfolding HasEndCome
nothing_so x U K f number place k octets so small num early within e same end =
    let long : length (drop k octets) ≡ length octets - k = length-drop k octets in
    elim (or_cases (nat_eq (length (drop k octets)) 0)
    (holds_as_long f.id number (length (drop k octets)) f.held) e) [
      | inl z ↦
          (let short : length octets ≤ k = omega (
            arith,
            long,
            eqb-true (length (drop k octets)) 0 z,
          ) in
          elim early [
            | inl a ↦ inl (omega (arith, a, short, same, end))
            | inr a ↦ inr (inl (omega (arith, a, short, end)))
          ])
      | inr h ↦
          inr (inr (some_with (λ p. p.flow ≡ x.id → IsPieceOfContent x U p)
          (λ p. (p.flow ≡ f.id) × ((p.number ≡ number)
          × (length (drop k octets) ≤ length p.octets))) (HasLastOctets x so.r) f.held
          (λ p has q.
          let own : p.flow ≡ x.id = q.0 ∙ so.same in
          let piece : IsPieceOfContent x U p = has own in
          let low : place + k ≤ length x.content =
          elim early [ inl a ↦ omega (arith, a, within) | inr a ↦ omega (arith, a, so.within) ]
          in
          let here : piece.place ≡ place + k =
          same_place x.start piece.place (place + k) (omega (arith, piece.agrees.within, small))
          (omega (arith, low, small)) (sym piece.agrees.number_is ∙ q.1.0 ∙ num) in
          record {
            own = own;
            place = piece.place;
            agrees = piece.agrees;
            early = elim early [
              | inl a ↦ inl (omega (arith, a, here, same))
              | inr a ↦ inr
                  (omega (arith, a, here))
            ];
            far = omega (arith, here, q.1.1, long, end);
          }) so.held (any_as_much f.id number (length (drop k octets)) f.held h)))
    ]

-- a payload of the content comes
came_so : (F : Reader) (x : ContentCase) (U : ℕ → Type 0) (K L : Type 0) (f : Flow) (n place : ℕ)
    (octets : List ℕ) (arrival : packet.Arrival) → length x.content < 2 ^ 31
    → Agrees x.start x.content place n octets →
    ((u : ℕ) → U u → place ≤ u → place + length octets ≤ u) →
    (L → HasComeOrIsThis x K place (place + length octets))
    → HasDeliveredUpTo x U K f → HasClosedOrDelivered x U L
    (payload_came F f (payload f.id n octets arrival))
unfolding HasClosedOrDelivered HasComeOrIsThis with_held
came_so F x U K L f n place octets arrival small agrees spans new so =
    let p : Payload = payload f.id n octets arrival in
    let k : ℕ = age f.next n in
    let aged : k ≡ age (onward x.start so.r) (onward x.start place) =
    ap (λ (m : ℕ). age m n) so.next ∙ ap (age (onward x.start so.r)) agrees.number_is in
    let side : (so.r ≤ place) ⊎ (place < so.r) =
    elim (cases_lt place so.r) [ inl l ↦ inr l | inr g ↦ inl g ] in
    let here = place_left x so.r place side k small so.within (omega (arith, agrees.within)) aged in
    let number : onward n k ≡ onward x.start (place + k) =
    ap (λ (m : ℕ). onward m k) agrees.number_is ∙ place_further x.start place k in
    let q : Payload = without_first k p in
    let is_left : q ≡ without_old_octets f.next (is_some f.live) p =
    left_live f.next k (is_some f.live) p (and_parts (is_some f.live) (not f.waits) so.live).0
    refl in
    let long : length (drop k octets) ≡ length octets - k = length-drop k octets in
    elim (cases_Bool (nat_eq (length q.octets) 0
    || holds_as_long f.id q.number (length q.octets) f.held)) [
      | inl e ↦
          subst (λ (h : Flow). (x.closings < closes_of x.id h.events) ⊎ HasDeliveredUpTo x U L h)
          (sym (came_nothing F f p q is_left e))
          (inr (record {
            same = so.same;
            live = so.live;
            r = so.r;
            next = so.next;
            from = so.from;
            within = so.within;
            said = so.said;
            count = so.count;
            least = so.least;
            held = so.held;
            covered =
                λ c.
                elim (new c) [
                  | inl has ↦ so.covered has
                  | inr own ↦ nothing_so x U K f (onward n k) place k octets so small number
                      here.1.1 agrees.within e own.0 own.1
                ];
          }))
      | inr e ↦
          (let parts = or_parts (nat_eq (length q.octets) 0)
          (holds_as_long f.id q.number (length q.octets) f.held) e in
          let less : k < length octets = omega (arith, long, some_octets (length q.octets) parts.0)
          in
          let rest : Agrees x.start x.content (place + k) q.number q.octets =
          record {
            number_is = number;
            within = omega (arith, long, less, agrees.within);
            octets_are = drop_content place k octets x.content (omega (arith, less))
                agrees.octets_are ∙ ap (λ (m : ℕ). take m (drop (place + k) x.content)) (sym long);
          } in
          let piece : IsPieceOfContent x U q = record {
            place = place + k;
            agrees = rest;
            spans =
                λ u c l. omega (arith, spans u c (omega (arith, l)), long, less);
          } in
          let h : Flow = record f { held = put q f.held } in
          let held : HasDeliveredUpTo x U L h =
          record {
            same = so.same;
            live = so.live;
            r = so.r;
            next = so.next;
            from = so.from;
            within = so.within;
            said = so.said;
            count = so.count;
            least = so.least;
            held = all_insert (λ p. p.flow ≡ x.id → IsPieceOfContent x U p) f.held
                (place_of (key_of q) f.held) q so.held (λ o. piece);
            covered =
                λ c.
                elim (new c) [
                  | inl has ↦ covered_left x so.r f.held q (so.covered has)
                  | inr own ↦ covered_put x so.r f.held q (record {
                    own = so.same;
                    place = place + k;
                    agrees = rest;
                    early = elim here.1.1 [ inl a ↦ inl (omega (arith, a, own.0)) | inr a ↦ inr a ];
                    far = omega (arith, own.1, long, less);
                  })
                ];
          } in
          subst (λ (h : Flow). (x.closings < closes_of x.id h.events) ⊎ HasDeliveredUpTo x U L h)
          (sym (came_held F f p q is_left e))
          (window_keeps F (HasClosedOrDelivered x U L) (so_keeps F x U L small) (length f.held + 1)
          (gone_on_with_held F h) (gone_on_keeps F (HasClosedOrDelivered x U L)
          (so_keeps F x U L small) h (inr held))))
    ]

-- ---- All that comes.

-- a stream has closed, or the stream lives as in `HasDeliveredUpTo` and all that waits is to come
unfoldable pub HasClosedOrSettled : (delivery : ContentCase) (IsUnspanned : ℕ → Type 0)
    (HasCome : Type 0) (flow : Flow) → Type 0
HasClosedOrSettled x U K g = (x.closings < closes_of x.id g.events)
    ⊎ (HasDeliveredUpTo x U K g × HoldsOnlyToCome g)

-- what comes is a payload of the content, and it spans no place that no payload spans
unfoldable pub IsPieceArrival : (delivery : ContentCase) (IsUnspanned : ℕ → Type 0)
    (arrival : Arrival) → Type 0
IsPieceArrival x U (Octets n octets arrival) =
    (place : ℕ) × (Agrees x.start x.content place n octets
    × ((u : ℕ) → U u → place ≤ u → place + length octets ≤ u))
IsPieceArrival x U (End n) = ⊥
IsPieceArrival x U (Hears packet) = ⊥

step_so : (F : Reader) (x : ContentCase) (U : ℕ → Type 0) (K L : Type 0) (f : Flow) (n place : ℕ)
    (octets : List ℕ) (arrival : packet.Arrival) → length x.content < 2 ^ 31
    → Agrees x.start x.content place n octets →
    ((u : ℕ) → U u → place ≤ u → place + length octets ≤ u) →
    (L → HasComeOrIsThis x K place (place + length octets))
    → HasClosedOrSettled x U K f → HasClosedOrSettled x U L
    (payload_came F f (payload f.id n octets arrival))
unfolding HasClosedOrSettled HasClosedOrDelivered
step_so F x U K L f n place octets arrival small agrees spans new (inl m) =
    inl (came_more F x.closings x.id f (payload f.id n octets arrival) m)
step_so F x U K L f n place octets arrival small agrees spans new (inr h) =
    elim (came_so F x U K L f n place octets arrival small agrees spans new h.0) [
      | inl m ↦ inl m
      | inr so ↦
          (let low : onward x.start so.r < 2 ^ 32 = omega arith in
          inr (
            so,
            came_settled F f (payload f.id n octets arrival) h.1
                (subst (λ (m : ℕ). m < 2 ^ 32) (sym so.next) low),
          ))
    ]

pub run : (F : Reader) (x : ContentCase) (U : ℕ → Type 0) (K : Type 0) (cs : List Arrival)
    (f : Flow) →
    length x.content < 2 ^ 31 → AllByRecursion (IsPieceArrival x U) cs →
    HasClosedOrSettled x U K f →
    HasClosedOrSettled x U K (after F f cs)
unfolding after step IsPieceArrival HasComeOrIsThis
run F x U K [] f small h t = t
run F x U K (Octets n octets arrival ∷ cs) f small h t =
    run F x U K cs (payload_came F f (payload f.id n octets arrival)) small h.1
    (step_so F x U K K f n h.0.0 octets arrival small h.0.1.0 h.0.1.1 (λ k. inl k) t)
run F x U K (End n ∷ cs) f small h t = absurd h.0
run F x U K (Hears packet ∷ cs) f small h t = absurd h.0

-- the one payload is among those that come
pub run_has : (F : Reader) (x : ContentCase) (U : ℕ → Type 0) (n : ℕ) (octets : List ℕ)
    (arrival : packet.Arrival) (cs : List Arrival) (f : Flow) → length x.content < 2 ^ 31
    → Agrees x.start x.content x.place n octets → x.place + length octets ≡ x.end →
    ((u : ℕ) → U u → x.place ≤ u → x.place + length octets ≤ u)
    → StandsIn cs (Octets n octets arrival) → AllByRecursion (IsPieceArrival x U) cs →
    HasClosedOrSettled x U ⊥ f →
    HasClosedOrSettled x U (Unit {0}) (after F f cs)
unfolding after step IsPieceArrival StandsIn HasComeOrIsThis
run_has F x U n octets arrival [] f small agrees end spans s h t = absurd s
run_has F x U n octets arrival (d ∷ ds) f small agrees end spans (inl e) h t =
    subst (λ (c : Arrival). HasClosedOrSettled x U (Unit {0}) (after F (step F f c) ds)) e
    (run F x U (Unit {0}) ds (payload_came F f (payload f.id n octets arrival)) small h.1
    (step_so F x U ⊥ (Unit {0}) f n x.place octets arrival small agrees spans
    (λ k. inr (refl, end)) t))
run_has F x U n octets arrival (Octets m os came ∷ ds) f small agrees end spans (inr s) h t =
    run_has F x U n octets arrival ds (payload_came F f (payload f.id m os came)) small agrees
    end spans s h.1
    (step_so F x U ⊥ ⊥ f m h.0.0 os came small h.0.1.0 h.0.1.1 (λ k. inl k) t)
run_has F x U n octets arrival (End m ∷ ds) f small agrees end spans (inr s) h t = absurd h.0
run_has F x U n octets arrival (Hears packet ∷ ds) f small agrees end spans (inr s) h t =
    absurd h.0
