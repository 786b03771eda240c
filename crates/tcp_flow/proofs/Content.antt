-- What has come of a content while its stream lives: its octets up to the first place that no
-- payload spans, whatever the order.
use Rattle.std.proofs.Common.{◌≡◌, ◌⊎◌, ℕ, zero, suc, ◌+◌, ◌-◌, ◌^◌, ◌<◌, ◌≤◌, Bool, true, false, cond, not, nat_eq, nat_lt, ◌&&◌, List, [], ◌∷◌, ◌++◌, length, take, drop, get_or, Option, Some, None, is_some, refl, sym, ◌∙◌, ap, subst, arith, inl, inr, true≢false, append-nil}
use Rattle.std.specs.List.{AllByRecursion, insert, remove}
use Rattle.std.proofs.lemmas.Bool.{cases_Bool, cond-true, cond-false, and_cases, and_parts, and_right, not-true, not_from_true, both_ways, eqb-true, eq-eqb}
use Rattle.std.proofs.lemmas.List.{append_assoc, length-drop}
use Rattle.tcp_flow.specs.declared.flow.CloseCause.{CloseCause}
use Rattle.tcp_flow.specs.declared.flow.CloseCause.TheVariants.{Gap}
use Rattle.tcp_waiting.specs.Numbers.{onward, age, is_to_come}
use Rattle.tcp_waiting.specs.Payload.{without_first, Payload, no_payload}
use Rattle.tcp_flow.specs.Flow.{Flow, Delivers, OfCapture, ComesFrom, Reader, without_old_octets, with_event, stream_closed, closed_at_fault, delivered_unchecked, delivered, lives, started, begun_if_awaited, with_arrival_told, taken, oldest_held, is_due, at as held_at, closed}
use Rattle.tcp_flow.specs.Order.{octets_of, closes_of, Agrees}
use Rattle.tcp_waiting.proofs.Held.{all_at, all_remove}
use Rattle.tcp_waiting.proofs.Order.{first_within, first_own}
use Rattle.tcp_flow.proofs.Closings.{octets_more, closes_more, taken_more, closed_more}
use Rattle.tcp_flow.proofs.Places.{place_due, age_before, same_place, is_continued_by}
use Rattle.tcp_flow.proofs.Preserving.{StepsKeep}
use Rattle.tcp_flow.proofs.Steps.{taken_none, taken_live}

-- ---- Lists.

unfoldable pub HoldsForSome : (P : Payload → Type 0) (payloads : List Payload) → Type 0
HoldsForSome P [] = ⊥
HoldsForSome P (p ∷ ps) = P p ⊎ HoldsForSome P ps

some_remove : (P : Payload → Type 0) (ps : List Payload) (i : ℕ) (d : Payload) → HoldsForSome P ps →
    P (get_or ps i d) ⊎ HoldsForSome P (remove ps i)
unfolding HoldsForSome
some_remove P [] i d s = absurd s
some_remove P (p ∷ ps) zero d (inl s) = inl s
some_remove P (p ∷ ps) zero d (inr s) = inr s
some_remove P (p ∷ ps) (suc i) d (inl s) = inr (inl s)
some_remove P (p ∷ ps) (suc i) d (inr s) = search (arith, some_remove P ps i d s)

pub some_left : (P : Payload → Type 0) (ps : List Payload) (i : ℕ) (q : Payload) →
    HoldsForSome P ps →
    HoldsForSome P (insert ps i q)
unfolding HoldsForSome
some_left P [] i q s = absurd s
some_left P (p ∷ ps) zero q s = inr s
some_left P (p ∷ ps) (suc i) q (inl s) = inl s
some_left P (p ∷ ps) (suc i) q (inr s) = inr (some_left P ps i q s)

pub some_put : (P : Payload → Type 0) (ps : List Payload) (i : ℕ) (q : Payload) → P q →
    HoldsForSome P (insert ps i q)
unfolding HoldsForSome
some_put P [] zero q s = inl s
some_put P [] (suc i) q s = inl s
some_put P (p ∷ ps) zero q s = inl s
some_put P (p ∷ ps) (suc i) q s = inr (some_put P ps i q s)

-- something is true of one payload, if another thing is true of that one and a third of all
pub some_with : (P Q R : Payload → Type 0) (ps : List Payload) → ((p : Payload) → P p → Q p → R p) →
    AllByRecursion P ps → HoldsForSome Q ps → HoldsForSome R ps
unfolding HoldsForSome
some_with P Q R [] k h s = absurd s
some_with P Q R (p ∷ ps) k h (inl s) = inl (k p h.0 s)
some_with P Q R (p ∷ ps) k h (inr s) = inr (some_with P Q R ps k h.1 s)

some_map : (Q R : Payload → Type 0) (ps : List Payload) → ((p : Payload) → Q p → R p) →
    HoldsForSome Q ps → HoldsForSome R ps
unfolding HoldsForSome
some_map Q R [] k s = absurd s
some_map Q R (p ∷ ps) k (inl s) = inl (k p s)
some_map Q R (p ∷ ps) k (inr s) = inr (some_map Q R ps k s)

-- ---- What has come.

-- a flow of an id that begins at `start`, and how many of its streams have closed; the place and
-- the end of one payload; a content, and what was delivered before it
pub record ContentCase : Type 0 where
  pub id : ℕ
  pub start : ℕ
  pub at : ℕ
  pub closings : ℕ
  pub place : ℕ
  pub end : ℕ
  pub content : List ℕ
  pub front : List ℕ

-- a payload of the content that waits: it spans no place that no payload spans
pub record IsPieceOfContent (delivery : ContentCase) (IsUnspanned : ℕ → Type 0)
    (payload : Payload) : Type 0 where
  pub place : ℕ
  pub agrees : Agrees delivery.start delivery.content place payload.number payload.octets
  pub spans : (u : ℕ) → IsUnspanned u → place ≤ u → place + length payload.octets ≤ u

-- a payload that waits and has the last octets of the one payload
pub record HasLastOctets (delivery : ContentCase) (reached : ℕ) (payload : Payload) : Type 0 where
  pub own : payload.flow ≡ delivery.id
  pub place : ℕ
  pub agrees : Agrees delivery.start delivery.content place payload.number payload.octets
  pub early : (place ≤ delivery.place) ⊎ (place ≤ reached)
  pub far : delivery.end ≤ place + length payload.octets

unfoldable pub HasEndCome : (delivery : ContentCase) (reached : ℕ) (payloads : List Payload) →
    Type 0
HasEndCome x r ps = (x.end ≤ x.place) ⊎ ((x.end ≤ r) ⊎ HoldsForSome (HasLastOctets x r) ps)

-- the stream lives, and its octets up to a place were delivered; if the one payload has come,
-- it was delivered or waits
pub record HasDeliveredUpTo (delivery : ContentCase) (IsUnspanned : ℕ → Type 0) (HasCome : Type 0)
    (flow : Flow) : Type 0 where
  pub same : flow.id ≡ delivery.id
  pub live : lives flow.live flow.waits ≡ true
  pub r : ℕ
  pub next : flow.next ≡ onward delivery.start r
  pub from : delivery.at ≤ r
  pub within : r ≤ length delivery.content
  pub said : octets_of delivery.id flow.events ≡ delivery.front
      ++ take (r - delivery.at) (drop delivery.at delivery.content)
  pub count : closes_of delivery.id flow.events ≡ delivery.closings
  pub least : (u : ℕ) → delivery.at ≤ u → IsUnspanned u → r ≤ u
  pub held : AllByRecursion (λ p. p.flow ≡ delivery.id → IsPieceOfContent delivery IsUnspanned p)
      flow.held
  pub covered : HasCome → HasEndCome delivery r flow.held

-- a stream has closed, or the stream lives as in `HasDeliveredUpTo`
unfoldable pub HasClosedOrDelivered : (delivery : ContentCase) (IsUnspanned : ℕ → Type 0)
    (HasCome : Type 0) (flow : Flow) → Type 0
HasClosedOrDelivered x U K g = (x.closings < closes_of x.id g.events) ⊎ HasDeliveredUpTo x U K g

later_reach : (x : ContentCase) (r s : ℕ) (p : Payload) → r ≤ s → HasLastOctets x r p →
    HasLastOctets x s p
later_reach x r s p l h = search (arith)

-- after a payload that waited was taken: it was the one payload, or another still covers that one
covered_taken : (x : ContentCase) (U : ℕ → Type 0) (r s : ℕ) (ps : List Payload) (i : ℕ)
    (d : Payload) →
    length x.content < 2 ^ 31 → r ≤ s → (piece : IsPieceOfContent x U (get_or ps i d))
    → piece.place + length (get_or ps i d).octets ≤ s → HasEndCome x r ps →
    HasEndCome x s (remove ps i)
unfolding HasEndCome
covered_taken x U r s ps i d small l piece m (inl a) = inl a
covered_taken x U r s ps i d small l piece m (inr (inl a)) = search (arith)
covered_taken x U r s ps i d small l piece m (inr (inr a)) = search (
  arith,
  some_remove,
  same_place,
  some_map,
  later_reach,
)

pub left_live : (next k : ℕ) (live : Bool) (p : Payload) → live ≡ true → age next p.number ≡ k →
    without_first k p ≡ without_old_octets next live p
unfolding without_old_octets
left_live next k live p l e = search (arith, cond-false, nat_lt, not, and_right, not_from_true)

pub some_octets : (n : ℕ) → nat_eq n 0 ≡ false → 0 < n
some_octets zero h = absurd (true≢false h)
some_octets (suc n) h = omega arith

stopped_so : (x : ContentCase) (U : ℕ → Type 0) (K : Type 0) (f : Flow) (n : ℕ)
    (cause : CloseCause) →
    HasDeliveredUpTo x U K f → x.closings < closes_of x.id (stream_closed f n cause).events
unfolding with_event
stopped_so x U K f n cause so = search (arith, nat_eq, eq-eqb, cond, closes_more)

checked_so : (x : ContentCase) (U : ℕ → Type 0) (K : Type 0) (f : Flow) (r : Option ℕ) →
    HasDeliveredUpTo x U K f →
    HasClosedOrDelivered x U K (closed_at_fault f r)
unfolding closed_at_fault HasClosedOrDelivered
checked_so x U K f None so = inr so
checked_so x U K f (Some at) so = search (arith, stopped_so)

-- the octets from a place on are delivered
deliver_so : (F : Reader) (x : ContentCase) (U : ℕ → Type 0) (K : Type 0) (g : Flow) (p : Payload)
    (r place k : ℕ) → lives g.live g.waits ≡ true → g.id ≡ x.id
    → Agrees x.start x.content place p.number p.octets → k ≡ r - place → place ≤ r →
    r < place + length p.octets → x.at ≤ r
    → octets_of x.id g.events ≡ x.front ++ take (r - x.at) (drop x.at x.content) →
    closes_of x.id g.events ≡ x.closings
    → ((u : ℕ) → x.at ≤ u → U u → place + length p.octets ≤ u)
    → AllByRecursion (λ q. q.flow ≡ x.id → IsPieceOfContent x U q) g.held →
    (K → HasEndCome x (place + length p.octets) g.held)
    → HasClosedOrDelivered x U K (delivered F g (without_first k p))
unfolding delivered with_event
deliver_so F x U K g p r place k live same agrees kis l m from said count least held covered =
    let q : Payload = without_first k p in
    let d : Flow = delivered_unchecked g q in
    let own : nat_eq g.id x.id ≡ true = eq-eqb g.id x.id same in
    let long : length (drop k p.octets) ≡ length p.octets - k = length-drop k p.octets in
    let octets : octets_of x.id d.events ≡ x.front
    ++ take (place + length p.octets - x.at) (drop x.at x.content) =
    octets_more x.id g.events (Delivers g.id q.octets)
    ∙ ap (λ (xs : List ℕ). octets_of x.id g.events ++ xs)
    (cond-true (nat_eq g.id x.id) q.octets [] own)
    ∙ ap (λ (xs : List ℕ). xs ++ drop k p.octets) said
    ∙ append_assoc x.front (take (r - x.at) (drop x.at x.content)) (drop k p.octets)
    ∙ ap (λ (xs : List ℕ). x.front ++ xs)
    (ap (λ (n : ℕ). take (r - x.at) (drop x.at x.content) ++ drop n p.octets) kis
    ∙ is_continued_by x.at r place p.octets x.content from l (omega (arith, m)) agrees.octets_are)
    in
    checked_so x U K d (F.faulted d.events) (record {
      same = same;
      live = live;
      r = place + length p.octets;
      next = omega (arith, long, agrees.number_is, kis, l, m);
      from = omega (arith, from, m);
      within = agrees.within;
      said = octets;
      count = closes_more x.id g.events (Delivers g.id q.octets) ∙ omega (arith, count);
      least = least;
      held = held;
      covered = covered;
    })

-- a payload that is due and waited is taken
take_so : (F : Reader) (x : ContentCase) (U : ℕ → Type 0) (K : Type 0) (f : Flow) (i : ℕ) →
    length x.content < 2 ^ 31 → oldest_held f ≡ Some i → is_due f i ≡ true →
    HasDeliveredUpTo x U K f
    → HasClosedOrDelivered x U K (taken F (record f { held = remove f.held i }) (held_at f i))
unfolding oldest_held is_due held_at with_arrival_told with_event HasClosedOrDelivered
take_so F x U K f i small e d so =
    let none : Payload = no_payload in
    let p : Payload = get_or f.held i none in
    let within : i < length f.held = rw e at (first_within f.id f.next f.held) in
    let own : p.flow ≡ f.id = rw e at (first_own f.id f.next none f.held) in
    let piece : IsPieceOfContent x U p = all_at
    (λ q. q.flow ≡ x.id → IsPieceOfContent x U q) f.held i none so.held within
    (own ∙ so.same) in
    let s : ℕ = piece.place in
    let live = and_parts (is_some f.live) (not f.waits) so.live in
    let due : is_to_come f.next p.number ≡ false =
    elim (and_cases (is_some f.live) (is_to_come f.next p.number)
    (not-true ((is_some f.live) && is_to_come f.next p.number) d)) [
      | inl y ↦ absurd (both_ways (is_some f.live) y live.0)
      | inr y ↦ y
    ] in
    let there : is_to_come (onward x.start so.r) (onward x.start s) ≡ false =
    subst (λ (n : ℕ). is_to_come (onward x.start so.r) n ≡ false) piece.agrees.number_is
    (subst (λ (n : ℕ). is_to_come n p.number ≡ false) so.next due) in
    let before : s ≤ so.r = place_due x.start so.r s (omega (arith, so.within, small))
    (omega (arith, piece.agrees.within, small)) there in
    let k : ℕ = so.r - s in
    let aged : age f.next p.number ≡ k =
    ap (λ (n : ℕ). age n p.number) so.next ∙ ap (age (onward x.start so.r)) piece.agrees.number_is
    ∙ age_before x.start so.r s before (omega (arith, so.within, small)) in
    let g : Flow = record f { held = remove f.held i } in
    let q : Payload = without_first k p in
    let is_left : q ≡ without_old_octets g.next (is_some g.live) p =
    left_live f.next k (is_some f.live) p live.0 aged in
    let long : length (drop k p.octets) ≡ length p.octets - k = length-drop k p.octets in
    let rest = all_remove (λ q. q.flow ≡ x.id → IsPieceOfContent x U q) f.held i so.held in
    let h : Flow = with_arrival_told g p in
    let same : begun_if_awaited h ≡ h = cond-false f.waits (started h h.next) h
    (not-true f.waits live.1) in
    elim (cases_Bool (nat_eq (length q.octets) 0)) [
      | inl z ↦
          (let short : length p.octets ≤ k = omega (arith, long, eqb-true (length q.octets) 0 z) in
          subst (λ (h : Flow). (x.closings < closes_of x.id h.events) ⊎ HasDeliveredUpTo x U K h)
          (sym (taken_none F g p q is_left z))
          (inr (record {
            same = so.same;
            live = so.live;
            r = so.r;
            next = so.next;
            from = so.from;
            within = so.within;
            said = so.said;
            count = so.count;
            least = so.least;
            held = rest;
            covered = λ c. covered_taken x U so.r so.r f.held i none small (omega arith) piece
                (omega (arith, short, before)) (so.covered c);
          })))
      | inr z ↦
          (let some : so.r < s + length p.octets =
          omega (arith, long, some_octets (length q.octets) z, before) in
          subst (λ (h : Flow). (x.closings < closes_of x.id h.events) ⊎ HasDeliveredUpTo x U K h)
          (sym (taken_live F g p q is_left z live.0 ∙ ap (λ (h : Flow). delivered F h q) same))
          (deliver_so F x U K (with_arrival_told g p) p so.r s k so.live so.same piece.agrees refl
          before
          some so.from
          (octets_more x.id g.events (OfCapture (ComesFrom p.arrival))
          ∙ append-nil (octets_of x.id g.events) ∙ so.said)
          (closes_more x.id g.events (OfCapture (ComesFrom p.arrival)) ∙ omega (arith, so.count))
          (λ u l c. piece.spans u c (omega (arith, before, so.least u l c))) rest
          (λ c. covered_taken x U so.r (s + length p.octets) f.held i none small
          (omega (arith, some)) piece (omega arith) (so.covered c))))
    ]

close_so : (x : ContentCase) (U : ℕ → Type 0) (K : Type 0) (f : Flow) (cause : CloseCause) →
    HasDeliveredUpTo x U K f →
    x.closings < closes_of x.id (closed f cause).events
unfolding closed
close_so x U K f cause so = search (arith, cond-true, stopped_so)

pub so_keeps : (F : Reader) (x : ContentCase) (U : ℕ → Type 0) (K : Type 0) →
    length x.content < 2 ^ 31 →
    StepsKeep F (HasClosedOrDelivered x U K)
unfolding HasClosedOrDelivered
so_keeps F x U K small =
    record {
      takes =
          λ f i e d t.
          elim t [
            | inl m ↦ inl (taken_more F x.closings x.id (record f { held = remove f.held i })
                (held_at f i) m)
            | inr so ↦ take_so F x U K f i small e d so
          ];
      closes = λ f cause t. elim t [
        | inl m ↦ inl (closed_more x.closings x.id f cause m)
        | inr so ↦
            inl (close_so x U K f cause so)
      ];
      waits = λ f count live t. elim t [
        | inl m ↦ inl (closed_more x.closings x.id f Gap m)
        | inr so ↦ inl (close_so x U K f Gap so)
      ];
      fins =
          λ f n t.
          elim t [
            | inl m ↦ inl m
            | inr so ↦
                inr (record {
                  same = so.same;
                  live = so.live;
                  r = so.r;
                  next = so.next;
                  from = so.from;
                  within = so.within;
                  said = so.said;
                  count = so.count;
                  least = so.least;
                  held = so.held;
                  covered = so.covered;
                })
          ];
    }
