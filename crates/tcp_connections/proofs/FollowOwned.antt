-- If all that is delivered is of the stream's own flow, then streams have no gaps.
use Rattle.std.proofs.Common.{◌≡◌, ℕ, Bool, true, false, cond, List, [], ◌∷◌, ◌++◌, Option, Some, None, is_some, unwrap_or, refl, sym, ◌∙◌, ap, subst, arith, inl, inr, true≢false}
use Rattle.std.specs.List.{AllByRecursion}
use Rattle.std.proofs.lemmas.Bool.{eq-eqb, eqb-true}
use Rattle.tcp_segment.specs.Segments.{Segment}
use Rattle.tcp_waiting.specs.Numbers.{onward}
use Rattle.tcp_waiting.specs.Payload.{Payload, payload}
use Rattle.tcp_flow.specs.Flow.{Event, Opens, Begins, Delivers, Closes, OfCapture, flow_of}
use Rattle.tcp_flow.specs.Laws.{IsPartOf, OwnEventMayFollow, EventMayFollow, EventsMayFollow}
use Rattle.tcp_flow.proofs.Truth.{has_last, has_more, runs_grow}
use Rattle.tcp_connections.specs.Connections.{first_number}
use Rattle.tcp_connections.specs.Gapless.{IsOfSegment, AreGapless, AreWhole}
use Rattle.tcp_connections.specs.Owned.{Standing, Unopened, Idle, Live, is_of, behind, MayCome, standing, AllMayCome, AreOwned}
use Rattle.tcp_connections.proofs.OwnFlows.{all_push}

pub is_there : (e : Event) (id : ℕ) → flow_of e ≡ Some id → is_of id e ≡ true
is_there (Opens k flow) id of = eq-eqb k id (ap (λ (s : Option ℕ). unwrap_or s k) of)
is_there (Begins k n) id of = eq-eqb k id (ap (λ (s : Option ℕ). unwrap_or s k) of)
is_there (Delivers k xs) id of = eq-eqb k id (ap (λ (s : Option ℕ). unwrap_or s k) of)
is_there (Closes k cause) id of = eq-eqb k id (ap (λ (s : Option ℕ). unwrap_or s k) of)
is_there (OfCapture event) id of = absurd (true≢false (sym (ap is_some of)))

there_is : (e : Event) (id : ℕ) → is_of id e ≡ true → flow_of e ≡ Some id
there_is (Opens k flow) id own = ap Some (eqb-true k id own)
there_is (Begins k n) id own = ap Some (eqb-true k id own)
there_is (Delivers k xs) id own = ap Some (eqb-true k id own)
there_is (Closes k cause) id own = ap Some (eqb-true k id own)
there_is (OfCapture event) id own = absurd (true≢false (sym own))

-- the number that is due in what an id stands for
abbrev pub due_in : (standing : Standing) → Option ℕ
due_in Unopened = None
due_in (Idle flow) = None
due_in (Live flow due) = Some due

-- the octets that an event delivers
abbrev octets_in : (event : Event) → Option (List ℕ)
octets_in (Opens id flow) = None
octets_in (Begins id start) = None
octets_in (Delivers id octets) = Some octets
octets_in (Closes id cause) = None
octets_in (OfCapture event) = None

-- if an event delivers octets to a live stream, they are part of a payload
abbrev IsDeliveredPart : (payloads : List Payload) (id : ℕ) (standing : Standing) (event : Event) →
    Type 0
IsDeliveredPart payloads id s e =
    (n : ℕ) (xs : List ℕ) → due_in s ≡ Some n → octets_in e ≡ Some xs → IsPartOf payloads id n xs

own_follows : (segments : List Segment) (payloads : List Payload) (id : ℕ) (s : Standing)
    (e : Event) → IsDeliveredPart payloads id s e → is_of id e ≡ true → MayCome segments s e →
    OwnEventMayFollow payloads id (due_in s) e (due_in (behind s e))
unfolding OwnEventMayFollow
own_follows segments payloads id Unopened (Opens k flow) part own m = tt
own_follows segments payloads id (Idle o) (Opens k flow) part own m = tt
own_follows segments payloads id (Idle o) (Begins k start) part own m = refl
own_follows segments payloads id (Live o n) (Delivers k xs) part own m =
    (part n xs refl refl, refl)
own_follows segments payloads id (Live o n) (Closes k cause) part own m = tt
own_follows segments payloads id Unopened (Begins k start) part own m = absurd m
own_follows segments payloads id Unopened (Delivers k xs) part own m = absurd m
own_follows segments payloads id Unopened (Closes k cause) part own m = absurd m
own_follows segments payloads id (Idle o) (Delivers k xs) part own m = absurd m
own_follows segments payloads id (Idle o) (Closes k cause) part own m = absurd m
own_follows segments payloads id (Live o n) (Opens k flow) part own m = absurd m
own_follows segments payloads id (Live o n) (Begins k start) part own m = absurd m
own_follows segments payloads id s (OfCapture event) part own m = absurd (true≢false (sym own))

event_follows : (segments : List Segment) (payloads : List Payload) (id : ℕ) (s : Standing)
    (e : Event) (b : Bool) → is_of id e ≡ b → (b ≡ true → IsDeliveredPart payloads id s e) →
    (b ≡ true → MayCome segments s e) →
    EventMayFollow payloads id (due_in s) e (due_in (cond b (behind s e) s))
event_follows segments payloads id s e true is part m =
    inl (there_is e id is, own_follows segments payloads id s e (part refl) is (m refl))
event_follows segments payloads id s e false is part m =
    inr (λ o. true≢false (sym (is_there e id o) ∙ is), refl)

-- what each id stands for after one more event
abbrev stand_behind : (stands : ℕ → Standing) (event : Event) (id : ℕ) → Standing
stand_behind stands e id = cond (is_of id e) (behind (stands id) e) (stands id)

-- payloads of these segments, which events follow that begin if ids stand for this
record HasPayloads (segments : List Segment) (stands : ℕ → Standing) (events : List Event)
    : Type 0 where
  payloads : List Payload
  came : AllByRecursion (IsOfSegment segments) payloads
  follow : (id : ℕ) → EventsMayFollow payloads id (due_in (stands id)) events
      (due_in (standing id (stands id) events))

more_follow : (segments : List Segment) (stands : ℕ → Standing) (e : Event) (es : List Event)
    (payloads : List Payload) → AllByRecursion (IsOfSegment segments) payloads →
    ((id : ℕ) → is_of id e ≡ true → IsDeliveredPart payloads id (stands id) e) →
    ((id : ℕ) → is_of id e ≡ true → MayCome segments (stands id) e) →
    ((id : ℕ) → EventsMayFollow payloads id (due_in (stand_behind stands e id)) es
    (due_in (standing id (stand_behind stands e id) es))) → HasPayloads segments stands (e ∷ es)
unfolding EventsMayFollow standing
more_follow segments stands e es payloads came part may follow = record {
  payloads = payloads;
  came = came;
  follow =
      λ id. (
        due_in (stand_behind stands e id),
        (
          event_follows segments payloads id (stands id) e (is_of id e) refl (part id) (may id),
          follow id,
        ),
      );
}

-- an event that delivers nothing needs no payload
none_more : (segments : List Segment) (stands : ℕ → Standing) (e : Event) (es : List Event) →
    octets_in e ≡ None → ((id : ℕ) → is_of id e ≡ true → MayCome segments (stands id) e) →
    HasPayloads segments (stand_behind stands e) es → HasPayloads segments stands (e ∷ es)
none_more segments stands e es none may h =
    more_follow segments stands e es h.payloads h.came
    (λ id own n xs due octets. absurd (true≢false (ap is_some (sym octets ∙ none)))) may h.follow

one_more : (segments : List Segment) (stands : ℕ → Standing) (k : ℕ) (xs : List ℕ)
    (es : List Event) →
    ((id : ℕ) → is_of id (Delivers k xs) ≡ true → MayCome segments (stands id) (Delivers k xs)) →
    HasPayloads segments (stand_behind stands (Delivers k xs)) es →
    HasPayloads segments stands (Delivers k xs ∷ es)
one_more segments stands k xs es may h = by (stands k) refl (may k (eq-eqb k k refl))
  where
    by : (s : Standing) → stands k ≡ s → MayCome segments s (Delivers k xs) →
        HasPayloads segments stands (Delivers k xs ∷ es)
    by Unopened is m = absurd m
    by (Idle o) is m = absurd m
    by (Live o n) is m =
        let p : Payload = payload k (first_number m.segment) m.segment.payload
        (record { time = None; packet = 0 }) in
        let ps : List Payload = h.payloads ++ p ∷ [] in
        let part : IsPartOf ps k n xs =
        subst (λ (m : ℕ). IsPartOf ps k m xs) (sym m.number_is)
        (subst (IsPartOf ps k (onward (first_number m.segment) m.skipped)) (sym m.octets_are)
        (has_more ps k (first_number m.segment) m.skipped m.segment.payload
        (has_last h.payloads p (omega arith)))) in
        more_follow segments stands (Delivers k xs) es ps
        (all_push (IsOfSegment segments) h.payloads p h.came (record {
          index = m.index;
          segment = m.segment;
          among = m.among;
          number_is = refl;
          octets_are = refl;
        }))
        (λ id own i ys due octets.
        let same : k ≡ id = eqb-true k id own in
        subst (λ (j : ℕ). IsPartOf ps j i ys) same
        (subst (λ (j : ℕ). IsPartOf ps k j ys)
        (ap (λ (d : Option ℕ). unwrap_or d n)
        (sym (ap due_in is) ∙ ap (λ (j : ℕ). due_in (stands j)) same ∙ due))
        (subst (IsPartOf ps k n) (ap (λ (d : Option (List ℕ)). unwrap_or d xs) octets) part)))
        may
        (λ id. runs_grow h.payloads p id (due_in (stand_behind stands (Delivers k xs) id)) es
        (due_in (standing id (stand_behind stands (Delivers k xs) id) es)) (h.follow id))

has_payloads : (segments : List Segment) (stands : ℕ → Standing) (es : List Event) →
    ((id : ℕ) → AllMayCome segments id (stands id) es) → HasPayloads segments stands es
unfolding AllMayCome EventsMayFollow standing
has_payloads segments stands [] come =
    record { payloads = []; came = tt; follow = λ id. refl }
has_payloads segments stands (e ∷ es) come =
    by e (λ id. (come id).0)
    (has_payloads segments (stand_behind stands e) es (λ id. (come id).1))
  where
    by : (e : Event) → ((id : ℕ) → is_of id e ≡ true → MayCome segments (stands id) e) →
        HasPayloads segments (stand_behind stands e) es → HasPayloads segments stands (e ∷ es)
    by (Opens k flow) may h = none_more segments stands (Opens k flow) es refl may h
    by (Begins k start) may h = none_more segments stands (Begins k start) es refl may h
    by (Delivers k xs) may h = one_more segments stands k xs es may h
    by (Closes k cause) may h = none_more segments stands (Closes k cause) es refl may h
    by (OfCapture event) may h = none_more segments stands (OfCapture event) es refl may h

pub owned_gapless : (segments : List Segment) (events : List Event) → AreOwned segments events →
    AreGapless segments events
owned_gapless segments events come =
    let h : HasPayloads segments (λ id. Unopened) events =
    has_payloads segments (λ id. Unopened) events come in
    record {
      payloads = h.payloads;
      came = h.came;
      follow = λ id. (due_in (standing id Unopened events), h.follow id);
    }

-- if no id stands for a live stream at the end
pub owned_whole : (segments : List Segment) (events : List Event) → AreOwned segments events →
    ((id : ℕ) → due_in (standing id Unopened events) ≡ None) → AreWhole segments events
owned_whole segments events come none =
    let h : HasPayloads segments (λ id. Unopened) events =
    has_payloads segments (λ id. Unopened) events come in
    record {
      payloads = h.payloads;
      came = h.came;
      follow = λ id. subst (EventsMayFollow h.payloads id None events) (none id) (h.follow id);
    }
