-- Streams have no gaps, whatever comes.
use Rattle.std.proofs.Common.{◌≡◌, ℕ, ◌+◌, ◌^◌, ◌<◌, List, [], ◌∷◌, ◌++◌, length, drop, get_or, Option, Some, None, refl, sym, ap, subst, arith, inl, inr, is_some, true≢false}
use Rattle.std.specs.List.{AllByRecursion}
use Rattle.std.proofs.lemmas.List.{drop-drop, get_or-append_right, get_or_append_left, length-append}
use Rattle.tcp_flow.specs.declared.hearing.Heard.{Heard}
use Rattle.tcp_flow.specs.declared.flow.CloseCause.{CloseCause}
use Rattle.tcp_waiting.specs.Numbers.{onward}
use Rattle.tcp_waiting.specs.Payload.{Payload}
use Rattle.tcp_flow.specs.Flow.{with_gap, Flow, Event, Begins, Delivers, Closes, OfCapture, Reader, closed, payload_came, fin_came, heard}
use Rattle.tcp_flow.specs.Laws.{IsPartOf, OwnEventMayFollow, EventMayFollow, EventsMayFollow, due_of, IsGapless}
use Rattle.tcp_flow.proofs.Obeying.{FlowLaw, Obeys, closed_obeys, came_obeys, fin_obeys, heard_obeys, gap_obeys}
use Rattle.tcp_flow.proofs.Tails.{onward_small, tail_map}

onward_onward : (n k a : ℕ) → onward (onward n k) a ≡ onward n (k + a)
onward_onward n k a = omega arith

runs_more : (payloads : List Payload) (id : ℕ) (before due behind : Option ℕ) (hs : List Event)
    (h : Event) → EventsMayFollow payloads id before hs due →
    EventMayFollow payloads id due h behind →
    EventsMayFollow payloads id before (hs ++ h ∷ []) behind
unfolding EventsMayFollow
runs_more payloads id before due behind [] h r t = search (arith)
runs_more payloads id before due behind (g ∷ hs) h r t = search (
  arith,
  runs_more payloads id r.0
      due behind hs h r.1.1 t,
)

pub has_more : (payloads : List Payload) (id n a : ℕ) (xs : List ℕ) → IsPartOf payloads id n xs →
    IsPartOf payloads id (onward n a) (drop a xs)
has_more payloads id n a xs h = search (arith, onward_onward, get_or, drop-drop)

part_small : (payloads : List Payload) (id n : ℕ) (xs : List ℕ) → IsPartOf payloads id n xs →
    n < 2 ^ 32
part_small payloads id n xs h = search (arith, onward_small, get_or)

-- what is delivered to the flow of an id are parts of payloads
gapless_law : (payloads : List Payload) (id : ℕ) → FlowLaw
unfolding OwnEventMayFollow
gapless_law payloads id = record {
  id = id;
  Holds = IsPartOf payloads id;
  Waits = λ p. IsPartOf payloads p.flow p.number p.octets;
  Runs = EventsMayFollow payloads id None;
  skips = has_more payloads id;
  small = part_small payloads id;
  shows = λ p own h. subst (λ (n : ℕ). IsPartOf payloads n p.number p.octets) own h;
  waits = λ p own h. subst (λ (n : ℕ). IsPartOf payloads n p.number p.octets) (sym own) h;
  begins = λ k es start own r. runs_more payloads id None None (Some start.number) es
      (Begins k start) r (inl (ap Some own, refl));
  delivers = λ k es n xs own part r. runs_more payloads id None (Some n)
      (Some (onward n (length xs))) es (Delivers k xs) r (inl (ap Some own, (part, refl)));
  closes = λ k es n cause own r. runs_more payloads id None (Some n) None es (Closes k cause) r
      (inl (ap Some own, tt));
  tells = λ es due event r. runs_more payloads id None due due es (OfCapture event) r
      (inr (λ o. true≢false (sym (ap is_some o)), refl));
}

gapless_obeys : (payloads : List Payload) (f : Flow) → IsGapless payloads f →
    Obeys (gapless_law payloads f.id) f
unfolding gapless_law
gapless_obeys payloads f t =
    record { same = refl; next = t.next; held = t.held; tail = t.tail; runs = t.events }

obeys_gapless : (payloads : List Payload) (id : ℕ) (f : Flow) →
    Obeys (gapless_law payloads id) f → IsGapless payloads f
unfolding gapless_law
obeys_gapless payloads id f h =
    let t : Obeys (gapless_law payloads f.id) f =
    subst (λ (n : ℕ). Obeys (gapless_law payloads n) f) (sym h.same) h in
    record { next = t.next; held = t.held; tail = t.tail; events = t.runs }

pub closed_true : (payloads : List Payload) (f : Flow) (cause : CloseCause) →
    IsGapless payloads f → IsGapless payloads (closed f cause)
closed_true payloads f cause t = obeys_gapless payloads f.id (closed f cause)
    (closed_obeys (gapless_law payloads f.id) f cause (gapless_obeys payloads f t))

-- after one more payload came
has_grow : (payloads : List Payload) (p : Payload) (id n : ℕ) (xs : List ℕ) →
    IsPartOf payloads id n xs → IsPartOf (payloads ++ p ∷ []) id n xs
has_grow payloads p id n xs h = search (arith, get_or, get_or_append_left, length-append, drop)

all_grow : (payloads : List Payload) (p : Payload) (ps : List Payload) →
    AllByRecursion (λ q. IsPartOf payloads q.flow q.number q.octets) ps →
    AllByRecursion (λ q. IsPartOf (payloads ++ p ∷ []) q.flow q.number q.octets) ps
all_grow payloads p [] h = tt
all_grow payloads p (q ∷ ps) h = search (arith, has_grow, all_grow payloads p ps h.1)

own_grow : (payloads : List Payload) (p : Payload) (id : ℕ) (before : Option ℕ) (h : Event)
    (behind : Option ℕ) → OwnEventMayFollow payloads id before h behind →
    OwnEventMayFollow (payloads ++ p ∷ []) id before h behind
unfolding OwnEventMayFollow
own_grow payloads p id (Some due) (Delivers flow xs) (Some next) t = search (arith, has_grow)
own_grow payloads p id before h behind t = t

turns_grow : (payloads : List Payload) (p : Payload) (id : ℕ) (before : Option ℕ) (h : Event)
    (behind : Option ℕ) → EventMayFollow payloads id before h behind →
    EventMayFollow (payloads ++ p ∷ []) id before h behind
turns_grow payloads p id before h behind (inl t) = search (arith, own_grow)
turns_grow payloads p id before h behind (inr t) = inr t

pub runs_grow : (payloads : List Payload) (p : Payload) (id : ℕ) (before : Option ℕ)
    (hs : List Event) (behind : Option ℕ) → EventsMayFollow payloads id before hs behind →
    EventsMayFollow (payloads ++ p ∷ []) id before hs behind
unfolding EventsMayFollow
runs_grow payloads p id before [] behind r = r
runs_grow payloads p id before (h ∷ hs) behind r = search (
  arith,
  turns_grow,
  runs_grow payloads p
      id r.0 hs behind r.1.1,
)

true_grows : (payloads : List Payload) (p : Payload) (f : Flow) → IsGapless payloads f →
    IsGapless (payloads ++ p ∷ []) f
true_grows payloads p f t = record {
  next = t.next;
  held = all_grow payloads p f.held t.held;
  tail = λ u e. tail_map (IsPartOf payloads f.id) (IsPartOf (payloads ++ p ∷ []) f.id) u
      (λ n xs h. has_grow payloads p f.id n xs h) (t.tail u e);
  events = runs_grow payloads p f.id None f.events (due_of f) t.events;
}

pub has_last : (payloads : List Payload) (p : Payload) → p.number < 2 ^ 32 →
    IsPartOf (payloads ++ p ∷ []) p.flow p.number p.octets
has_last payloads p small = search (arith, get_or, get_or-append_right, length-append)

pub came_true : (F : Reader) (payloads : List Payload) (f : Flow) (p : Payload) →
    p.flow ≡ f.id → p.number < 2 ^ 32 → IsGapless payloads f →
    IsGapless (payloads ++ p ∷ []) (payload_came F f p)
unfolding gapless_law
came_true F payloads f p own small t =
    let all : List Payload = payloads ++ p ∷ [] in
    obeys_gapless all f.id (payload_came F f p)
    (came_obeys (gapless_law all f.id) F f p own
    (subst (λ (n : ℕ). IsPartOf all n p.number p.octets) own (has_last payloads p small))
    (gapless_obeys all f (true_grows payloads p f t)))

pub fin_true : (F : Reader) (payloads : List Payload) (f : Flow) (n : ℕ) → IsGapless payloads f →
    IsGapless payloads (fin_came F f n)
fin_true F payloads f n t = obeys_gapless payloads f.id (fin_came F f n)
    (fin_obeys (gapless_law payloads f.id) F f n (gapless_obeys payloads f t))

pub gap_true : (F : Reader) (payloads : List Payload) (f : Flow) → IsGapless payloads f →
    IsGapless payloads (with_gap F f)
gap_true F payloads f t = obeys_gapless payloads f.id (with_gap F f)
    (gap_obeys (gapless_law payloads f.id) F f (gapless_obeys payloads f t))

pub heard_true : (F : Reader) (payloads : List Payload) (count : ℕ) (h : Heard) (f : Flow) →
    IsGapless payloads f → IsGapless payloads (heard F count h f)
heard_true F payloads count h f t = obeys_gapless payloads f.id (heard F count h f)
    (heard_obeys (gapless_law payloads f.id) F count h f (gapless_obeys payloads f t))
