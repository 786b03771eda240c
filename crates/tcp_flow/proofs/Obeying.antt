-- A flow obeys a law about what it holds, what it delivers and when it does so, whatever comes.
use Rattle.std.proofs.Common.{◌≡◌, ℕ, ◌^◌, ◌<◌, Bool, true, false, cond, nat_eq, nat_lt, ◌&&◌, not, List, [], ◌∷◌, ◌++◌, length, drop, get_or, Option, Some, None, refl, sym, ◌∙◌, ap, subst, arith, inl, inr, is_some, true≢false}
use Rattle.std.specs.List.{AllByRecursion, remove}
use Rattle.std.proofs.lemmas.Bool.{cases_Bool, cases_lt, lt-ltb, le-ltb, ltb-false, and_cases, cond-true, cond-false, not-true, and_left, and_right, not_from_true, both_ways}
use Rattle.tcp_flow.specs.declared.flow.CloseCause.{CloseCause}
use Rattle.tcp_flow.specs.declared.flow.CloseCause.TheVariants.{Gap}
use Rattle.tcp_flow.specs.declared.flow.Start.{Start}
use Rattle.tcp_flow.specs.declared.hearing.Heard.{Heard}
use Rattle.tcp_flow.specs.declared.tail.Tail.{Tail}
use Rattle.tcp_waiting.specs.declared.arrival.Arrival as origin
use Rattle.tcp_waiting.specs.Numbers.{onward, age, is_to_come}
use Rattle.tcp_waiting.specs.Payload.{Payload, payload, no_payload, without_first, window, place_of, key_of}
use Rattle.tcp_waiting.proofs.Held.{all_at, all_insert, all_remove}
use Rattle.tcp_waiting.proofs.Order.{first_within, first_own}
use Rattle.tcp_flow.specs.Flow.{Flow, Event, CaptureEvent, Begins, Delivers, Closes, OfCapture, ComesFrom, Passes, Reader, Arrival, Octets, End, Hears, without_old_octets, with_event, stream_closed, closed_at_fault, delivered_unchecked, delivered, start_at, started, lives, out_of_step, begun_if_awaited, awaiting_stream, looked_through, tail_continued_by, with_arrival_told, taken, oldest_held, is_due, at, closed, payload_came, with_held, fin_came, with_gap, heard, step}
use Rattle.tcp_flow.specs.Laws.{due_of, IsTailOf}
use Rattle.tcp_flow.proofs.Preserving.{either, by_case, StepsKeep, came_keeps, fin_keeps, heard_keeps, gap_keeps}
use Rattle.tcp_flow.proofs.Room.{left_flow}
use Rattle.tcp_flow.proofs.Tails.{LookingKeeps, looked_keeps}

-- a number that isn't to come is due after its old octets are left out
pub reached : (next n : ℕ) → next < 2 ^ 32 → is_to_come next n ≡ false →
    onward n (age next n) ≡ next
reached next n small h = search (arith, cases_lt, and_cases, nat_lt, ltb-false, lt-ltb, le-ltb)

left_due : (next : ℕ) (live : Bool) (p : Payload) → next < 2 ^ 32 → live ≡ true →
    is_to_come next p.number ≡ false → (without_old_octets next live p).number ≡ next
unfolding without_old_octets
left_due next live p small l h = search (
  arith,
  cond-false,
  nat_lt,
  not,
  and_right,
  not_from_true,
  reached,
)

pub closed_idle : (f : Flow) (cause : CloseCause) →
    lives (closed f cause).live (closed f cause).waits ≡ false
unfolding closed with_event
closed_idle f cause = search (arith, either)

-- if the stream that a flow in step waits for begins, it lives, and the same number is due
resumed_lives : (f : Flow) → is_some f.live ≡ true →
    lives (begun_if_awaited f).live (begun_if_awaited f).waits ≡ true
unfolding with_event
resumed_lives f e = search (arith, cases_Bool, cond-true, cond-false)

resumed_next : (f : Flow) → (begun_if_awaited f).next ≡ f.next
unfolding with_event
resumed_next f = search (arith, either)

-- A law about the flow of an id. `Holds` says what is true of octets of the flow at a number,
-- `Waits` what is true of a held payload of any flow, and `Runs` what is true of all that has
-- happened, if this number is due in the flow's live stream, or None if it has none.
pub record FlowLaw : Type 1 where
  pub id : ℕ
  pub Holds : ℕ → List ℕ → Type 0
  pub Waits : Payload → Type 0
  pub Runs : List Event → Option ℕ → Type 0
  pub skips : (n k : ℕ) (xs : List ℕ) → Holds n xs → Holds (onward n k) (drop k xs)
  pub small : (n : ℕ) (xs : List ℕ) → Holds n xs → n < 2 ^ 32
  pub shows : (p : Payload) → p.flow ≡ id → Waits p → Holds p.number p.octets
  pub waits : (p : Payload) → p.flow ≡ id → Holds p.number p.octets → Waits p
  pub begins : (k : ℕ) (es : List Event) (start : Start) → k ≡ id → Runs es None →
      Runs (es ++ Begins k start ∷ []) (Some start.number)
  pub delivers : (k : ℕ) (es : List Event) (n : ℕ) (xs : List ℕ) → k ≡ id → Holds n xs →
      Runs es (Some n) → Runs (es ++ Delivers k xs ∷ []) (Some (onward n (length xs)))
  pub closes : (k : ℕ) (es : List Event) (n : ℕ) (cause : CloseCause) → k ≡ id →
      Runs es (Some n) → Runs (es ++ Closes k cause ∷ []) None
  pub tells : (es : List Event) (due : Option ℕ) (event : CaptureEvent) → Runs es due →
      Runs (es ++ OfCapture event ∷ []) due

pub record Obeys (law : FlowLaw) (flow : Flow) : Type 0 where
  pub same : flow.id ≡ law.id
  pub next : flow.next < 2 ^ 32
  pub held : AllByRecursion law.Waits flow.held
  pub tail : (t : Tail) → flow.tail ≡ Some t → IsTailOf law.Holds t
  pub runs : law.Runs flow.events (due_of flow)

module _ (law : FlowLaw) where
  live_runs : (g : Flow) → lives g.live g.waits ≡ true → Obeys law g →
      law.Runs g.events (Some g.next)
  live_runs g live t = subst (law.Runs g.events)
      (cond-true (lives g.live g.waits) (Some g.next) None live) t.runs

  idle_runs : (g : Flow) → lives g.live g.waits ≡ false → Obeys law g → law.Runs g.events None
  idle_runs g dead t = subst (law.Runs g.events)
      (cond-false (lives g.live g.waits) (Some g.next) None dead) t.runs

  stopped_obeys : (g : Flow) (n : ℕ) (cause : CloseCause) → lives g.live g.waits ≡ true →
      Obeys law g → Obeys law (stream_closed g n cause)
  unfolding with_event
  stopped_obeys g n cause live t = record {
    same = t.same;
    next = t.next;
    held = t.held;
    tail = t.tail;
    runs = law.closes g.id g.events g.next cause t.same (live_runs g live t);
  }

  checked_obeys : (g : Flow) (r : Option ℕ) → lives g.live g.waits ≡ true → Obeys law g →
      Obeys law (closed_at_fault g r)
  unfolding closed_at_fault
  checked_obeys g None live t = t
  checked_obeys g (Some at) live t = search (arith, stopped_obeys)

  told_obeys : (g : Flow) (e : CaptureEvent) → Obeys law g →
      Obeys law (with_event g (OfCapture e))
  unfolding with_event
  told_obeys g e t = record {
    same = t.same;
    next = t.next;
    held = t.held;
    tail = t.tail;
    runs = law.tells g.events (due_of g) e t.runs;
  }

  -- a flow without a live stream may as well be out of step
  idle_obeys : (g : Flow) → lives g.live g.waits ≡ false → Obeys law g → Obeys law (out_of_step g)
  idle_obeys g dead t = record {
    same = t.same;
    next = t.next;
    held = t.held;
    tail = t.tail;
    runs = idle_runs g dead t;
  }

  pub closed_obeys : (g : Flow) (cause : CloseCause) → Obeys law g → Obeys law (closed g cause)
  unfolding closed
  closed_obeys g cause t =
      by_case (Obeys law) (lives g.live g.waits) (stream_closed g g.next cause) (out_of_step g)
      (λ e. stopped_obeys g g.next cause e t) (λ e. idle_obeys g e t)

  awaiting_obeys : (g : Flow) (count : ℕ) → Obeys law g → Obeys law (awaiting_stream g count)
  awaiting_obeys g count t =
      let c : Obeys law (closed g Gap) = closed_obeys g Gap t in
      let small : onward g.next count < 2 ^ 32 = omega arith in
      record {
        same = c.same;
        next = small;
        held = c.held;
        tail = c.tail;
        runs = idle_runs (closed g Gap) (closed_idle g Gap) c;
      }

  delivered_obeys : (F : Reader) (g : Flow) (p : Payload) → Obeys law g →
      lives g.live g.waits ≡ true → p.number ≡ g.next → law.Holds p.number p.octets →
      Obeys law (delivered F g p)
  unfolding delivered with_event
  delivered_obeys F g p t live due part =
      let next : ℕ = onward p.number (length p.octets) in
      let small : next < 2 ^ 32 = omega arith in
      let d : Flow = delivered_unchecked g p in
      checked_obeys d (F.faulted d.events) live
      (record {
        same = t.same;
        next = small;
        held = t.held;
        tail = t.tail;
        runs = subst (law.Runs d.events)
            (sym (cond-true (lives g.live g.waits) (Some next) None live))
            (law.delivers g.id g.events p.number p.octets t.same part
            (subst (λ (n : ℕ). law.Runs g.events (Some n)) (sym due) (live_runs g live t)));
      })

  started_obeys : (g : Flow) (n : ℕ) → n < 2 ^ 32 → lives g.live g.waits ≡ false → Obeys law g →
      Obeys law (started g n)
  unfolding with_event
  started_obeys g n small dead t = record {
    same = t.same;
    next = small;
    held = t.held;
    tail = λ u e. absurd (true≢false (sym (ap is_some e)));
    runs = law.begins g.id g.events (start_at g n) t.same (idle_runs g dead t);
  }

  looks_obey : (F : Reader) → LookingKeeps F law.Holds (Obeys law)
  looks_obey F = record {
    delivers = λ g p t live due part. delivered_obeys F g p t live due part;
    starts = λ g n small dead t. started_obeys g n small
        (and_left (is_some g.live) (not g.waits) dead) t;
    passes = λ g u xs tail t. told_obeys (record g { tail = u }) (Passes xs)
        (record { same = t.same; next = t.next; held = t.held; tail = tail; runs = t.runs });
    tail = λ g u t e. t.tail u e;
    skips = law.skips;
    small = law.small;
  }

  resumed_obeys : (g : Flow) → Obeys law g → Obeys law (begun_if_awaited g)
  resumed_obeys g t =
      by_case (Obeys law) g.waits (started g g.next) g
      (λ e. started_obeys g g.next t.next
      (and_right (is_some g.live) (not g.waits) (not_from_true g.waits e)) t) (λ e. t)

  left_holds : (next : ℕ) (live : Bool) (p : Payload) → law.Holds p.number p.octets →
      law.Holds (without_old_octets next live p).number (without_old_octets next live p).octets
  unfolding without_old_octets
  left_holds next live p h =
      either (λ (q : Payload). law.Holds q.number q.octets)
      (nat_lt window (age next p.number) && not live) p (without_first (age next p.number) p) h
      (law.skips p.number (age next p.number) p.octets h)

  taken_obeys : (F : Reader) (f : Flow) (p : Payload) → Obeys law f →
      law.Holds p.number p.octets →
      (is_some f.live ≡ true → is_to_come f.next p.number ≡ false) → Obeys law (taken F f p)
  unfolding taken with_arrival_told with_event
  taken_obeys F f p t part reach =
      let q : Payload = without_old_octets f.next (is_some f.live) p in
      let has : law.Holds q.number q.octets = left_holds f.next (is_some f.live) p part in
      let g : Flow = with_arrival_told f p in
      let u : Obeys law g = told_obeys f (ComesFrom p.arrival) t in
      let r : Flow = begun_if_awaited g in
      let d : Flow = delivered F r q in
      let b : Flow = looked_through F g q (tail_continued_by f.tail q.number q.octets) in
      either (Obeys law) (nat_eq (length q.octets) 0) f (cond (is_some f.live) d b) t
      (by_case (Obeys law) (is_some f.live) d b
      (λ e. delivered_obeys F r q (resumed_obeys g u) (resumed_lives g e)
      (left_due f.next (is_some f.live) p t.next e (reach e) ∙ sym (resumed_next g)) has)
      (λ e. looked_keeps F law.Holds (Obeys law) (looks_obey F) g q e has u))

  obeys_keep : (F : Reader) → StepsKeep F (Obeys law)
  unfolding oldest_held is_due at
  obeys_keep F =
      record {
        takes =
            λ f i e d t.
            let within : i < length f.held = rw e at (first_within f.id f.next f.held) in
            let own : (get_or f.held i no_payload).flow ≡ f.id =
            rw e at (first_own f.id f.next no_payload f.held) in
            let p : Payload = get_or f.held i no_payload in
            taken_obeys F (record f { held = remove f.held i }) p (record {
              same = t.same;
              next = t.next;
              held = all_remove law.Waits f.held i t.held;
              tail = t.tail;
              runs = t.runs;
            }) (law.shows p (own ∙ t.same) (all_at law.Waits f.held i no_payload t.held within))
            (λ l.
            elim (and_cases (is_some f.live) (is_to_come f.next p.number)
            (not-true (is_some f.live && is_to_come f.next p.number) d)) [
              | inl x ↦ absurd (both_ways (is_some f.live) x l)
              | inr x ↦ x
            ]);
        closes = λ f cause t. closed_obeys f cause t;
        waits = λ f count live t. awaiting_obeys f count t;
        fins = λ f n t. record {
          same = t.same;
          next = t.next;
          held = t.held;
          tail = t.tail;
          runs = t.runs;
        };
      }

  pub came_obeys : (F : Reader) (f : Flow) (p : Payload) → p.flow ≡ law.id →
      law.Holds p.number p.octets → Obeys law f → Obeys law (payload_came F f p)
  unfolding with_held
  came_obeys F f p own part t =
      let q : Payload = without_old_octets f.next (is_some f.live) p in
      let waits : law.Waits q =
      law.waits q (left_flow f.next (is_some f.live) p ∙ own)
      (left_holds f.next (is_some f.live) p part) in
      came_keeps F (Obeys law) (obeys_keep F) f p t (record {
        same = t.same;
        next = t.next;
        held = all_insert law.Waits f.held (place_of (key_of q) f.held) q t.held waits;
        tail = t.tail;
        runs = t.runs;
      })

  pub fin_obeys : (F : Reader) (f : Flow) (n : ℕ) → Obeys law f → Obeys law (fin_came F f n)
  fin_obeys F f n t = fin_keeps F (Obeys law) (obeys_keep F) f n t

  pub heard_obeys : (F : Reader) (count : ℕ) (h : Heard) (f : Flow) → Obeys law f →
      Obeys law (heard F count h f)
  heard_obeys F count h f t = heard_keeps F (Obeys law) (obeys_keep F) count h f t

  -- if what comes is octets, the law holds of them
  pub step_obeys : (F : Reader) (f : Flow) (a : Arrival) →
      ((n : ℕ) (octets : List ℕ) (arrival : origin.Arrival) → a ≡ Octets n octets arrival →
      law.Holds n octets) → Obeys law f → Obeys law (step F f a)
  unfolding step
  step_obeys F f (Octets n octets arrival) part t =
      came_obeys F f (payload f.id n octets arrival) t.same (part n octets arrival refl) t
  step_obeys F f (End n) part t = fin_obeys F f n t
  step_obeys F f (Hears h) part t = heard_obeys F (length f.held) h f t

  pub gap_obeys : (F : Reader) (f : Flow) → Obeys law f → Obeys law (with_gap F f)
  gap_obeys F f t = gap_keeps F (Obeys law) (obeys_keep F) f t
