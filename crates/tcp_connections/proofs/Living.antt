-- A flow with a live stream is one of those that the listener was told to have live streams.
use Rattle.std.proofs.Common.{◌≡◌, ℕ, ◌+◌, ◌<◌, Bool, true, false, cond, nat_eq, nat_lt, not, List, [], ◌∷◌, ◌++◌, length, Some, is_some, refl, sym, ◌∙◌, ap, subst, arith, inl, inr, true≢false}
use Rattle.std.proofs.lemmas.Bool.{and_parts, cases_Bool, cond-true, cond-false, eqb-true, ne_eqb, lt-ltb}
use Rattle.tcp_flow.specs.declared.flow.CloseCause.{CloseCause}
use Rattle.tcp_flow.specs.declared.flow.CloseCause.TheVariants.{Fin, Reset, Syn, Fault, Gap, Room}
use Rattle.tcp_flow.specs.declared.flow.CloseCause.TheVariants as causes
use Rattle.tcp_waiting.specs.Numbers.{onward}
use Rattle.tcp_waiting.specs.declared.arrival.Arrival as origin
use Rattle.tcp_waiting.specs.Payload.{Payload, payload}
use Rattle.tcp_flow.specs.Flow.{Flow, Event, Opens, Begins, Delivers, Closes, OfCapture, Reader, Arrival, Octets, End, Hears, without_old_octets, with_event, closed, with_held, payload_came, with_gap, fresh, first_payload, step, stream_closed, delivered_unchecked, start_at, started, awaiting_stream, out_of_step, lives as has_stream}
use Rattle.tcp_flow.proofs.Events.{EventsKeep, events_keep}
use Rattle.tcp_flow.proofs.Preserving.{either, StepsKeep, came_keeps, fin_keeps, heard_keeps, gap_keeps}
use Rattle.tcp_streams.specs.Lives.{lives, lives_from, lives_behind, with_begun, with_closed, without, most_ids, AreIds}
use Rattle.tcp_streams.proofs.Ids.{none_ids, begun_ids, ended_ids}
use Rattle.tcp_streams.proofs.Order.{lives_more}
use Rattle.tcp_connections.specs.State.{times}
use Rattle.tcp_connections.proofs.Before.{KeepsOrderBut, order_begun, order_ended}
use Rattle.tcp_connections.proofs.Times.{times_last, times_own}

-- ---- Each live stream is told once.

pub behind_ids : (live : List ℕ) (e : Event) → AreIds live → AreIds (lives_behind live e)
unfolding lives_behind
behind_ids live (Opens id endpoints) h = h
behind_ids live (Begins id number) h = begun_ids id live h
behind_ids live (Delivers id octets) h = h
behind_ids live (Closes id cause) h = ended_ids id cause live h
behind_ids live (OfCapture event) h = h

from_ids : (live : List ℕ) (es : List Event) → AreIds live → AreIds (lives_from live es)
unfolding lives_from
from_ids live [] h = h
from_ids live (e ∷ es) h = from_ids (lives_behind live e) es (behind_ids live e h)

pub lives_ids : (es : List Event) → AreIds (lives es)
lives_ids es = from_ids [] es none_ids

-- ---- How often a flow is among those with streams, after an event.

without_by : (n j x : ℕ) (xs : List ℕ) (b : Bool) → nat_eq x n ≡ b → (j ≡ n → ⊥) →
    times j (without n xs) ≡ times j xs → times j (cond b xs (x ∷ without n xs))
    ≡ cond (nat_eq x j) 1 0 + times j xs
unfolding times
without_by n j x xs true e apart h = let other : nat_eq x j ≡ false =
    ne_eqb x j (λ o. apart (sym o ∙ eqb-true x n e)) in rw other (omega arith)
without_by n j x xs false e apart h = ap (λ (k : ℕ). cond (nat_eq x j) 1 0 + k) h

pub times_without : (n j : ℕ) (xs : List ℕ) → (j ≡ n → ⊥) → times j (without n xs) ≡ times j xs
unfolding times without
times_without n j [] apart = refl
times_without n j (x ∷ xs) apart = without_by n j x xs (nat_eq x n) refl apart
    (times_without n j xs apart)

pub begun_own : (id : ℕ) (xs : List ℕ) → id < most_ids → 0 < times id (with_begun id xs)
unfolding with_begun
begun_own id xs l =
    subst (λ (ys : List ℕ). 0 < times id ys)
    (sym (cond-true (nat_lt id most_ids) (without id xs ++ id ∷ []) xs (lt-ltb id most_ids l)))
    (omega (arith, times_last id (without id xs) id, times_own id))

pub begun_beside : (id j : ℕ) (xs : List ℕ) → (j ≡ id → ⊥) → times j (with_begun id xs) ≡ times j xs
unfolding with_begun
begun_beside id j xs apart =
    elim (cases_Bool (nat_lt id most_ids)) [
      | inl e ↦
          (let other : ◌≡◌ {A = ℕ} (cond (nat_eq id j) 1 0) 0 =
          rw (ne_eqb id j (λ o. apart (sym o))) refl in
          ap (times j) (cond-true (nat_lt id most_ids) (without id xs ++ id ∷ []) xs e)
          ∙ omega (arith, times_last j (without id xs) id, other, times_without id j xs apart))
      | inr e ↦ ap (times j) (cond-false (nat_lt id most_ids) (without id xs ++ id ∷ []) xs e)
    ]

-- a flow in step is among those that were told to have streams, if it is there n times
abbrev pub IsToldIfLive : (live : Bool) (count : ℕ) → Type 0
IsToldIfLive live n = live ≡ true → 0 < n

-- what a flow of this id has done since: its stream is told if it lives, and the streams of others
-- stay, in their order
pub record MovesOnlyOwn (id : ℕ) (before : List Event) (flow : Flow) : Type 0 where
  pub same : flow.id ≡ id
  pub own : IsToldIfLive (is_some flow.live) (times id (lives flow.events))
  pub beside : (j : ℕ) → (j ≡ id → ⊥) → times j (lives flow.events) ≡ times j (lives before)
  pub order : KeepsOrderBut id (lives before) (lives flow.events)

-- after a close, other flows are there as often as before
pub times_ended : (n j : ℕ) (cause : CloseCause) (xs : List ℕ) → (j ≡ n → ⊥) →
    times j (with_closed n cause xs) ≡ times j xs
times_ended n j Gap xs apart = refl
times_ended n j causes.End xs apart = refl
times_ended n j Fin xs apart = times_without n j xs apart
times_ended n j Reset xs apart = times_without n j xs apart
times_ended n j Syn xs apart = times_without n j xs apart
times_ended n j Fault xs apart = times_without n j xs apart
times_ended n j Room xs apart = times_without n j xs apart

closing_turn : (id : ℕ) (es : List Event) (g : Flow) (n : ℕ) (cause : CloseCause) →
    MovesOnlyOwn id es g → MovesOnlyOwn id es (stream_closed g n cause)
unfolding with_event lives_behind
closing_turn id es g n cause t =
    record {
      same = t.same;
      own = λ e. absurd (true≢false (sym e));
      beside = λ j n. ap (times j) (lives_more [] g.events (Closes g.id cause))
          ∙ times_ended g.id j cause (lives g.events) (λ o. n (o ∙ t.same)) ∙ t.beside j n;
      order = subst (KeepsOrderBut id (lives es))
          (sym (lives_more [] g.events (Closes g.id cause)
          ∙ ap (λ (k : ℕ). with_closed k cause (lives g.events)) t.same))
          (order_ended id cause (lives es) (lives g.events) (lives_ids g.events) t.order);
    }

pub closed_turn : (id : ℕ) (es : List Event) (g : Flow) (cause : CloseCause) →
    MovesOnlyOwn id es g → MovesOnlyOwn id es (closed g cause)
unfolding closed
closed_turn id es g cause t =
    either (MovesOnlyOwn id es) (has_stream g.live g.waits) (stream_closed g g.next cause)
    (out_of_step g)
    (closing_turn id es g g.next cause t)
    (record {
      same = t.same;
      own = λ e. absurd (true≢false (sym e));
      beside = t.beside;
      order = t.order;
    })

-- a flow may wait after a gap closed its stream, since it keeps its place
awaiting_turn : (id : ℕ) (es : List Event) (g : Flow) (count : ℕ) →
    has_stream g.live g.waits ≡ true → MovesOnlyOwn id es g →
    MovesOnlyOwn id es (awaiting_stream g count)
unfolding closed with_event lives_behind
awaiting_turn id es g count live t =
    let more = lives_more [] g.events (Closes g.id Gap) in
    let next : ℕ = onward g.next count in
    subst (λ (c : Flow). MovesOnlyOwn id es (record c
    { next = next; live = Some next; waits = true }))
    (sym (cond-true (has_stream g.live g.waits) (stream_closed g g.next Gap) (out_of_step g) live))
    (record {
      same = t.same;
      own = λ e. subst (λ (xs : List ℕ). 0 < times id xs) (sym more)
          (t.own (and_parts (is_some g.live) (not g.waits) live).0);
      beside = λ j n. ap (times j) more ∙ t.beside j n;
      order = subst (KeepsOrderBut id (lives es)) (sym more) t.order;
    })

-- after what tells of no beginning and no close
quiet_turn : (id : ℕ) (es : List Event) (g h : Flow) → h.id ≡ g.id → h.live ≡ g.live →
    lives h.events ≡ lives g.events → MovesOnlyOwn id es g → MovesOnlyOwn id es h
quiet_turn id es g h same live more t = record {
  same = same ∙ t.same;
  own = λ e. subst (λ (xs : List ℕ). 0 < times id xs) (sym more)
      (t.own (sym (ap is_some live) ∙ e));
  beside = λ j n. ap (times j) more ∙ t.beside j n;
  order = subst (KeepsOrderBut id (lives es)) (sym more) t.order;
}

started_turn : (id : ℕ) (es : List Event) (g : Flow) (n : ℕ) → id < most_ids →
    MovesOnlyOwn id es g → MovesOnlyOwn id es (started g n)
unfolding with_event lives_behind
started_turn id es g n l t =
    let more = lives_more [] g.events (Begins g.id (start_at g n)) in
    record {
      same = t.same;
      own = λ e. subst (λ (xs : List ℕ). 0 < times id xs)
          (sym (more ∙ ap (λ (k : ℕ). with_begun k (lives g.events)) t.same))
          (begun_own id (lives g.events) l);
      beside = λ j k. ap (times j) more ∙ begun_beside g.id j (lives g.events) (λ o. k (o ∙ t.same))
          ∙ t.beside j k;
      order = subst (KeepsOrderBut id (lives es))
          (sym (more ∙ ap (λ (k : ℕ). with_begun k (lives g.events)) t.same))
          (order_begun id (lives es) (lives g.events) l t.order);
    }

turn_kept : (id : ℕ) (es : List Event) → id < most_ids → EventsKeep (MovesOnlyOwn id es)
unfolding with_event lives_behind
turn_kept id es l = record {
  tells = λ g e t. quiet_turn id es g (with_event g (OfCapture e)) refl refl
      (lives_more [] g.events (OfCapture e)) t;
  begins = λ g n t. started_turn id es g n l t;
  delivers = λ g p t. quiet_turn id es g (delivered_unchecked g p) refl refl
      (lives_more [] g.events (Delivers g.id p.octets)) t;
  closes = λ g n cause t. closing_turn id es g n cause t;
  idles = λ g t. record {
    same = t.same;
    own = λ e. absurd (true≢false (sym e));
    beside = t.beside;
    order = t.order;
  };
  tails = λ g u t. quiet_turn id es g (record g { tail = u }) refl refl refl t;
}

turn_keeps : (F : Reader) (id : ℕ) (es : List Event) → id < most_ids →
    StepsKeep F (MovesOnlyOwn id es)
turn_keeps F id es l =
    events_keep (MovesOnlyOwn id es) (turn_kept id es l) F
    (λ g count live t. awaiting_turn id es g count live t)
    (λ g ps fin t. quiet_turn id es g (record g { held = ps; fin = fin }) refl refl refl t)

came_turn : (F : Reader) (id : ℕ) (es : List Event) (f : Flow) (p : Payload) →
    id < most_ids →
    MovesOnlyOwn id es f → MovesOnlyOwn id es (payload_came F f p)
unfolding with_held
came_turn F id es f p l t =
    let h : Flow = with_held f (without_old_octets f.next (is_some f.live) p) in
    came_keeps F (MovesOnlyOwn id es) (turn_keeps F id es l) f p t
    (quiet_turn id es f h refl refl refl t)

pub step_turn : (F : Reader) (id : ℕ) (es : List Event) (f : Flow) (a : Arrival) →
    id < most_ids →
    MovesOnlyOwn id es f → MovesOnlyOwn id es (step F f a)
unfolding step
step_turn F id es f (Octets n octets arrival) l t = came_turn F id es f
    (payload f.id n octets arrival) l t
step_turn F id es f (End n) l t =
    fin_keeps F (MovesOnlyOwn id es) (turn_keeps F id es l) f n t
step_turn F id es f (Hears h) l t =
    heard_keeps F (MovesOnlyOwn id es) (turn_keeps F id es l) (length f.held) h f t

pub gap_turn : (F : Reader) (id : ℕ) (es : List Event) (f : Flow) →
    id < most_ids → MovesOnlyOwn id es f →
    MovesOnlyOwn id es (with_gap F f)
gap_turn F id es f l t = gap_keeps F (MovesOnlyOwn id es) (turn_keeps F id es l) f t

pub first_turn : (F : Reader) (id n : ℕ) (octets : List ℕ) (arrival : origin.Arrival)
    (held : List Payload) (es : List Event) → id < most_ids →
    MovesOnlyOwn id es (first_payload F id n octets arrival held es)
unfolding first_payload
first_turn F id n octets arrival held es l =
    came_turn F id es (fresh id n held es) (payload id n octets arrival) l
    (record {
      same = refl;
      own = λ e. absurd (true≢false (sym e));
      beside = λ j k. refl;
      order = λ a b s. inl s;
    })

-- a flow has done nothing yet
pub no_turn : (id : ℕ) (f : Flow) → f.id ≡ id →
    IsToldIfLive (is_some f.live) (times id (lives f.events)) → MovesOnlyOwn id f.events f
no_turn id f same own =
    record { same = same; own = own; beside = λ j n. refl; order = λ a b s. inl s }
