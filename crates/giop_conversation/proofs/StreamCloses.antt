-- If each stream that lives closes in the end, each stream that has a slot has closed.
use Rattle.std.proofs.Common.{arith, ◌≡◌, ℕ, ◌==◌, ◌⊎◌, inl, inr, Bool, true, false, List, [], ◌∷◌, Option, Some, None, is_some, refl, sym, ap, ◌∙◌, if◌then◌else◌}
use Rattle.std.proofs.lemmas.Bool.{eqb-true, eq-eqb, cases_eq, false≢true}
use Rattle.giop_message.specs.Signatures.{Answers}
use Rattle.tcp_flow.specs.declared.flow.Start.{Start}
use Rattle.tcp_flow.specs.Flow.{Event, Opens, Begins, Delivers, Closes, OfCapture, flow_of}
use Rattle.tcp_flow.specs.Laws.{OwnEventMayFollow, EventMayFollow, EventsMayFollow}
use Rattle.tcp_flow.specs.declared.flow.CloseCause.{CloseCause}
use Rattle.tcp_segment.specs.declared.endpoint.Flow.{Flow}
use Rattle.giop_conversation.specs.Captured.{Setup, Dump, Leads, start, next_stream_number}
use Rattle.giop_conversation.specs.StreamTexts.{StreamHistory, with_octets, with_close, History, no_history, with_begun, with_stream, history_after_event, history, AreWhole}

-- ---- one event of a flow that lives

opens_dead : (payloads : _) (f g : ℕ) (e : Flow) (before behind : Option ℕ) →
    OwnEventMayFollow payloads f before (Opens g e) behind → is_some before ≡ true → ⊥
unfolding OwnEventMayFollow
opens_dead payloads f g e None behind own lives = cc
opens_dead payloads f g e (Some m) None own lives = own
opens_dead payloads f g e (Some m) (Some n) own lives = own

begins_dead : (payloads : _) (f g : ℕ) (n : Start) (before behind : Option ℕ) →
    OwnEventMayFollow payloads f before (Begins g n) behind → is_some before ≡ true → ⊥
unfolding OwnEventMayFollow
begins_dead payloads f g n None behind own lives = cc
begins_dead payloads f g n (Some m) None own lives = own
begins_dead payloads f g n (Some m) (Some k) own lives = own

begins_lives : (payloads : _) (f g : ℕ) (n : Start) (before behind : Option ℕ) →
    OwnEventMayFollow payloads f before (Begins g n) behind → is_some behind ≡ true
unfolding OwnEventMayFollow
begins_lives payloads f g n None None own = absurd own
begins_lives payloads f g n None (Some k) own = refl
begins_lives payloads f g n (Some m) None own = absurd own
begins_lives payloads f g n (Some m) (Some k) own = refl

delivers_lives : (payloads : _) (f g : ℕ) (octets : List ℕ) (before behind : Option ℕ) →
    OwnEventMayFollow payloads f before (Delivers g octets) behind → is_some behind ≡ true
unfolding OwnEventMayFollow
delivers_lives payloads f g octets None None own = absurd own
delivers_lives payloads f g octets None (Some n) own = absurd own
delivers_lives payloads f g octets (Some m) None own = absurd own
delivers_lives payloads f g octets (Some m) (Some n) own = refl

own_event : (payloads : _) (f : ℕ) (e : Event) (before behind : Option ℕ) → flow_of e ≡ Some f →
    EventMayFollow payloads f before e behind →
    OwnEventMayFollow payloads f before e behind
own_event payloads f e before behind is (inl own) = own.1
own_event payloads f e before behind is (inr past) = absurd (past.0 is)

lives_on : (payloads : _) (f : ℕ) (e : Event) (before behind : Option ℕ) →
    (flow_of e ≡ Some f → ⊥) →
    EventMayFollow payloads f before e behind → is_some before ≡ true → is_some behind ≡ true
lives_on payloads f e before behind past (inl own) lives = absurd (past own.0)
lives_on payloads f e before behind past (inr same) lives = search (arith, is_some)

other_flow : (f id : ℕ) → (f ≡ id → ⊥) → Some id ≡ Some f → ⊥
other_flow f id apart is = search (arith)

-- ---- a stream with a slot that hasn't closed is the last one of a flow that lives

record IsLastStream (h : History) (due : ℕ → Option ℕ) (m : ℕ) : Type 0 where
  flow : ℕ
  is : h.stream_of flow ≡ m
  lives : is_some (due flow) ≡ true

abbrev OpenStreamsAreLast : (h : History) (due : ℕ → Option ℕ) → Type 0
OpenStreamsAreLast h due =
    (m : ℕ) → h.has_slot m ≡ true → (h.stream m).is_closed ≡ false → IsLastStream h due m

module _ (S : Setup) (h : History) (due behind : ℕ → Option ℕ) (t : OpenStreamsAreLast h due) where
  abbrev FollowsBy : Event → Type 0
  FollowsBy e = (f : ℕ) → (payloads : _) × EventMayFollow payloads f (due f) e (behind f)

  -- a flow that lived isn't the one in which no stream lived
  still : (e : Event) (id : ℕ) → flow_of e ≡ Some id → FollowsBy e →
      ((payloads : _) (f : ℕ) → OwnEventMayFollow payloads f (due f) e (behind f) →
      is_some (due f) ≡ true → is_some (behind f) ≡ true) →
      (f : ℕ) → is_some (due f) ≡ true → is_some (behind f) ≡ true
  still e id of follows own f lives = by (cases_eq f id)
    where
      by : (f ≡ id) ⊎ (f ≡ id → ⊥) → is_some (behind f) ≡ true
      by (inl is) =
          let x = follows f in
          own x.0 f (own_event x.0 f e (due f) (behind f) (of ∙ ap Some (sym is)) x.1) lives
      by (inr apart) =
          let x = follows f in
          lives_on x.0 f e (due f) (behind f) (λ is. other_flow f id apart (sym of ∙ is)) x.1 lives

  opened_last : (id : ℕ) (flow : Flow) → FollowsBy (Opens id flow) → OpenStreamsAreLast h behind
  opened_last id flow follows m room closes =
      let l = t m room closes in
      record {
        flow = l.flow;
        is = l.is;
        lives = still (Opens id flow) id refl follows
            (λ p f own lives. absurd (opens_dead p f id flow (due f) (behind f) own lives)) l.flow
            l.lives;
      }

  begun_last : (id : ℕ) (n : Start) (b : Bool) → FollowsBy (Begins id n) →
      OpenStreamsAreLast (with_begun h id (next_stream_number S h.begun) b) behind
  begun_last id n false follows m room closes =
      let l = t m room closes in
      record {
        flow = l.flow;
        is = l.is;
        lives = still (Begins id n) id refl follows
            (λ p f own lives. absurd (begins_dead p f id n (due f) (behind f) own lives)) l.flow
            l.lives;
      }
  begun_last id n true follows m room closes = by (m == next_stream_number S h.begun) refl
    where
      own : (payloads : _) × OwnEventMayFollow payloads id (due id) (Begins id n) (behind id)
      own =
          let x = follows id in
          (x.0, own_event x.0 id (Begins id n) (due id) (behind id) refl x.1)

      by : (b : Bool) → (m == next_stream_number S h.begun) ≡ b →
          IsLastStream (with_begun h id (next_stream_number S h.begun) true) behind m
      by true is = record {
        flow = id;
        is = rw (eq-eqb id id refl) (sym (eqb-true _ _ is));
        lives = begins_lives own.0 id id n (due id) (behind id) own.1;
      }
      by false is =
          let l = t m (rw is at room) closes in
          record {
            flow = l.flow;
            is = else_is l (l.flow == id) refl;
            lives = still (Begins id n) id refl follows
                (λ p f own lives. absurd (begins_dead p f id n (due f) (behind f) own lives)) l.flow
                l.lives;
          }
        where
          else_is : (l : IsLastStream h due m) (b : Bool) → (l.flow == id) ≡ b →
              (if l.flow == id then next_stream_number S h.begun else h.stream_of l.flow) ≡ m
          else_is l true same =
              absurd (begins_dead own.0 id id n (due id) (behind id) own.1
              (ap (λ f. is_some (due f)) (sym (eqb-true _ _ same)) ∙ l.lives))
          else_is l false apart = rw apart l.is

  delivered_last : (a : Answers) (id : ℕ) (octets : List ℕ) → FollowsBy (Delivers id octets) →
      OpenStreamsAreLast (with_stream h (h.stream_of id) (with_octets a octets
      (h.stream (h.stream_of id))))
      behind
  delivered_last a id octets follows m room closes =
      let l = t m room (sym (stays (h.stream_of id == m) refl) ∙ closes) in
      record {
        flow = l.flow;
        is = l.is;
        lives = still (Delivers id octets) id refl follows
            (λ p f own lives. delivers_lives p f id octets (due f) (behind f) own) l.flow l.lives;
      }
    where
      next : StreamHistory
      next = with_octets a octets (h.stream (h.stream_of id))

      stays : (b : Bool) → (h.stream_of id == m) ≡ b →
          ((with_stream h (h.stream_of id) next).stream m).is_closed ≡ (h.stream m).is_closed
      stays true same = search (arith, eqb-true)
      stays false apart = rw apart refl

  closed_last : (id : ℕ) (cause : CloseCause) → FollowsBy (Closes id cause) →
      OpenStreamsAreLast (with_stream h (h.stream_of id) (with_close (h.stream (h.stream_of id))))
      behind
  closed_last id cause follows m room closes = by (h.stream_of id == m) refl
    where
      next : StreamHistory
      next = with_close (h.stream (h.stream_of id))

      by : (b : Bool) → (h.stream_of id == m) ≡ b →
          IsLastStream (with_stream h (h.stream_of id) next) behind m
      by true same = search (arith, false≢true)
      by false apart =
          let l = t m room (rw apart at closes) in
          let x = follows l.flow in
          record {
            flow = l.flow;
            is = l.is;
            lives = lives_on x.0 l.flow (Closes id cause) (due l.flow) (behind l.flow)
                (other_flow l.flow id (λ is. differ (ap h.stream_of (sym is) ∙ l.is))) x.1 l.lives;
          }
        where
          differ : h.stream_of id ≡ m → ⊥
          differ is = false≢true (sym apart ∙ eq-eqb _ _ is)

  event_last : (a : Answers) (e : Event) → FollowsBy e → OpenStreamsAreLast (history_after_event S a
      h e)
      behind
  event_last a (Opens id flow) follows = opened_last id flow follows
  event_last a (Begins id n) follows = search (arith, begun_last)
  event_last a (Delivers id octets) follows = search (arith, delivered_last)
  event_last a (Closes id cause) follows = closed_last id cause follows
  event_last a (OfCapture event) follows = λ m room closes.
      let l = t m room closes in
      let x = follows l.flow in
      record {
        flow = l.flow;
        is = l.is;
        lives = lives_on x.0 l.flow (OfCapture event) (due l.flow) (behind l.flow) (λ is. cc) x.1
            l.lives;
      }

-- ---- all events

last_closed : (h : History) (due : ℕ → Option ℕ) → OpenStreamsAreLast h due →
    ((f : ℕ) → due f ≡ None) →
    (m : ℕ) → h.has_slot m ≡ true → (h.stream m).is_closed ≡ true
last_closed h due t none m room = search (arith, false≢true, is_some)

closes_on : (S : Setup) (events : List Event) (h : History) (due : ℕ → Option ℕ) (d behind : Dump)
    (leads : Leads S d events behind) → OpenStreamsAreLast h due →
    ((f : ℕ) → (payloads : _) × EventsMayFollow payloads f (due f) events None) →
    (m : ℕ) → (history S h d events behind leads).has_slot m ≡ true →
    ((history S h d events behind leads).stream m).is_closed ≡ true
unfolding EventsMayFollow
closes_on S [] h due d behind leads t whole m room =
    last_closed h due t (λ f. (whole f).1) m room
closes_on S (e ∷ es) h due d behind leads t whole m room =
    let a = leads.1.answers in
    let next : ℕ → Option ℕ = λ f. (whole f).1.0 in
    closes_on S es (history_after_event S a h e) next leads.0 behind leads.2
    (event_last S h due next t a e (λ f. ((whole f).0, (whole f).1.1.0)))
    (λ f. ((whole f).0, (whole f).1.1.1)) m room

pub all_close : (S : Setup) (written : List ℕ) (events : List Event) (d : Dump)
    (leads : Leads S (start S written) events d) → AreWhole events →
    (m : ℕ) → (history S no_history (start S written) events d leads).has_slot m ≡ true →
    ((history S no_history (start S written) events d leads).stream m).is_closed ≡ true
all_close S written events d leads whole m room =
    closes_on S events no_history (λ f. None) (start S written) d leads
    (λ m room closes. absurd (false≢true room)) whole m room
