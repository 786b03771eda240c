-- If octets come and streams close only while streams live, no stream goes on after its close.
use Rattle.std.proofs.Common.{◌≡◌, ℕ, ◌/◌, ◌<◌, ◌==◌, ◌⊎◌, inl, inr, Bool, true, false, ◌||◌, List, [], ◌∷◌, Option, Some, None, is_some, refl, sym, ap, subst, ◌∙◌, arith, ◌≤◌, nat_lt, if◌then◌else◌}
use Rattle.std.proofs.lemmas.Bool.{eqb-true, eqb-false, cases_eq, cases_lt, lt-ltb, false≢true}
use Rattle.giop_message.specs.Signatures.{Answers}
use Rattle.giop_stream.specs.Stream.{text}
use Rattle.giop_stream.specs.AnswersAgree.{AnswersAgree}
use Rattle.tcp_flow.specs.declared.flow.Start.{Start}
use Rattle.tcp_flow.specs.Flow.{Event, Opens, Begins, Delivers, Closes, OfCapture, flow_of}
use Rattle.tcp_flow.specs.Laws.{OwnEventMayFollow, EventMayFollow, EventsMayFollow}
use Rattle.tcp_flow.specs.declared.flow.CloseCause.{CloseCause}
use Rattle.tcp_segment.specs.declared.endpoint.Flow.{Flow}
use Rattle.giop_conversation.specs.Captured.{Setup, Dump, Leads, start, rules_in, next_stream_number}
use Rattle.giop_conversation.specs.StreamTexts.{StreamHistory, with_octets, with_close, History, no_history, with_begun, with_stream, history_after_event, history, AreGapless, IsUnique}
use Rattle.giop_conversation.proofs.StreamNumbers.{AreNumbered, stream_else, unequal}
use Rattle.giop_conversation.proofs.StreamTextLemmas.{AreShown, on_event, at_start}

-- ---- one event of a flow, by the number that is due before and after the event

opens_none : (payloads : _) (f g : ℕ) (e : Flow) (before behind : Option ℕ) →
    OwnEventMayFollow payloads f before (Opens g e) behind →
    is_some behind ≡ true → ⊥
unfolding OwnEventMayFollow
opens_none payloads f g e None None own lives = cc
opens_none payloads f g e None (Some n) own lives = own
opens_none payloads f g e (Some m) None own lives = own
opens_none payloads f g e (Some m) (Some n) own lives = own

delivers_live : (payloads : _) (f g : ℕ) (octets : List ℕ) (before behind : Option ℕ) →
    OwnEventMayFollow payloads f before (Delivers g octets) behind → is_some before ≡ true
unfolding OwnEventMayFollow
delivers_live payloads f g octets None None own = absurd own
delivers_live payloads f g octets None (Some n) own = absurd own
delivers_live payloads f g octets (Some m) None own = absurd own
delivers_live payloads f g octets (Some m) (Some n) own = refl

closes_live : (payloads : _) (f g : ℕ) (cause : CloseCause) (before behind : Option ℕ) →
    OwnEventMayFollow payloads f before (Closes g cause) behind → (is_some before ≡ true)
    × (is_some behind ≡ true → ⊥)
unfolding OwnEventMayFollow
closes_live payloads f g cause None None own = absurd own
closes_live payloads f g cause None (Some n) own = absurd own
closes_live payloads f g cause (Some m) None own = (refl, λ lives. cc)
closes_live payloads f g cause (Some m) (Some n) own = absurd own

own_event : (payloads : _) (f : ℕ) (e : Event) (before behind : Option ℕ) → flow_of e ≡ Some f →
    EventMayFollow payloads f before e behind →
    OwnEventMayFollow payloads f before e behind
own_event payloads f e before behind is (inl own) = own.1
own_event payloads f e before behind is (inr past) = absurd (past.0 is)

-- another flow lives after the event only if it lived before
lives_still : (payloads : _) (f : ℕ) (e : Event) (before behind : Option ℕ) →
    (flow_of e ≡ Some f → ⊥) →
    EventMayFollow payloads f before e behind → is_some behind ≡ true → is_some before ≡ true
lives_still payloads f e before behind past (inl own) lives = absurd (past own.0)
lives_still payloads f e before behind past (inr same) lives = ap is_some same.1 ∙ lives

other_flow : (f id : ℕ) → (f ≡ id → ⊥) → Some id ≡ Some f → ⊥
other_flow f id apart is = search (arith)

-- ---- streams that live haven't closed, and no stream goes on after its close

record EndOnce (h : History) (due : ℕ → Option ℕ) : Type 0 where
  ends : (m : ℕ) → IsUnique m → (h.stream m).goes_on ≡ false
  live : (f : ℕ) → is_some (due f) ≡ true → IsUnique (h.stream_of f) →
      (h.stream (h.stream_of f)).is_closed ≡ false

module _ (S : Setup) (h : History) (due behind : ℕ → Option ℕ) (k : AreNumbered S h)
    (t : EndOnce h due) where
  abbrev FollowsBy : Event → Type 0
  FollowsBy e = (f : ℕ) → (payloads : _) × EventMayFollow payloads f (due f) e (behind f)

  opened_ends : (id : ℕ) (flow : Flow) → FollowsBy (Opens id flow) → EndOnce h behind
  opened_ends id flow follows = record {
    ends = t.ends;
    live =
        λ f lives number. by f lives number (cases_eq f id);
  }
    where
      by : (f : ℕ) → is_some (behind f) ≡ true → IsUnique (h.stream_of f) → (f ≡ id)
          ⊎ (f ≡ id → ⊥) →
          (h.stream (h.stream_of f)).is_closed ≡ false
      by f lives number (inl is) =
          let x = follows f in
          absurd (opens_none x.0 f id flow (due f) (behind f)
          (own_event x.0 f (Opens id flow) (due f) (behind f) (ap Some (sym is)) x.1) lives)
      by f lives number (inr apart) =
          let x = follows f in
          t.live f (lives_still x.0 f (Opens id flow) (due f) (behind f) (other_flow f id apart) x.1
          lives) number

  begun_ends : (id : ℕ) (n : Start) (b : Bool) →
      (b ≡ false → h.stream_of id ≡ 0) → FollowsBy (Begins id n) →
      EndOnce (with_begun h id (next_stream_number S h.begun) b) behind
  begun_ends id n true room follows = record {
    ends = t.ends;
    live =
        λ f lives number. by f lives (f == id) refl number;
  }
    where
      by : (f : ℕ) → is_some (behind f) ≡ true → (b : Bool) → (f == id) ≡ b →
          IsUnique (if f == id then next_stream_number S h.begun else h.stream_of f) →
          (h.stream (if f == id then next_stream_number S h.begun else h.stream_of f)).is_closed
          ≡ false
      by f lives true is number =
          let one : IsUnique (next_stream_number S h.begun) = rw is at number in
          rw is (ap (λ (s : StreamHistory). s.is_closed)
          (k.fresh (next_stream_number S h.begun) one (omega arith)))
      by f lives false is number =
          let x = follows f in
          rw is (t.live f (lives_still x.0 f (Begins id n) (due f) (behind f)
          (other_flow f id (eqb-false f id is)) x.1 lives) (rw is at number))
  begun_ends id n false room follows = record {
    ends = t.ends;
    live =
        λ f lives number. by f lives number (cases_eq f id);
  }
    where
      by : (f : ℕ) → is_some (behind f) ≡ true → IsUnique (h.stream_of f) → (f ≡ id)
          ⊎ (f ≡ id → ⊥) →
          (h.stream (h.stream_of f)).is_closed ≡ false
      by f lives number (inl is) = search (arith)
      by f lives number (inr apart) =
          let x = follows f in
          t.live f (lives_still x.0 f (Begins id n) (due f) (behind f) (other_flow f id apart) x.1
          lives) number

  -- the stream of a flow that lived changes
  changed_ends : (id : ℕ) (s : StreamHistory) → (IsUnique (h.stream_of id) → s.goes_on ≡ false) →
      (m : ℕ) → IsUnique m →
      ((with_stream h (h.stream_of id) s).stream m).goes_on ≡ false
  changed_ends id s here m number = search (arith, eqb-true)

  goes_not : (id : ℕ) → is_some (due id) ≡ true → IsUnique (h.stream_of id) →
      ((h.stream (h.stream_of id)).goes_on || (h.stream (h.stream_of id)).is_closed) ≡ false
  goes_not id lives number = search (arith)

  delivered_ends : (a : Answers) (id : ℕ) (octets : List ℕ) → FollowsBy (Delivers id octets) →
      EndOnce (with_stream h (h.stream_of id) (with_octets a octets (h.stream (h.stream_of id))))
      behind
  delivered_ends a id octets follows = record {
    ends = changed_ends id next (goes_not id lived);
    live = λ f lives number. stays (h.stream_of f) ∙ by f lives number (cases_eq f id);
  }
    where
      next : StreamHistory
      next = with_octets a octets (h.stream (h.stream_of id))

      lived : is_some (due id) ≡ true
      lived =
          let x = follows id in
          delivers_live x.0 id id octets (due id) (behind id)
          (own_event x.0 id (Delivers id octets) (due id) (behind id) refl x.1)

      stays : (m : ℕ) → ((with_stream h (h.stream_of id) next).stream m).is_closed
          ≡ (h.stream m).is_closed
      stays m = search (arith, next, eqb-true)

      by : (f : ℕ) → is_some (behind f) ≡ true → IsUnique (h.stream_of f) → (f ≡ id)
          ⊎ (f ≡ id → ⊥) →
          (h.stream (h.stream_of f)).is_closed ≡ false
      by f lives number (inl is) = search (arith, is_some, lived)
      by f lives number (inr apart) =
          let x = follows f in
          t.live f (lives_still x.0 f (Delivers id octets) (due f) (behind f)
          (other_flow f id apart) x.1 lives) number

  closed_ends : (id : ℕ) (cause : CloseCause) → FollowsBy (Closes id cause) →
      EndOnce (with_stream h (h.stream_of id) (with_close (h.stream (h.stream_of id)))) behind
  closed_ends id cause follows = record {
    ends = changed_ends id next (goes_not id did.0);
    live = λ f lives number. by f lives number (cases_eq f id);
  }
    where
      next : StreamHistory
      next = with_close (h.stream (h.stream_of id))

      did : (is_some (due id) ≡ true) × (is_some (behind id) ≡ true → ⊥)
      did =
          let x = follows id in
          closes_live x.0 id id cause (due id) (behind id)
          (own_event x.0 id (Closes id cause) (due id) (behind id) refl x.1)

      by : (f : ℕ) → is_some (behind f) ≡ true → IsUnique (h.stream_of f) → (f ≡ id)
          ⊎ (f ≡ id → ⊥) →
          ((with_stream h (h.stream_of id) next).stream (h.stream_of f)).is_closed ≡ false
      by f lives number (inl is) = search (arith, did, is_some)
      by f lives number (inr apart) =
          let x = follows f in
          ap (λ (s : StreamHistory). s.is_closed)
          (stream_else h (h.stream_of id) next (h.stream_of f)
          (unequal (h.stream_of id) (h.stream_of f)
          (λ same. apart (k.apart f id number (sym same)))))
          ∙ t.live f (lives_still x.0 f (Closes id cause) (due f) (behind f) (other_flow f id apart)
          x.1 lives) number

  event_ends : (a : Answers) (e : Event) → FollowsBy e → EndOnce (history_after_event S a h e)
      behind
  event_ends a (Opens id flow) follows = opened_ends id flow follows
  event_ends a (Begins id n) follows = begun_ends id n (nat_lt (id / 2) S.connections)
      (λ none. k.beyond id (by none (cases_lt (id / 2) S.connections))) follows
    where
      by : nat_lt (id / 2) S.connections ≡ false → (id / 2 < S.connections)
          ⊎ (S.connections ≤ id / 2) → S.connections ≤ id / 2
      by none (inl low) = search (arith, false≢true, lt-ltb)
      by none (inr past) = past
  event_ends a (Delivers id octets) follows = delivered_ends a id octets follows
  event_ends a (Closes id cause) follows = closed_ends id cause follows
  event_ends a (OfCapture event) follows = record {
    ends = t.ends;
    live = λ f lives number.
        let x = follows f in
        t.live f (lives_still x.0 f (OfCapture event) (due f) (behind f) (λ is. cc) x.1 lives)
        number;
  }

-- ---- all events

module _ (S : Setup) (written : List ℕ)
    (agree : (a b : Answers) (p : List ℕ) → AnswersAgree S.table S.messages p a b →
    text (rules_in S a) p ≡ text (rules_in S b) p) where
  ends_on : (events : List Event) (h : History) (due : ℕ → Option ℕ) (d behind : Dump)
      (leads : Leads S d events behind) →
      AreShown S written h d → EndOnce h due →
      ((f : ℕ) → (payloads : _) × (last : Option ℕ)
      × EventsMayFollow payloads f (due f) events last) →
      (m : ℕ) → IsUnique m → ((history S h d events behind leads).stream m).goes_on ≡ false
  unfolding EventsMayFollow
  ends_on [] h due d behind leads b t turn m number = t.ends m number
  ends_on (e ∷ es) h due d behind leads b t turn m number =
      let a = leads.1.answers in
      let next : ℕ → Option ℕ = λ f. (turn f).2.0 in
      ends_on es (history_after_event S a h e) next leads.0 behind leads.2
      (subst (AreShown S written (history_after_event S a h e)) (sym leads.1.is)
      (on_event S written agree a h d e leads.1.answered b))
      (event_ends S h due next b.numbers t a e (λ f. ((turn f).0, (turn f).2.1.0)))
      (λ f. ((turn f).0, (turn f).1, (turn f).2.1.1)) m number

  pub all_end : (events : List Event) (d : Dump) (leads : Leads S (start S written) events d) →
      AreGapless events →
      (m : ℕ) → IsUnique m → ((history S no_history (start S written) events d leads).stream
      m).goes_on ≡ false
  all_end events d leads turn m number =
      ends_on events no_history (λ f. None) (start S written) d leads (at_start S written agree)
      (record { ends = λ m number. refl; live = λ f lives number. refl }) turn m number
