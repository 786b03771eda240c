-- If nothing happens in a flow, what the conversations of a capture have followed and written
-- stays.
use Rattle.std.proofs.Common.{◌≡◌, ◌||◌, ℕ, Bool, true, false, List, [], ◌∷◌, ◌++◌, Option, Some, None, refl, ◌∙◌, ap, subst, sym}
use Rattle.std.proofs.lemmas.List.Folds.{list_any-append}
use Rattle.std.specs.Io.KnownBytes.{Keeps}
use Rattle.std.specs.List.{list_any}
use Rattle.tcp_flow.specs.declared.flow.CloseCause.{CloseCause}
use Rattle.tcp_flow.specs.Flow.{Event, CaptureEvent, Closes, OfCapture}
use Rattle.giop_conversation.specs.declared.conversation.Conversation.{Conversation}
use Rattle.giop_conversation.specs.declared.conversations.Conversations.{Conversations}
use Rattle.giop_conversation.specs.Captured.{Setup, finished_text}
use Rattle.giop_conversation.specs.DumpWritten.{IsWritten}
use Rattle.giop_conversation.specs.Follows.{Follows}
use Rattle.giop_conversation.specs.Followed.{octets_after_event, octets_after_events, HaveFollowed}
use Rattle.giop_capture.specs.declared.notices.Seen.{Seen}
use Rattle.giop_capture.specs.Notices.{is_for_room, begins_as_tls, begins_as_ziop, makes_room, passes_by, seen, seen_after}
use Rattle.giop_capture.specs.Text.{HasText}

or_false : (b : Bool) → (b || false) ≡ b
or_false true = refl
or_false false = refl

same_octets : (flow : ℕ) (p : List ℕ) (events : List Event) (event : CaptureEvent)
    → octets_after_events flow p (events ++ OfCapture event ∷ []) ≡ octets_after_events flow p
    events
unfolding octets_after_events octets_after_event
same_octets flow p [] event = refl
same_octets flow p (e ∷ es) event = same_octets flow (octets_after_event flow p e) es event

pub followed_on : (slots : List Conversation) (events : List Event) (event : CaptureEvent)
    → HaveFollowed slots events → HaveFollowed slots (events ++ OfCapture event ∷ [])
followed_on slots events event h = λ flow. rw (same_octets flow [] events event) (h flow)

-- ---- What was seen.

any_more : (f : Event → Bool) (events : List Event) (e : Event) →
    list_any f (events ++ e ∷ []) ≡ (list_any f events || f e)
any_more f events e =
    list_any-append f events (e ∷ []) ∙ ap (λ b. list_any f events || b) (or_false (f e))

-- what was seen, after one more event
seen_more : (events : List Event) (e : Event) → seen (events ++ e ∷ []) ≡ seen_after (seen events) e
seen_more events e =
    rw (
      any_more makes_room events e,
      any_more (passes_by begins_as_tls) events e,
      any_more (passes_by begins_as_ziop) events e,
    ) refl

-- what is known of all events is known after one more event
pub seen_on : (events : List Event) (e : Event) (before after : Seen) → before ≡ seen events →
    after ≡ seen_after before e → after ≡ seen (events ++ e ∷ [])
seen_on events e before after same now =
    now ∙ ap (λ (s : Seen). seen_after s e) same ∙ sym (seen_more events e)

-- an event that no notice is given of changes nothing
pub seen_stays : (events : List Event) (e : Event) (s : Seen) → makes_room e ≡ false →
    passes_by begins_as_tls e ≡ false → passes_by begins_as_ziop e ≡ false →
    s ≡ seen events → s ≡ seen (events ++ e ∷ [])
seen_stays events e s room tls ziop same =
    seen_on events e s s same
    (rw (room, tls, ziop, or_false s.room, or_false s.tls, or_false s.ziop) refl)

-- what was seen after a stream closes
pub seen_closed : (s : Seen) (flow : ℕ) (cause : CloseCause) (room : Bool) →
    room ≡ (s.room || is_for_room cause) →
    record s { room = room } ≡ seen_after s (Closes flow cause)
seen_closed s flow cause room is = rw (is, or_false s.tls, or_false s.ziop) refl

-- ---- What was put stays over a flush.

some_known : (after : Option (List ℕ)) (w : List ℕ) → Keeps (Some w) after → after ≡ Some w
some_known None w kept = absurd kept
some_known (Some xs) w kept = ap Some kept

pub still_known : (before after : Option (List ℕ)) (w : List ℕ) → Keeps before after →
    before ≡ Some w
    → after ≡ Some w
still_known before after w kept known = some_known after w (subst (λ x. Keeps x after) known kept)

told_on : {O : Type 0} (c : Conversations O) (put : Option (List ℕ)) (below failures : ℕ)
    (S : Setup)
    (written : List ℕ) (events : List Event) → failures ≡ c.out.failures → Keeps c.out.whole put →
    IsWritten S written events c → IsWritten S written events (record c {
      out = record c.out { whole = put; below = below; failures = failures };
    })
told_on c put below failures S written events none kept told =
    let h = told.holds in
    let r = h.ready in
    record {
      dump = told.dump;
      leads = told.leads;
      holds = record {
        connections = h.connections;
        ready = record {
          known = still_known c.out.whole put told.dump.text kept r.known;
          before = r.before;
          text = r.text;
          stands = r.stands;
          ended = r.ended;
          due = r.due;
          sound = none ∙ r.sound;
        };
        arrival_is = h.arrival_is;
        first_is = h.first_is;
        streams_are = h.streams_are;
        messages_are = h.messages_are;
        faults_are = h.faults_are;
        others_are = h.others_are;
        cut_is = h.cut_is;
      };
    }

pub kept_on : {O : Type 0} (begins : Setup → List ℕ → Type 0) (c d : Conversations O)
    (events : List Event) (made : Seen)
    → d ≡ record c {
      out = record c.out {
        whole = d.out.whole;
        below = d.out.below;
        failures = d.out.failures;
      };
    }
    → d.out.failures ≡ c.out.failures → Keeps c.out.whole d.out.whole
    → Follows c events × ((S : Setup) (written : List ℕ) → begins S written →
    IsWritten S written events c) × (made ≡ seen events)
    → Follows d events × ((S : Setup) (written : List ℕ) → begins S written →
    IsWritten S written events d) × (made ≡ seen events)
kept_on begins c d events made same none kept h = (
  subst (λ x. Follows x events) (sym same) h.0,
  λ S written b. subst (λ x. IsWritten S written events x) (sym same)
      (told_on c d.out.whole d.out.below d.out.failures S written events none kept
      (h.1 S written b)),
  h.2,
)

-- a text that was put stays
abbrev pub text_kept : (S : Setup) (written : List ℕ) (events : List Event) (packets octets : ℕ)
    (faulty : Bool) (before put after : Option (List ℕ)) → put ≡ before → Keeps put after
    → HasText S written events packets octets faulty before
    → HasText S written events packets octets faulty after
text_kept S written events packets octets faulty before put after same kept h = record {
  dump = h.dump;
  leads = h.leads;
  text = still_known put after (finished_text h.dump packets octets) kept (same ∙ h.text);
  is_faulty = h.is_faulty;
}
