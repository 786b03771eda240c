-- If each event is in a flow of a connection with a slot, each stream that began has a slot.
use Rattle.std.proofs.Common.{◌≡◌, ℕ, ◌/◌, ◌<◌, ◌==◌, Bool, true, false, List, [], ◌∷◌, Some, refl, sym, ◌∙◌, ap, subst, inl, inr, arith, if◌then◌else◌}
use Rattle.std.specs.List.{AllByRecursion as Each}
use Rattle.std.proofs.lemmas.Bool.{cases_lt, eq-eqb, lt-ltb, false≢true}
use Rattle.giop_print.specs.Output.{saturating_next}
use Rattle.giop_message.specs.Signatures.{Answers}
use Rattle.tcp_flow.specs.Flow.{Event, Opens, Begins, Delivers, Closes, OfCapture, flow_of}
use Rattle.giop_conversation.specs.Captured.{Setup, Dump, Leads, start, next_stream_number}
use Rattle.giop_conversation.specs.StreamTexts.{History, no_history, with_begun, history_after_event, history}

-- the streams that have begun have slots
abbrev HaveBegun : Setup → History → Type 0
HaveBegun S h = (k : ℕ) → k < h.begun → h.has_slot (next_stream_number S k) ≡ true

begun_last : (k n : ℕ) → k < saturating_next n → (k < n → ⊥) → k ≡ n
unfolding saturating_next
begun_last k n few past = omega (arith, few, past)

one_more : (S : Setup) (h : History) (id : ℕ) → HaveBegun S h →
    HaveBegun S (with_begun h id (next_stream_number S h.begun) true)
one_more S h id t k few = by (next_stream_number S k == next_stream_number S h.begun) refl
  where
    by : (b : Bool) → (next_stream_number S k == next_stream_number S h.begun) ≡ b →
        (if b then true else h.has_slot (next_stream_number S k)) ≡ true
    by true is = refl
    by false is =
        elim (cases_lt k h.begun) [
          | inl l ↦ t k l
          | inr g ↦ absurd (false≢true (sym is
              ∙ eq-eqb (next_stream_number S k) (next_stream_number S h.begun)
              (ap (next_stream_number S) (begun_last k h.begun few
              (λ l. absurd (omega (arith, l, g)))))))
        ]

event_slots : (S : Setup) (a : Answers) (h : History) (e : Event) →
    ((id : ℕ) → flow_of e ≡ Some id → id / 2 < S.connections) → HaveBegun S h →
    HaveBegun S (history_after_event S a h e)
event_slots S a h (Opens id flow) room t = t
event_slots S a h (Begins id start) room t =
    subst (λ (b : Bool). HaveBegun S (with_begun h id (next_stream_number S h.begun) b))
    (sym (lt-ltb (id / 2) S.connections (room id refl))) (one_more S h id t)
event_slots S a h (Delivers id octets) room t = t
event_slots S a h (Closes id cause) room t = t
event_slots S a h (OfCapture event) room t = t

slots_on : (S : Setup) (events : List Event) (h : History) (d behind : Dump)
    (leads : Leads S d events behind) →
    Each (λ e. (id : ℕ) → flow_of e ≡ Some id → id / 2 < S.connections) events → HaveBegun S h →
    HaveBegun S (history S h d events behind leads)
slots_on S [] h d behind leads slots t = t
slots_on S (e ∷ es) h d behind leads slots t =
    slots_on S es (history_after_event S leads.1.answers h e) leads.0 behind leads.2 slots.1
    (event_slots S leads.1.answers h e slots.0 t)

pub all_have_slots : (S : Setup) (written : List ℕ) (events : List Event) (d : Dump)
    (leads : Leads S (start S written) events d) →
    Each (λ e. (id : ℕ) → flow_of e ≡ Some id → id / 2 < S.connections) events →
    HaveBegun S (history S no_history (start S written) events d leads)
all_have_slots S written events d leads slots =
    slots_on S events no_history (start S written) d leads slots
    (λ k few. absurd (omega (arith, few)))
