-- What holds of a stream in each case of its next octet.
use Rattle.std.proofs.Common.{◌≡◌, ℕ, suc, ◌-◌, ◌<◌, ◌≤◌, false, List, [], ◌∷◌, ◌++◌, length, refl, sym, ap, ◌∙◌, Option, Some, None, arith}
use Rattle.std.specs.Prelude.{◌==◌, IfSome}
use Rattle.std.proofs.lemmas.Bool.{eq-eqb, cases_eq}
use Rattle.std.proofs.lemmas.List.{length_push}
use Rattle.giop_checkpoint.specs.declared.fault.StreamFault.{StreamFault}
use Rattle.giop_stream.specs.Kinds.{lookup_offset}
use Rattle.giop_stream.specs.Rules.{Rules}
use Rattle.giop_stream.specs.Framing.{CutMessage, with_payload, Cut, cut, messages}
use Rattle.giop_stream.specs.Events.{place, events_from, events, open_after, joined_octets}
use Rattle.giop_stream.specs.Lines.{Kept, nothing_kept, kept_of, lines_of_messages, stop_line, lines}
use Rattle.giop_stream.specs.Stream.{start_count, is_over}
use Rattle.giop_stream.specs.OpenSlots.{known_of}
use Rattle.giop_stream.proofs.Lists.{each_weaker}
use Rattle.giop_stream.proofs.Events.EventsKeep.{NumbersAreBelow}
use Rattle.giop_stream.proofs.Events.AfterMoreEvents.{known_idle, open_idle}
use Rattle.giop_stream.proofs.Events.Soundness.{CutFitsStream, IsSound}

pub quiet_sound : (R : Rules) → (p p' : List ℕ) → length p' ≡ suc (length p) →
    messages (cut p') ≡ messages (cut p)
    → events R p' ≡ events R p → lines_of_messages R p' ≡ lines_of_messages R p →
    start_count (lines R p') ≡ start_count (lines R p)
    → ((cut p').stop ≡ None → CutFitsStream (suc (length p)) (cut p'))
    → ((cut p').stop ≡ None → IfSome (cut p').current
    (λ m. length m.payload < lookup_offset m.header → NumbersAreBelow m.number (open_after R p')))
    → ((cut p').stop ≡ None → IfSome (cut p').current
    (λ m. length m.payload ≤ lookup_offset m.header →
    joined_octets m.number (events R p') ≡ m.payload)) →
    IsSound R p → IsSound R p'
quiet_sound R p p' len ms ev sd sc fits early begun sound = record {
  places = rw (ev, len) (each_weaker (λ e. e.place ≤ length p) (λ e. e.place ≤ suc (length p))
      (λ e h. omega arith) (events R p) sound.places);
  numbers = rw (ms, open_idle R p p' ev) sound.numbers;
  unknown = λ i h. known_idle R p p' ev sd i ∙ sound.unknown i (rw ms at h);
  starts = sc ∙ (sound.starts ∙ ap length (sym ms));
  fits = λ st. rw len (fits st);
  rising = rw (open_idle R p p' ev) sound.rising;
  early = early;
  still_open = rw (open_idle R p p' ev) sound.still_open;
  begun = begun;
  over = λ i. unfold is_over in rw (sd, ev) (sound.over i);
}

pub events_of_cut : (R : Rules) (p : List ℕ) (c : Cut) → cut p ≡ c →
    events R p ≡ events_from R [] (messages c)
unfolding events
events_of_cut R p c e = rw e refl

pub stop_starts : (found : ℕ × StreamFault) → start_count (stop_line (Some found)) ≡ 0
unfolding start_count stop_line
stop_starts found = refl

pub place_more : (m : CutMessage) (x n : ℕ) → place m ≡ n →
    place (with_payload m (m.payload ++ x ∷ [])) ≡ suc n
unfolding place
place_more m x n h = search (arith, length_push)

-- what is kept of a message, by all events
pub kept_is : (R : Rules) (p : List ℕ) (i : ℕ) (kept : Kept) → known_of R p i ≡ Some kept →
    kept_of i (events R p) ≡ kept
unfolding known_of
kept_is R p i kept h = search (arith)

-- if nothing is kept of a message, the message has no joined octets
pub none_known : (R : Rules) (p : List ℕ) (i : ℕ) → known_of R p i ≡ Some nothing_kept →
    joined_octets i (events R p) ≡ []
none_known R p i h = ap (λ (k : Kept). k.octets) (kept_is R p i nothing_kept h)

-- the last octet of a header: the place of the message
pub place_first : (n : ℕ) (m : CutMessage) → m.before ≡ suc n - 12 → m.payload ≡ [] → 11 ≤ n →
    place m ≡ suc n
unfolding place
place_first n m h k j = rw k (omega arith)

pub not_twelve : (n : ℕ) → (n == 12) ≡ false → n ≤ 12 → n < 12
not_twelve n h k = search (arith, cases_eq, eq-eqb)

pub octets_are : (R : Rules) (p : List ℕ) (i : ℕ) (kept : Kept) → known_of R p i ≡ Some kept →
    joined_octets i (events R p) ≡ kept.octets
octets_are R p i kept h = ap (λ (k : Kept). k.octets) (kept_is R p i kept h)

pub if_some : (P : CutMessage → Type 0) (o : Option CutMessage) (m : CutMessage) → o ≡ Some m →
    IfSome o P →
    P m
if_some P o m e h = rw e at h
