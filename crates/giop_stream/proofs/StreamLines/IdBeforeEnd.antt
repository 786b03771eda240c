-- If a message begins with its request id, it is not over before the id is complete: its octets are
-- kept until then.
use Rattle.std.proofs.Common.{◌≡◌, ℕ, suc, ◌<◌, ◌≤◌, true, false, List, [], ◌∷◌, ◌++◌, length, refl, append-nil, Some, None, arith}
use Rattle.std.specs.Prelude.{◌==◌, map}
use Rattle.std.specs.List.{list_any, AllByRecursion as Each}
use Rattle.std.proofs.lemmas.Bool.{le-ltb, eq-eqb, ne_eqb, and_right, ltb-true}
use Rattle.std.proofs.lemmas.List.{length_push}
use Rattle.giop_message.specs.Headers.{size, begins_with_request_id}
use Rattle.giop_stream.specs.Kinds.{lookup_offset}
use Rattle.giop_stream.specs.Rules.{Rules}
use Rattle.giop_stream.specs.Framing.{CutMessage, cut}
use Rattle.giop_message.specs.MessageReader.{LineClass, Value, MessageReader, IsStreamable, next_lines}
use Rattle.giop_stream.specs.Events.{Takes, MessageKey, Event, OpenState, has_joined_octets, events_at_header, events_at_octet, events_of_octet, octets_of_event}
use Rattle.giop_stream.specs.Lines.{Said, line, Kept, lines_of_event, is_last_line_of}
use Rattle.giop_stream.specs.OpenSlots.{known_of}
use Rattle.giop_stream.specs.PayloadOwner.{own_kept}
use Rattle.giop_stream.specs.Effects.{kept_after_event, lines_of, message_kept_after, lines_for}
use Rattle.giop_stream.proofs.Lists.{each_filter}
use Rattle.giop_stream.proofs.StreamLines.LastLines.{none_stands}
use Rattle.giop_stream.proofs.Cuts.Cutting.{cut_of_parts}
use Rattle.giop_stream.proofs.Cuts.CutFrom.{cut_with_last_message}
use Rattle.giop_stream.proofs.Cuts.Start.{cut_nothing}

-- ---- A value ends no message.

value_last : (e : Event) (s : LineClass) (text : List ℕ) (i : ℕ) → s ≡ Value →
    is_last_line_of i (line e (Said s text)) ≡ false
unfolding is_last_line_of line
value_last e s text i h = search (arith)

values_last : {A : Type 0} (e : Event) (f : A → LineClass) (g : A → List ℕ) (i : ℕ) (xs : List A) →
    Each (λ a. f a ≡ Value) xs
    → list_any (is_last_line_of i) (map (λ a. line e (Said (f a) (g a))) xs) ≡ false
values_last e f g i [] h = refl
values_last e f g i (x ∷ xs) h = search (arith, value_last, values_last e f g i xs h.1)

takes_last : (R : MessageReader) → IsStreamable R →
    (at : ℕ) (w : MessageKey) (kept : Kept) (x : ℕ) → begins_with_request_id w.header ≡ true
    → length kept.octets < 4 → kept.phase 12 ≡ 12 → list_any (is_last_line_of w.number)
    (lines_of R (record { place = at; subject = w; what = Takes x }) (Some kept)) ≡ false
unfolding lines_of lines_for lines_of_event octets_of_event
takes_last R laws at w kept x name short twelve =
    let e : Event = record { place = at; subject = w; what = Takes x } in
    let xs = kept.octets in
    let all = xs ++ x ∷ [] in
    none_stands w.number (map (λ r. line e (Said r.line_class r.text))
    (next_lines R kept.phase w.number w.header xs x)) (λ i. false)
    (values_last e (λ r. r.line_class) (λ r. r.text) w.number
    (next_lines R kept.phase w.number w.header xs x)
    (each_filter (λ r. r.line_class ≡ Value) (λ r. r.at == suc (length xs))
    (R.reads kept.phase w.number w.header all)
    (laws.named.named kept.phase w.number w.header all (rw twelve refl) name
    (omega (arith, short, length_push xs x)))))

-- an octet of a request id is kept
pub named_then : (R : MessageReader) → IsStreamable R →
    (at : ℕ) (w : MessageKey) (kept : Kept) (x : ℕ) → begins_with_request_id w.header ≡ true
    → length kept.octets < 4 → kept.phase 12 ≡ 12
    → message_kept_after R (record { place = at; subject = w; what = Takes x }) (Some kept)
    ≡ Some (kept_after_event (Takes x) kept)
unfolding message_kept_after
named_then R laws at w kept x name short twelve =
    rw (takes_last R laws at w kept x name short twelve) refl

-- ---- Octet by octet.

pub not_past : (m : CutMessage) → length m.payload ≤ lookup_offset m.header →
    has_joined_octets m ≡ false
unfolding has_joined_octets
not_past m h = search (arith, and_right, le-ltb)

pub early_octet : (most : ℕ) (b : OpenState) (m : CutMessage) → 0 < length m.payload →
    length m.payload < lookup_offset m.header
    → length m.payload < size m.header → events_of_octet most b m
    ≡ events_at_octet b m
unfolding events_of_octet
early_octet most b m some few lacks = search (arith, ne_eqb, append-nil)

pub first_octet : (most : ℕ) (b : OpenState) (m : CutMessage) → length m.payload ≡ 0 →
    0 < lookup_offset m.header → 0 < size m.header →
    events_of_octet most b m ≡ events_at_header m
unfolding events_of_octet
first_octet most b m none named some = search (arith, eq-eqb, ne_eqb, append-nil)

-- the octets of the current message are kept while its request id is incomplete
abbrev pub KeepsCurrentOctets : (R : Rules) (stream : List ℕ) → Type 0
KeepsCurrentOctets R p =
    (cut p).stop ≡ None → (m : CutMessage) → (cut p).current ≡ Some m →
    begins_with_request_id m.header ≡ true →
    length m.payload < 4 → known_of R p m.number ≡ Some (own_kept m)

pub record Settled (whole : List CutMessage) (m m' : CutMessage) : Type 0 where
  pub same : m' ≡ m
  pub lacks : length m.payload < size m.header

pub settled_is : (whole : List CutMessage) (m m' : CutMessage) →
    (cut_with_last_message whole m).current ≡ Some m' →
    Settled whole m m'
unfolding cut_with_last_message
settled_is whole m m' h = search (arith, ltb-true)

pub alive_start : (R : Rules) → KeepsCurrentOctets R []
unfolding cut_of_parts
alive_start R st m cur name few = search (arith, cut_nothing)
