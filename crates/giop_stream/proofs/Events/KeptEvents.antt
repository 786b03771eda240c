-- What more events at the end make of what stands before the next octet.
use Rattle.std.proofs.Common.{◌≡◌, ℕ, Bool, true, false, List, [], ◌∷◌, ◌++◌, refl, sym, ap, ◌∙◌, append_assoc, Option, Some, None}
use Rattle.std.specs.Prelude.{◌||◌, if◌then◌else◌, IfSome, is_none}
use Rattle.std.specs.List.{find, list_any, AllByRecursion as Each}
use Rattle.std.proofs.lemmas.Bool.{ne_eqb}
use Rattle.std.proofs.lemmas.List.{append-nil}
use Rattle.giop_stream.specs.Rules.{Rules}
use Rattle.giop_stream.specs.Events.{Event, Open, joined_octets, phase_of, ends_joining, open_after_event, open_after_events, has_ended, pending_id, before_by}
use Rattle.giop_stream.specs.Lines.{Kept, kept_of}
use Rattle.giop_stream.proofs.Lists.{any_append}
use Rattle.giop_stream.proofs.StreamLines.LinesOfOctet.{kept_other}
use Rattle.giop_stream.proofs.StreamLines.Ended.{ended_append}

pub opened_append : (still_open : List Open) (es more : List Event) →
    open_after_events still_open (es ++ more) ≡ open_after_events
    (open_after_events still_open es) more
unfolding open_after_events
opened_append still_open [] more = refl
opened_append still_open (e ∷ es) more = opened_append (open_after_event still_open e.subject
    e.what) es more

-- ---- Events of other messages.

abbrev pub OfOthers : (i : ℕ) (es : List Event) → Type 0
OfOthers i es = Each (λ e. e.subject.number ≡ i → ⊥) es

pub others_kept : (i : ℕ) (past es : List Event) → OfOthers i es →
    kept_of i (past ++ es) ≡ kept_of i past
others_kept i past [] h = rw append-nil refl
others_kept i past (e ∷ es) h =
    let one : kept_of i (past ++ e ∷ []) ≡ kept_of i past =
    kept_other past e i (ne_eqb e.subject.number i h.0) in
    ap (kept_of i) (sym (append_assoc past (e ∷ []) es))
    ∙ (others_kept i (past ++ e ∷ []) es h.1 ∙ one)

others_end : (R : Rules) (i : ℕ) (past es : List Event) → OfOthers i es →
    has_ended R i past es ≡ false
unfolding has_ended
others_end R i past [] h = refl
others_end R i past (e ∷ es) h = rw (ne_eqb e.subject.number i h.0)
    (others_end R i (past ++ e ∷ []) es h.1)

or_false : (b : Bool) → (b || false) ≡ b
or_false true = refl
or_false false = refl

pub others_ended : (R : Rules) (i : ℕ) (past es : List Event) → OfOthers i es →
    has_ended R i [] (past ++ es) ≡ has_ended R i [] past
others_ended R i past es h = ended_append R i past es
    ∙ rw (others_end R i past es h) (or_false (has_ended R i [] past))

-- ---- What stands before the next octet.

pub asked_same : (R : Rules) (past es : List Event) (w : Option Open) →
    IfSome w (λ o. OfOthers o.opener.number es) → pending_id R (past ++ es) w ≡ pending_id R past w
asked_same R past es None h = refl
asked_same R past es (Some o) h =
    let kept = others_kept o.opener.number past es h in
    let octets : joined_octets o.opener.number (past ++ es) ≡ joined_octets o.opener.number past =
    ap (λ (k : Kept). k.octets) kept in
    let phase : phase_of o.opener.number (past ++ es) ≡ phase_of o.opener.number past =
    ap (λ (k : Kept). k.phase) kept in
    rw (others_ended R o.opener.number past es h, octets, phase) refl

found_if : (Q : Open → Type 0) (b : Bool) (o : Open) (rest : Option Open) → Q o → IfSome rest Q →
    IfSome (if b then Some o else rest) Q
found_if Q true o rest h k = h
found_if Q false o rest h k = k

found_each : (Q : Open → Type 0) (test : Open → Bool) (still_open : List Open) → Each Q still_open →
    IfSome (find test still_open) Q
found_each Q test [] h = tt
found_each Q test (o ∷ still_open) h =
    found_if Q (test o) o (find test still_open) h.0 (found_each Q test still_open h.1)

-- these events refuse no message of 1.1 that Fragments may follow
pub mixed_same : (R : Rules) (past es : List Event) → list_any ends_joining es ≡ false →
    (before_by R (past ++ es)).mixed ≡ (before_by R past).mixed
unfolding before_by
mixed_same R past es unmixed =
    rw (any_append ends_joining past es, unmixed, or_false (list_any ends_joining past)) refl

-- these events open, close and refuse no message, and none of them is of an open message
pub before_same : (R : Rules) (past es : List Event) →
    open_after_events (open_after_events [] past) es ≡ open_after_events [] past →
    list_any ends_joining es ≡ false →
    Each (λ o. OfOthers o.opener.number es) (open_after_events [] past) →
    before_by R (past ++ es) ≡ before_by R past
unfolding before_by
before_same R past es same unmixed others =
    rw (
      opened_append [] past es,
      same,
      any_append ends_joining past es,
      unmixed,
      or_false (list_any ends_joining past),
      asked_same R past es (find (λ o. is_none o.key) (open_after_events [] past))
          (found_each (λ o. OfOthers o.opener.number es) (λ o. is_none o.key)
          (open_after_events [] past)
          others),
    ) refl
