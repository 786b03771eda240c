-- Fragments of 1.1: by what padding is counted in their payloads, and that a mixed stream joins
-- none of them.
use Rattle.std.proofs.Common.{◌≡◌, ℕ, ◌+◌, ◌-◌, ◌<◌, Bool, true, false, not, List, [], ◌∷◌, ◌++◌, length, length-append, refl, sym, ap, ◌∙◌, append_assoc, arith}
use Rattle.std.specs.Prelude.{◌==◌, if◌then◌else◌, ◌||◌, cond, ltb}
use Rattle.std.specs.List.{list_any, AllByRecursion as Each}
use Rattle.std.proofs.lemmas.Bool.{eq-eqb, ltb-true}
use Rattle.std.proofs.Math.Bool.{or-true}
use Rattle.giop_message.specs.Phases.{Phase, seamed}
use Rattle.giop_stream.specs.Kinds.{is_fragment_1_1, is_fragmented_1_1, lookup_offset}
use Rattle.giop_stream.specs.Framing.{CutMessage}
use Rattle.giop_stream.specs.Rules.{Rules}
use Rattle.giop_stream.specs.Events.{EventKind, Seams, Event, octets_of_event, OpenState, ends_joining, before_by, key, open_message_1_1, opener_of, joined_octets, phase_after_event, phase_from, phase_of}
use Rattle.giop_stream.specs.Shares.{octets_if_joined_to, joined_share}
use Rattle.giop_stream.proofs.Lists.{any_append}
use Rattle.giop_stream.proofs.Events.MessageKinds.{old_fragment_any}
use Rattle.giop_stream.proofs.StreamLines.LinesOfOctet.{joined_append, phase_append, phases_agree}

-- ---- Padding in the payload of a Fragment.

-- events without a seam change nothing in it
unseamed_one : (b : Bool) (xs : List ℕ) (phase : Phase) (what : EventKind) → (what ≡ Seams → ⊥) →
    (if b then phase_after_event xs phase what else phase) ≡ phase
unseamed_one false xs phase what none = refl
unseamed_one true xs phase Seams none = absurd (none refl)
unseamed_one true xs phase _ none = refl

unseamed : (i : ℕ) (phase : Phase) (past es : List Event) → Each (λ e. e.what ≡ Seams → ⊥) es →
    phase_from i phase past es ≡ phase
unfolding phase_from
unseamed i phase past [] none = refl
unseamed i phase past (e ∷ es) none =
    rw (unseamed_one (e.subject.number == i) (joined_octets i past) phase e.what none.0)
    (unseamed i phase (past ++ e ∷ []) es none.1)

-- the phase at an offset from a seam on
after_seam : (phase : Phase) (here k : ℕ) → seamed phase here (here + k) ≡ 12 + k
after_seam phase here k = go (ltb (here + k) here) refl
  where
    go : (b : Bool) → ltb (here + k) here ≡ b →
        cond b (phase (here + k)) (12 + (here + k - here)) ≡ 12 + k
    go true less = omega (arith, ltb-true (here + k) here less)
    go false less = omega arith

at_seam : (b : Bool) (xs : List ℕ) (phase : Phase) (what : EventKind) → b ≡ true → what ≡ Seams →
    (if b then phase_after_event xs phase what else phase) ≡ seamed phase (12 + length xs)
at_seam b xs phase what mine is = rw (mine, is) refl

-- the phase after a seam, and after other events that are none
seam_push : (i : ℕ) (past between : List Event) (e : Event) → e.subject.number ≡ i →
    e.what ≡ Seams → Each (λ f. f.what ≡ Seams → ⊥) between →
    phase_of i (past ++ e ∷ between) ≡ seamed (phase_of i past) (12 + length (joined_octets i past))
unfolding phase_from
seam_push i past between e same is none =
    let next : Phase =
    if e.subject.number == i then phase_after_event (joined_octets i past) (phase_of i past) e.what
    else phase_of i past in
    phase_append i past (e ∷ between)
    ∙ (unseamed i next (past ++ e ∷ []) between none
    ∙ at_seam (e.subject.number == i) (joined_octets i past) (phase_of i past) e.what
    (eq-eqb e.subject.number i same) is)

joined_longer : (i : ℕ) (past between : List Event) (e : Event) → e.what ≡ Seams →
    length (joined_octets i (past ++ e ∷ between)) ≡ length (joined_octets i past) + length
    (joined_octets i between)
unfolding joined_octets octets_of_event
joined_longer i past between e is =
    ap length (joined_append i past (e ∷ between))
    ∙ length-append (joined_octets i past) (joined_octets i (e ∷ between))
    ∙ ap (λ (n : ℕ). length (joined_octets i past) + n) (go (e.subject.number == i))
  where
    go : (b : Bool) → length ((if b then octets_of_event e.what else []) ++ joined_octets i between)
        ≡ length (joined_octets i between)
    go true = rw is refl
    go false = refl

pub padding_from_header : (i : ℕ) (past between rest : List Event) (e : Event) (k : ℕ) →
    e.subject.number ≡ i → e.what ≡ Seams → Each (λ f. f.what ≡ Seams → ⊥) between →
    k < length (joined_octets i between) →
    phase_of i (past ++ e ∷ (between ++ rest)) (12 + length (joined_octets i past) + k) ≡ 12 + k
padding_from_header i past between rest e k same is none few =
    let es = past ++ e ∷ between in
    let at = 12 + length (joined_octets i past) + k in
    ap (λ (all : List Event). phase_of i all at) (sym (append_assoc past (e ∷ between) rest))
    ∙ phases_agree i es rest at (omega (arith, few, joined_longer i past between e is))
    ∙ ap (λ (phase : Phase). phase at) (seam_push i past between e same is none)
    ∙ after_seam (phase_of i past) (12 + length (joined_octets i past)) k

-- ---- A mixed stream.

pub mixed_after : (R : Rules) (past : List Event) (e : Event) → ends_joining e ≡ true →
    (before_by R (past ++ e ∷ [])).mixed ≡ true
unfolding before_by
mixed_after R past e is =
    rw (
      any_append ends_joining past (e ∷ []),
      is,
      or-true (list_any ends_joining past),
      or-true (not R.joins),
    ) refl

or_longer : (a b c : Bool) → (a || b) ≡ true → (a || (b || c)) ≡ true
or_longer true b c h = refl
or_longer false true c h = refl
or_longer false false c h = absurd cc

pub mixed_on : (R : Rules) (past more : List Event) → (before_by R past).mixed ≡ true →
    (before_by R (past ++ more)).mixed ≡ true
unfolding before_by
mixed_on R past more is =
    rw (any_append ends_joining past more)
    (or_longer (not R.joins) (list_any ends_joining past) (list_any ends_joining more) is)

pub joins_none : (b : OpenState) (m : CutMessage) (i : ℕ) → b.mixed ≡ true →
    is_fragment_1_1 m.header ≡ true → joined_share i b m ≡ []
unfolding joined_share lookup_offset is_fragmented_1_1 key opener_of open_message_1_1
    octets_if_joined_to
joins_none b m i mixed is =
    rw (old_fragment_any m.header is, is, mixed) (search arith)
