-- A run of header octets before the header's last one, taken at once: the code does their steps,
-- and writes nothing.
use Rattle.std.proofs.Common.{◌≡◌, ℕ, ◌+◌, ◌^◌, ◌<◌, ◌≤◌, List, [], ◌∷◌, ◌++◌, length, take, refl, sym, ap, subst, ◌∙◌, append_assoc, append-nil, None, arith}
use Rattle.std.proofs.lemmas.List.{length_push}
use Rattle.giop_sig.specs.Table.{Table}
use Rattle.giop_message.specs.Signatures.{Answers}
use Rattle.giop_stream.specs.HeaderOctets.{last_octet_fault}
use Rattle.giop_stream.specs.Rules.{Rules, rules_by}
use Rattle.giop_stream.specs.EngineView.{FramingView}
use Rattle.giop_stream.specs.EngineState.{State}
use Rattle.giop_stream.specs.EngineStep.{header_octet_step, lines_of_run, run_state}
use Rattle.giop_stream.specs.FramingSteps as steps
use Rattle.giop_stream.specs.ViewOfState.{Shows}
use Rattle.giop_stream.proofs.CodeSteps.OutsideMessages.{held_step, held_shows}

-- After this front of a header, none of these octets is wrong.
abbrev pub AreRight : (front octets : List ℕ) → Type 0
AreRight front octets = (k : ℕ) → k < length octets → last_octet_fault (front ++ take
    (k + 1) octets) ≡ None

take_more : (k x : ℕ) (xs : List ℕ) → take (k + 1) (x ∷ xs) ≡ x ∷ take k xs
take_more k x xs = search (arith)

right_first : (front : List ℕ) (x : ℕ) (xs : List ℕ) → AreRight front (x ∷ xs) →
    last_octet_fault (front ++ x ∷ []) ≡ None
right_first front x xs h = h 0 (omega arith)

right_more : (front : List ℕ) (x : ℕ) (xs : List ℕ) → AreRight front (x ∷ xs) →
    AreRight (front ++ x ∷ []) xs
right_more front x xs h =
    λ k less. ap last_octet_fault (append_assoc front (x ∷ []) (take (k + 1) xs)
    ∙ ap (λ (z : List ℕ). front ++ z) (sym (take_more (k + 1) x xs)))
    ∙ h (k + 1) (omega (arith, less))

-- the fields after these octets were added to the header
abbrev pub with_header_octets : (fields : FramingView) (octets : List ℕ) → FramingView
with_header_octets m xs = record m {
  totals = record m.totals { octets = m.totals.octets + length xs };
  header = m.header ++ xs;
}

held_none : (m : FramingView) → with_header_octets m [] ≡ m
held_none m = search (arith, append-nil)

held_more : (m : FramingView) (x : ℕ) (xs : List ℕ) →
    with_header_octets (steps.with_header_octet m x) xs ≡ with_header_octets m (x ∷ xs)
unfolding steps.with_header_octet
held_more m x xs = search (arith, append_assoc)

-- the octets leave the header incomplete, and are within the stream's limit
pub record FitsInHeader (fields : FramingView) (xs : List ℕ) : Type 0 where
  pub free : fields.stopped ≡ None
  pub few : length fields.header + length xs < 12
  pub room : fields.totals.octets + length xs ≤ 2 ^ 48
  pub right : AreRight fields.header xs

fit_more : (m : FramingView) (x : ℕ) (xs : List ℕ) → FitsInHeader m (x ∷ xs) →
    FitsInHeader (steps.with_header_octet m x) xs
unfolding steps.with_header_octet
fit_more m x xs f = search (arith, length_push, right_more)

module _ (C : Table) (l : Answers) (most : ℕ) where
  abbrev R : Rules
  R = rules_by C l most

  pub heads_show : (xs : List ℕ) (m : FramingView) (s : State) → Shows C l m s → FitsInHeader m xs →
      Shows C l (with_header_octets m xs) (run_state R s xs)
  unfolding run_state
  heads_show [] m s h f = search (arith, held_none)
  heads_show (x ∷ xs) m s h f =
      let other : length (m.header ++ x ∷ []) ≡ 12 → ⊥ =
      λ e. omega (arith, f.few, length_push m.header x, e) in
      let room : m.totals.octets < 2 ^ 48 = omega (arith, f.room) in
      let few : length m.header < 12 = omega (arith, f.few) in
      let more =
      heads_show xs (steps.with_header_octet m x) (header_octet_step s (m.header ++ x ∷ [])).state
      (held_shows C l most m s h x f.free room few other)
      (fit_more m x xs f) in
      rw (held_step C l most m s h x f.free room few (right_first m.header x xs f.right) other)
      (subst (λ (n : FramingView). Shows C l n
      (run_state R (header_octet_step s (m.header ++ x ∷ [])).state xs)) (held_more m x xs) more)

  pub heads_quiet : (xs : List ℕ) (m : FramingView) (s : State) → Shows C l m s →
      FitsInHeader m xs →
      lines_of_run R s xs ≡ []
  unfolding lines_of_run header_octet_step
  heads_quiet [] m s h f = refl
  heads_quiet (x ∷ xs) m s h f =
      let other : length (m.header ++ x ∷ []) ≡ 12 → ⊥ =
      λ e. omega (arith, f.few, length_push m.header x, e) in
      let room : m.totals.octets < 2 ^ 48 = omega (arith, f.room) in
      let few : length m.header < 12 = omega (arith, f.few) in
      rw (held_step C l most m s h x f.free room few (right_first m.header x xs f.right) other)
      (heads_quiet xs (steps.with_header_octet m x) (header_octet_step s (m.header ++ x ∷ [])).state
      (held_shows C l most m s h x f.free room few other)
      (fit_more m x xs f))
