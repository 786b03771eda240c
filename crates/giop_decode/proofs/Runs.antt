-- A run of octets, taken in parts.
use Rattle.std.proofs.Common.{◌≡◌, Result, Ok, Err, ℕ, zero, suc, ◌+◌, ◌<◌, ◌≤◌, List, [], ◌∷◌, ◌++◌, length, take, drop, get_or, refl, sym, ◌∙◌, ap, subst, append-nil, append_assoc, add-one, length-append, arith}
use Rattle.std.specs.Prelude.{IfOk}
use Rattle.std.proofs.Math.Seq.{drop-append_seam, take-suc}
use Rattle.std.proofs.lemmas.List.{take-append-drop, take-take}
use Rattle.giop_decode.specs.declared.progress.Progress.{Progress}
use Rattle.giop_decode.specs.declared.progress.Progress.TheVariants as progress
use Rattle.giop_decode.specs.ReadResult.{Coding, ValueAt, lines_of}
use Rattle.giop_decode.specs.Reading.{reading}
use Rattle.giop_decode.specs.declared.decoder.Decoder.{Decoder}
use Rattle.giop_decode.specs.SeenState.{Reads, Takes, added_lines}
use Rattle.giop_decode.specs.Runs.{added_lines_of_run, AreAnswersToOctets, TakesRun, BreaksOff, WritesRun}
use Rattle.giop_decode.specs.Spelling.{lines_text}
use Rattle.giop_decode.proofs.Rooted.{whole_lines}
use Rattle.giop_print.proofs.Writing.{wrote-front}
use Rattle.giop_print.specs.Output.{OutLog, Wrote, WroteFront}
use Rattle.giop_print.specs.declared.path.Root.{Root}
use Rattle.giop_sig.specs.Types.{Ty}
use Rattle.giop_sig.specs.Table.{Table}

-- ---- the lines of a run

lines_text_both : (message : ℕ) (root : Root) (xs ys : List ValueAt) →
    lines_text message root (xs ++ ys) ≡ lines_text message root xs ++ lines_text message root ys
unfolding lines_text
lines_text_both message root [] ys = refl
lines_text_both message root (x ∷ xs) ys = search (
  arith,
  append_assoc,
  lines_text_both message
      root xs ys,
)

dues_begin : (coding : Coding) (T : Ty) (at : ℕ) (s xs : List ℕ) →
    lines_of (reading coding [] T at (s ++ xs))
    ≡ lines_of (reading coding [] T at s) ++ added_lines_of_run coding T at s xs
dues_begin coding T at s xs =
    let front = lines_of (reading coding [] T at s) in
    let more = whole_lines coding [] T at s xs in
    more.1 ∙ ap (λ z. front ++ z) (sym (ap (drop (length front)) more.1
    ∙ drop-append_seam front more.0))

pub dues_both : (coding : Coding) (T : Ty) (at : ℕ) (s xs ys : List ℕ) →
    added_lines_of_run coding T at s (xs ++ ys) ≡ added_lines_of_run coding T at s xs
    ++ added_lines_of_run coding T at (s ++ xs) ys
dues_both coding T at s xs ys = search (arith, append_assoc, dues_begin, drop, drop-append_seam)

pub dues_none : (coding : Coding) (T : Ty) (at : ℕ) (s : List ℕ) →
    added_lines_of_run coding T at s [] ≡ []
dues_none coding T at s =
    let front = lines_of (reading coding [] T at s) in
    ap (λ z. drop (length front) (lines_of (reading coding [] T at z))) (append-nil s)
    ∙ (ap (drop (length front)) (sym (append-nil front)) ∙ drop-append_seam front [])

pub text_none : (message : ℕ) (root : Root) (coding : Coding) (T : Ty) (at : ℕ) (s : List ℕ) →
    lines_text message root (added_lines_of_run coding T at s []) ≡ []
unfolding lines_text
text_none message root coding T at s = search (arith, dues_none)

pub text_both : (message : ℕ) (root : Root) (coding : Coding) (T : Ty) (at : ℕ) (s xs ys : List ℕ) →
    lines_text message root (added_lines_of_run coding T at s (xs ++ ys))
    ≡ lines_text message root (added_lines_of_run coding T at s xs) ++ lines_text message root
    (added_lines_of_run coding T at (s ++ xs) ys)
text_both message root coding T at s xs ys = search (arith, dues_both, lines_text_both)

-- ---- the answers to a run

pub answered_both : (coding : Coding) (T : Ty) (at : ℕ) (root : Root) (s xs ys : List ℕ)
    (p : Progress) → AreAnswersToOctets coding T at root s xs progress.More →
    AreAnswersToOctets coding T at root (s ++ xs) ys p →
    AreAnswersToOctets coding T at root s (xs ++ ys) p
answered_both coding T at root s [] ys p h k = search (arith, append-nil)
answered_both coding T at root s (x ∷ []) [] p h k = search (arith)
answered_both coding T at root s (x ∷ []) (y ∷ ys) p h k = (h, k)
answered_both coding T at root s (x ∷ x' ∷ xs) ys p h k = (
  h.0,
  answered_both coding T at root (s ++ x ∷ []) (x' ∷ xs) ys p h.1
      (subst (λ z. AreAnswersToOctets coding T at root z ys p)
      (sym (append_assoc s (x ∷ []) (x' ∷ xs))) k),
)

pub takes_one : (C : Table) (T : Ty) (coding : Coding) (at message : ℕ) (root : Root) (d : Decoder)
    (s : List ℕ) (octet : ℕ) (p : Progress) → Takes C T coding at message root d s octet p →
    TakesRun C T coding at message root d s (octet ∷ []) p
takes_one C T coding at message root d s octet p t = search (arith)

pub takes_both : (C : Table) (T : Ty) (coding : Coding) (at message : ℕ) (root : Root) (d : Decoder)
    (s xs ys : List ℕ) (p : Progress) → AreAnswersToOctets coding T at root s xs progress.More →
    TakesRun C T coding at message root d (s ++ xs) ys p →
    TakesRun C T coding at message root d s (xs ++ ys) p
takes_both C T coding at message root d s xs ys p h t = search (arith, append_assoc, answered_both)

-- ---- the octets so far, and one more

pub take_more : (xs : List ℕ) (i : ℕ) → i < length xs →
    take (i + 1) xs ≡ take i xs ++ get_or xs i 0 ∷ []
take_more xs i h = rw add-one (take-suc xs i 0 h)

pub text_more : (message : ℕ) (root : Root) (coding : Coding) (T : Ty) (at : ℕ) (s octets : List ℕ)
    (i : ℕ) → i < length octets → lines_text message root
    (added_lines_of_run coding T at s (take (i + 1) octets))
    ≡ lines_text message root (added_lines_of_run coding T at s (take i octets))
    ++ lines_text message root
    (added_lines coding T at (s ++ take i octets) (get_or octets i 0))
text_more message root coding T at s octets i h = search (arith, take_more, text_both, take, get_or)

pub takes_more : (C : Table) (T : Ty) (coding : Coding) (at message : ℕ) (root : Root) (d : Decoder)
    (s octets : List ℕ) (i : ℕ) (p : Progress) → i < length octets →
    AreAnswersToOctets coding T at root s (take i octets) progress.More →
    Takes C T coding at message root d (s ++ take i octets) (get_or octets i 0) p →
    TakesRun C T coding at message root d s (take (i + 1) octets) p
takes_more C T coding at message root d s octets i p below h t = search (
  arith,
  take_more,
  takes_both,
  take,
  get_or,
  takes_one,
)

pub breaks_off : (T : Ty) (coding : Coding) (at message : ℕ) (root : Root) (s octets : List ℕ)
    (i : ℕ) (a b c : OutLog) → i < length octets →
    AreAnswersToOctets coding T at root s (take i octets) progress.More →
    Wrote a b (lines_text message root (added_lines_of_run coding T at s (take i octets))) →
    WroteFront b c (lines_text message root (added_lines coding T at (s ++ take i octets)
    (get_or octets i 0))) → BreaksOff T coding at message root s octets a c
breaks_off T coding at message root s octets i a b c below h v w =
    record {
      front = take i octets;
      octet = get_or octets i 0;
      rest = drop (i + 1) octets;
      all = sym (take-append-drop (i + 1) octets)
          ∙ (ap (λ xs. xs ++ drop (i + 1) octets) (take_more octets i below)
          ∙ append_assoc (take i octets) (get_or octets i 0 ∷ []) (drop (i + 1) octets));
      answers = h;
      wrote = rw (text_both message root coding T at s (take i octets) (get_or octets i 0 ∷ []))
          (wrote-front a b c _ _ v w);
    }

-- ---- a run of the first of several octets

pub take_near : (n : ℕ) (near octets : List ℕ) → near ≡ take (length near) octets →
    n ≤ length near →
    take n near ≡ take n octets
take_near n near octets e le = search (arith, take, take-take)

broken_near : (T : Ty) (coding : Coding) (at message : ℕ) (root : Root) (s near octets : List ℕ)
    (a b : OutLog) → near ≡ take (length near) octets →
    BreaksOff T coding at message root s near a b → BreaksOff T coding at message root s octets a b
broken_near T coding at message root s near octets a b e h =
    let behind = drop (length near) octets in
    record {
      front = h.front;
      octet = h.octet;
      rest = h.rest ++ behind;
      all = sym (take-append-drop (length near) octets)
          ∙ (ap (λ xs. xs ++ behind) (sym e ∙ h.all)
          ∙ append_assoc h.front (h.octet ∷ h.rest) behind);
      answers = h.answers;
      wrote = h.wrote;
    }

pub writes_near : {E : Type 0} (r : Result (ℕ × Progress) E) (T : Ty) (coding : Coding)
    (at message : ℕ) (root : Root) (s near octets : List ℕ) (a b : OutLog) →
    near ≡ take (length near) octets → IfOk r (λ taken. taken.0 ≤ length near) →
    WritesRun r T coding at message root s near a b →
    WritesRun r T coding at message root s octets a b
writes_near (Ok v) T coding at message root s near octets a b e within h = search (arith, take_near)
writes_near (Err v) T coding at message root s near octets a b e within h = search (
  arith,
  broken_near,
)

-- what is taken of the first octets is taken of all octets, for each list that the decoder has read
-- before
pub takes_near : {E : Type 0} (r : Result (ℕ × Progress) E) (C : Table) (old new : Decoder)
    (near octets : List ℕ) → near ≡ take (length near) octets →
    IfOk r (λ taken. taken.0 ≤ length near) →
    IfOk r (λ taken. (T : Ty) (coding : Coding) (at message : ℕ) (root : Root) (s : List ℕ) →
    Reads C T coding at message root old s →
    TakesRun C T coding at message root new s (take taken.0 near) taken.1) →
    IfOk r (λ taken. (T : Ty) (coding : Coding) (at message : ℕ) (root : Root) (s : List ℕ) →
    Reads C T coding at message root old s →
    TakesRun C T coding at message root new s (take taken.0 octets) taken.1)
takes_near (Ok v) C old new near octets e within h = λ T coding at message root s r.
    subst (λ xs. TakesRun C T coding at message root new s xs v.1)
    (take_near v.0 near octets e within) (h T coding at message root s r)
takes_near (Err v) C old new near octets e within h = tt

-- ---- two runs, one after the other

pub breaks_both : (T : Ty) (coding : Coding) (at message : ℕ) (root : Root) (s xs ys : List ℕ)
    (a b c : OutLog) → AreAnswersToOctets coding T at root s xs progress.More →
    Wrote a b (lines_text message root (added_lines_of_run coding T at s xs)) →
    BreaksOff T coding at message root (s ++ xs) ys b c →
    BreaksOff T coding at message root s (xs ++ ys) a c
breaks_both T coding at message root s xs ys a b c h v w = search (
  arith,
  append_assoc,
  answered_both,
  text_both,
  wrote-front,
)

-- ---- a run of one octet

one_taken : (n octet : ℕ) → 0 < n → take n (octet ∷ []) ≡ octet ∷ []
one_taken zero octet h = absurd (omega (arith, h))
one_taken (suc zero) octet h = refl
one_taken (suc (suc n)) octet h = refl

pub text_one : (message : ℕ) (root : Root) (coding : Coding) (T : Ty) (at : ℕ) (s : List ℕ)
    (n octet : ℕ) → 0 < n → lines_text message root
    (added_lines_of_run coding T at s (take n (octet ∷ [])))
    ≡ lines_text message root (added_lines coding T at s octet)
text_one message root coding T at s n octet some = search (arith, one_taken)

pub taken_one : (C : Table) (T : Ty) (coding : Coding) (at message : ℕ) (root : Root) (d : Decoder)
    (s : List ℕ) (n octet : ℕ) (p : Progress) → 0 < n →
    TakesRun C T coding at message root d s (take n (octet ∷ [])) p →
    Takes C T coding at message root d s octet p
taken_one C T coding at message root d s n octet p some t = search (arith, one_taken)

-- a front of one octet, with the octet after it, is that octet
lone_front : (front : List ℕ) (octet last : ℕ) (rest : List ℕ) →
    octet ∷ [] ≡ front ++ last ∷ rest → front ++ last ∷ [] ≡ octet ∷ []
lone_front [] octet last rest e = search (arith, get_or)
lone_front (x ∷ xs) octet last rest e =
    absurd (omega (arith, ap length e, length-append xs (last ∷ rest)))

pub one_broken : (T : Ty) (coding : Coding) (at message : ℕ) (root : Root) (s : List ℕ) (octet : ℕ)
    (a b : OutLog) → BreaksOff T coding at message root s (octet ∷ []) a b →
    WroteFront a b (lines_text message root (added_lines coding T at s octet))
one_broken T coding at message root s octet a b h = search (arith, lone_front)
