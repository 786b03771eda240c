-- Octets that have been taken so far, and the octets that are taken after them.
use Rattle.std.proofs.Common.{◌≡◌, Result, Ok, Err, IsErr, ℕ, ◌+◌, ◌<◌, ◌≤◌, List, ◌++◌, length, take, drop, get_or, ap, subst, append-nil, take-add, length-append, length-drop, arith}
use Rattle.std.specs.Prelude.{IfOk}
use Rattle.std.proofs.lemmas.Bool.{false≢true}
use Rattle.std.proofs.lemmas.List.{take-append-drop}
use Rattle.giop_decode.specs.declared.decoder.Decoder.{Decoder}
use Rattle.giop_decode.specs.declared.progress.Progress.{Progress}
use Rattle.giop_decode.specs.declared.progress.Progress.TheVariants as progress
use Rattle.giop_decode.specs.SeenState.{CanStandAt, Fits, GoesOn, IsDone, Reads, Takes, added_lines}
use Rattle.giop_decode.specs.DecoderSteps.{decoder_step}
use Rattle.giop_decode.specs.ReadResult.{Coding, lines_of}
use Rattle.giop_decode.specs.Runs.{added_lines_of_run, AlwaysTakesWithoutLine, AreAnswersToOctets, BreaksOff, TakesRun, TakesSome}
use Rattle.giop_decode.specs.Spelling.{lines_text}
use Rattle.giop_decode.proofs.Runs.{breaks_both, breaks_off, takes_both, takes_near, takes_more, text_both, text_more, text_none, writes_near}
use Rattle.giop_decode.proofs.Segments.{said_none}
use Rattle.giop_decode.proofs.Taking.{due_is}
use Rattle.giop_print.proofs.Writing.{wrote-append, wrote-nil}
use Rattle.giop_print.specs.Output.{OutLog, Wrote, WroteFront}
use Rattle.giop_print.specs.declared.path.Root.{Root}
use Rattle.giop_sig.specs.Types.{Ty}
use Rattle.giop_sig.specs.Table.{Table}

-- The decoder `old` has taken `n` of these octets and has become `new`, and the value goes on after
-- them.
pub record HasTakenFirst (C : Table) (old new : Decoder) (octets : List ℕ) (n : ℕ)
    (before after : OutLog) : Type 0 where
  pub within : n ≤ length octets
  pub fits : Fits C new
  pub reads : (T : Ty) (coding : Coding) (at message : ℕ) (root : Root) (s : List ℕ) →
      Reads C T coding at message root old s →
      Reads C T coding at message root new (s ++ take n octets)
  pub answers : (T : Ty) (coding : Coding) (at message : ℕ) (root : Root) (s : List ℕ) →
      Reads C T coding at message root old s →
      AreAnswersToOctets coding T at root s (take n octets) progress.More
  pub text : (T : Ty) (coding : Coding) (at message : ℕ) (root : Root) (s : List ℕ) →
      Reads C T coding at message root old s →
      Wrote before after
      (lines_text message root (added_lines_of_run coding T at s (take n octets)))

-- the octet after the first n octets is taken with this answer
abbrev pub TakesNextOctet : (C : Table) (old new : Decoder) (octets : List ℕ) (n : ℕ)
    (p : Progress) → Type 0
TakesNextOctet C old new octets n p =
    (T : Ty) (coding : Coding) (at message : ℕ) (root : Root) (s : List ℕ) →
    Reads C T coding at message root old s →
    Takes C T coding at message root new (s ++ take n octets) (get_or octets n 0) p

-- and this holds of the text of that octet's lines
abbrev pub NextLinesSatisfy : (C : Table) (old : Decoder) (octets : List ℕ) (n : ℕ)
    (Says : List ℕ → Type 0) → Type 0
NextLinesSatisfy C old octets n Says =
    (T : Ty) (coding : Coding) (at message : ℕ) (root : Root) (s : List ℕ) →
    Reads C T coding at message root old s →
    Says (lines_text message root
    (added_lines coding T at (s ++ take n octets) (get_or octets n 0)))

pub none_taken : (C : Table) (d : Decoder) (octets : List ℕ) (a : OutLog) → Fits C d →
    HasTakenFirst C d d octets 0 a a
none_taken C d octets a f = search (arith, append-nil, text_none, wrote-nil)

pub gathered_so_far : (C : Table) (d new : Decoder) (octets : List ℕ) (n : ℕ) (a : OutLog) →
    n ≤ length octets → Fits C new → AlwaysTakesWithoutLine C d new (take n octets) →
    HasTakenFirst C d new octets n a a
gathered_so_far C d new octets n a within f h =
    record {
      within = within;
      fits = f;
      reads = λ T coding at message root s r.
          (h T coding at message root s r).takes.reads (λ fault. fault);
      answers = λ T coding at message root s r. (h T coding at message root s r).takes.answers;
      text = λ T coding at message root s r.
          rw (said_none message root _ (h T coding at message root s r).quiet) (wrote-nil a);
    }

-- the lines of the octet after the first n octets are those of one step on the decoder's fields
pub step_says : (C : Table) (old mid : Decoder) (octets : List ℕ) (n : ℕ) → Fits C mid →
    ((T : Ty) (coding : Coding) (at message : ℕ) (root : Root) (s : List ℕ) →
    Reads C T coding at message root old s →
    Reads C T coding at message root mid (s ++ take n octets)) →
    (Says : List ℕ → Type 0) →
    ((coding : Coding) (here : ℕ) → CanStandAt coding mid here →
    Says (lines_text mid.head.message mid.head.root
    (lines_of (decoder_step coding C mid here (get_or octets n 0))))) →
    NextLinesSatisfy C old octets n Says
step_says C old mid octets n f reads Says w T coding at message root s r =
    let k = reads T coding at message root s r in
    let all = s ++ take n octets in
    rw (
      due_is C T coding at message root mid all (get_or octets n 0) f k,
      ← k.same_message,
      ← k.same_root,
    )
    (w coding (at + length all) k.offset)

-- a put failed at one of the octets
pub broken : {E : Type 0} (r : Result (ℕ × Progress) E) (C : Table) (old new : Decoder)
    (octets : List ℕ) (a b : OutLog) → IsErr r →
    ((T : Ty) (coding : Coding) (at message : ℕ) (root : Root) (s : List ℕ) →
    Reads C T coding at message root old s → BreaksOff T coding at message root s octets a b) →
    TakesSome C old new octets a b r
broken (Ok v) C old new octets a b e h = absurd (false≢true e)
broken (Err v) C old new octets a b e h = search (arith)

near_within : {E : Type 0} (r : Result (ℕ × Progress) E) (near octets : List ℕ) →
    near ≡ take (length near) octets → IfOk r (λ taken. taken.0 ≤ length near) →
    IfOk r (λ taken. taken.0 ≤ length octets)
near_within (Ok v) near octets e h =
    let all = ap length (take-append-drop (length near) octets) in
    let both = length-append (take (length near) octets) (drop (length near) octets) in
    omega (arith, all, both, ap length e, h)
near_within (Err v) near octets e h = tt

-- what is taken of the first octets is taken of all octets
pub near_some : {E : Type 0} (r : Result (ℕ × Progress) E) (C : Table) (old new : Decoder)
    (near octets : List ℕ) (a b : OutLog) → near ≡ take (length near) octets →
    TakesSome C old new near a b r → TakesSome C old new octets a b r
near_some r C old new near octets a b e h = search (arith, writes_near, takes_near, near_within)

module _ (C : Table) (old mid : Decoder) (octets : List ℕ) (n : ℕ) (a b : OutLog)
    (h : HasTakenFirst C old mid octets n a b) where
  pub takes_so_far : (T : Ty) (coding : Coding) (at message : ℕ) (root : Root) (s : List ℕ) →
      Reads C T coding at message root old s →
      TakesRun C T coding at message root mid s (take n octets) progress.More
  takes_so_far T coding at message root s r =
      let now = h.reads T coding at message root s r in
      record {
        answers = h.answers T coding at message root s r;
        reads = λ unfaulty. now;
        keeps_noted = now.keeps_noted;
      }

  pub taken_some : {E : Type 0} → 0 < n → TakesSome {E = E} C old mid octets a b
      (Ok (n, progress.More))
  taken_some some =
      record {
        writes = h.text;
        takes = takes_so_far;
        within = h.within;
        some = some;
        fits = λ goes_on. h.fits;
        done = λ is. cc;
      }

  -- ---- and then a run

  module _ (new : Decoder) (c : OutLog) where
    pub then_some : {E : Type 0} (m : ℕ) (p : Progress) →
        TakesSome {E = E} C mid new (drop n octets) b c (Ok (m, p)) →
        TakesSome {E = E} C old new octets a c (Ok (n + m, p))
    then_some m p t =
        record {
          writes = λ T coding at message root s r.
              rw (
                take-add n m octets,
                text_both message root coding T at s (take n octets)
                    (take m (drop n octets)),
              )
              (wrote-append a b c _ _ (h.text T coding at message root s r)
              (t.writes T coding at message root (s ++ take n octets)
              (h.reads T coding at message root s r)));
          takes = λ T coding at message root s r.
              rw (take-add n m octets)
              (takes_both C T coding at message root new s (take n octets) (take m (drop n octets))
              p
              (h.answers T coding at message root s r)
              (t.takes T coding at message root (s ++ take n octets)
              (h.reads T coding at message root s r)));
          within = let all = length-drop n octets in omega (arith, all, t.within, h.within);
          some = let one = t.some in omega (arith, one);
          fits = t.fits;
          done = t.done;
        }

    pub then_fails : {E : Type 0} (r : Result (ℕ × Progress) E) → IsErr r →
        TakesSome C mid new (drop n octets) b c r → TakesSome C old new octets a c r
    then_fails (Ok v) is t = absurd (false≢true is)
    then_fails (Err e) is t = broken (Err e) C old new octets a c is
        (λ T coding at message root s k.
        subst (λ xs. BreaksOff T coding at message root s xs a c) (take-append-drop n octets)
        (breaks_both T coding at message root s (take n octets) (drop n octets) a b c
        (h.answers T coding at message root s k) (h.text T coding at message root s k)
        (t.writes T coding at message root (s ++ take n octets)
        (h.reads T coding at message root s k))))

    pub then_broken : {E : Type 0} (r : Result (ℕ × Progress) E) (e : E) → IsErr r →
        TakesSome {E = E} C mid new (drop n octets) b c (Err e) → TakesSome C old new octets a c r
    then_broken r e is t = search (arith, then_fails, broken, drop)

    -- ---- and then one octet

    pub then_one : {E : Type 0} (p : Progress) → n < length octets →
        TakesNextOctet C old new octets n p →
        NextLinesSatisfy C old octets n (Wrote b c) → (GoesOn p → Fits C new) →
        (p ≡ progress.Done → IsDone new) →
        TakesSome {E = E} C old new octets a c (Ok (n + 1, p))
    then_one p below takes says fits done =
        record {
          writes = λ T coding at message root s r.
              rw (text_more message root coding T at s octets n below)
              (wrote-append a b c _ _ (h.text T coding at message root s r)
              (says T coding at message root s r));
          takes = λ T coding at message root s r.
              takes_more C T coding at message root new s octets n p below
              (h.answers T coding at message root s r)
              (takes T coding at message root s r);
          within = omega (arith, below);
          some = omega arith;
          fits = fits;
          done = done;
        }

    pub then_one_broken : {E : Type 0} (r : Result (ℕ × Progress) E) → IsErr r → n < length octets →
        NextLinesSatisfy C old octets n (WroteFront b c) → TakesSome C old new octets a c r
    then_one_broken r is below says = broken r C old new octets a c is
        (λ T coding at message root s k.
        breaks_off T coding at message root s octets n a b c below
        (h.answers T coding at message root s k)
        (h.text T coding at message root s k) (says T coding at message root s k))

-- a run after which the value goes on is what has been taken so far
pub so_far : {E : Type 0} (C : Table) (old new : Decoder) (octets : List ℕ) (n : ℕ) (p : Progress)
    (a b : OutLog) → p ≡ progress.More → TakesSome {E = E} C old new octets a b (Ok (n, p)) →
    HasTakenFirst C old new octets n a b
so_far C old new octets n p a b e t =
    record {
      within = t.within;
      fits = t.fits (rw e tt);
      reads = λ T coding at message root s r. (t.takes T coding at message root s r).reads
          (rw e (λ fault. fault));
      answers = λ T coding at message root s r. rw e at
          (t.takes T coding at message root s r).answers;
      text = t.writes;
    }
