-- What a call does to the message to which octets belong, if it is known which of that message's
-- octets it took.
use Rattle.std.proofs.Common.{◌≡◌, Result, Ok, Err, IsErr, ℕ, ◌<◌, ◌≤◌, ◌⊎◌, inl, inr, Bool, true, false, List, [], ◌++◌, length, take, Option, Some, None, refl, sym, ap, subst, ◌∙◌, take_all, arith}
use Rattle.std.specs.Prelude.{IfOk}
use Rattle.std.proofs.lemmas.Bool.{cases_lt, false≢true}
use Rattle.std.proofs.lemmas.List.{take-take}
use Rattle.giop_print.specs.Output.{OutLog, Wrote, WroteFront, Writes}
use Rattle.giop_print.proofs.Writing.{writes_failed}
use Rattle.giop_sig.specs.Table.{Table}
use Rattle.giop_message.specs.declared.message.Message.{Message}
use Rattle.giop_message.specs.Signatures.{Answers}
use Rattle.giop_message.specs.DueOctets.{TakesFront, StaysUndue}
use Rattle.giop_message.specs.HeaderEnds.{HeaderEnd, CallEvent, header_ends, after_ends}
use Rattle.giop_message.specs.Messages.{read_message, stage_of}
use Rattle.giop_message.specs.ReaderOfTable.{is_over}
use Rattle.giop_message.specs.MessageState.{more_lines_text, FaultedAt}
use Rattle.giop_message.proofs.MessageLaws.{ends_over}
use Rattle.giop_stream.specs.Events.{MessageKey}
use Rattle.giop_stream.specs.Lines.{Kept}
use Rattle.giop_stream.specs.SlotsRepresent.{RepresentsMessage}
use Rattle.giop_stream.specs.DoesEffect.{DoesMessageEffect, count_one_if}
use Rattle.giop_stream.specs.PayloadRuns.{run_message_effect}
use Rattle.giop_stream.specs.HeaderEndsOfStream.{run_header_ends}
use Rattle.giop_stream.proofs.SlotSteps.Performing.{does_nothing, failed}
use Rattle.giop_stream.proofs.CodeSteps.Runs.{HoldsOfNewText, MessageFollowsKept, signatures_for, with_more, none_run, given_text, given_on, given_over}

-- if a call failed, nothing is said of its result
pub if_err : {A E : Type 0} (P : A → Type 0) (r : Result A E) → IsErr r → IfOk r P
if_err P (Ok x) e = absurd (false≢true e)
if_err P (Err e) failed = tt

module _ (C : Table) (l : Answers) (w : MessageKey) (before : ℕ) (octets : List ℕ) where
  abbrev Due : (s : Kept) (octets : List ℕ) → List ℕ
  Due s xs = more_lines_text (signatures_for C l w s) w.number before w.header s.octets xs

  abbrev Ends : (s : Kept) → List ℕ → List HeaderEnd
  Ends s = header_ends s.phase w.number w.header s.octets

  -- P holds of whatever is kept of the message, if this message follows it
  abbrev Given : (message : Message) (kept : Option Kept) (P : Kept → Type 0) → Type 0
  Given m o P = (s : Kept) → o ≡ Some s → MessageFollowsKept C l m w s → P s

  -- the message is over
  module _ {E : Type 0} (o : Option Kept) (k : RepresentsMessage C l None w o)
      (Before : (List ℕ → List HeaderEnd) → List ℕ → Type 0) where
    pub over_takes : (a : OutLog) → ((xs : List ℕ) → Before (λ ys. []) xs) →
        TakesFront {E = E} (λ (r : ℕ × Bool). r.0) (Before (run_header_ends w o))
        (λ xs. DoesMessageEffect {E = E} C l (λ (r : ℕ ×
        Bool). count_one_if r.1) (Ok (length octets, false)) a a
        None w
        (run_message_effect C l before w o xs)) (Ok (length octets, false)) octets
    over_takes a f = go o k
      where
        go : (o : Option Kept) → RepresentsMessage C l None w o →
            TakesFront {E = E} (λ (r : ℕ × Bool). r.0) (Before (run_header_ends w o))
            (λ xs. DoesMessageEffect {E = E} C l (λ (r : ℕ ×
            Bool). count_one_if r.1) (Ok (length octets, false))
            a a None w
            (run_message_effect C l before w o xs)) (Ok (length octets, false)) octets
        go (Some s) k = absurd k
        go None k = record {
          n = length octets;
          counted = refl;
          within = omega arith;
          some = λ some. some;
          fronts = λ i few. f (take i octets);
          all = rw (none_run C l w None before (take (length octets) octets) tt)
              (does_nothing _ _ refl tt);
        }

  module _ (m : Message) (a b : OutLog) where
    due_of : (P : List ℕ → Type 0) (s : Kept) (xs : List ℕ) → P (Due s xs) →
        HoldsOfNewText C l P m w (Some s) before xs
    due_of P s xs p z e f = let same : s ≡ z = cc in subst (λ q. P (Due q xs)) same p

    -- a put failed at one of the octets
    pub failed_takes : {A E A' E' : Type 0} (count faults : A → ℕ) (r : Result A E) → IsErr r →
        (message : Option Message) (Before : (List ℕ → List HeaderEnd) → List ℕ → Type 0)
        (count' : A' → ℕ) (r' : Result A' E') (o : Option Kept) →
        RepresentsMessage C l (Some m) w o →
        Given m o (λ s. TakesFront count' (Before (Ends s)) (λ xs. WroteFront a b (Due s xs)) r'
        octets) →
        TakesFront count (Before (run_header_ends w o))
        (λ xs. DoesMessageEffect C l faults r a b message w
        (run_message_effect C l before w o xs)) r octets
    failed_takes count faults r is_err message Before count' r' None k f = absurd k
    failed_takes count faults r is_err message Before count' r' (Some s) k f =
        let t = f s refl k in
        record {
          n = t.n;
          counted = if_err _ r is_err;
          within = t.within;
          some = t.some;
          fronts = t.fronts;
          all = failed r a b is_err (given_text C l (Writes r a b) m w (Some s) before
              (take t.n octets) k
              (due_of (Writes r a b) s (take t.n octets) (writes_failed r a b _ is_err t.all)));
        }

    -- none of the octets faults the message
    pub on_takes : {E : Type 0} (m' : Message) (n : ℕ)
        (Before : (List ℕ → List HeaderEnd) → List ℕ → Type 0) (o : Option Kept) →
        RepresentsMessage C l (Some m) w o →
        Given m o (λ s. TakesFront {E = E} (λ (went : ℕ × Bool). went.0) (Before (Ends s))
        (λ xs. Wrote a b (Due s xs)) (Ok (n, false)) octets) →
        Given m o (λ s. MessageFollowsKept C l m' w (with_more C l s (take n octets))) →
        TakesFront {E = E} (λ (r : ℕ × Bool). r.0) (Before (run_header_ends w o))
        (λ xs. DoesMessageEffect {E = E} C l (λ (r : ℕ × Bool). count_one_if r.1) (Ok (
          n,
          false,
        )) a b (Some m') w
        (run_message_effect C l before w o xs)) (Ok (n, false)) octets
    on_takes m' n Before None k f follows = absurd k
    on_takes m' n Before (Some s) k f follows =
        let t = f s refl k in
        record {
          n = n;
          counted = refl;
          within = omega (arith, t.counted, t.within);
          some = λ some. omega (arith, t.counted, t.some some);
          fronts = λ i few. t.fronts i (omega (arith, t.counted, few));
          all = given_on C l m m' w (Some s) before (take n octets) n a b k
              (due_of (Wrote a b) s (take n octets)
              (subst (λ i. Wrote a b (Due s (take i octets))) (sym t.counted) t.all)) follows;
        }

    -- One of the octets faults the message: then the message takes all of them.
    module _ {St : Type 0} (due : St → Bool) (notified : St → CallEvent → St) (st now : St) where
      module _ (s : Kept) (i : ℕ)
          (found : FaultedAt (signatures_for C l w s) w.header s.octets octets i) where
        over_ends : (k : ℕ) → i ≤ k → Ends s (take k octets) ≡ Ends s (take i octets)
        over_ends k later =
            let same = take-take i k octets later in
            let over = subst (λ z. is_over (stage_of
            (read_message (signatures_for C l w s) w.header (s.octets ++ z))) ≡ true)
            (sym same) found.here in
            ends_over s.phase w.number w.header s.octets (take k octets) i C (l w.number) over ∙ ap
            (Ends s) same

        over_fronts : ((k : ℕ) → k < i → StaysUndue due notified C st (Ends s) (take k octets)) →
            now ≡ after_ends notified C st (Ends s (take i octets)) →
            (due st ≡ false → due now ≡ false) → (k : ℕ) →
            StaysUndue due notified C st (Ends s) (take k octets)
        over_fronts fronts told still k = go (cases_lt k i)
          where
            go : (k < i) ⊎ (i ≤ k) → StaysUndue due notified C st (Ends s) (take k octets)
            go (inl sooner) calm = fronts k sooner calm
            go (inr later) calm = rw (over_ends k later, ← told) (still calm)

      pub fault_told : (n : ℕ) (o : Option Kept) → RepresentsMessage C l (Some m) w o →
          Given m o (λ s. FaultedAt (signatures_for C l w s) w.header s.octets octets n) →
          Given m o (λ s. now ≡ after_ends notified C st (Ends s (take n octets))) →
          now ≡ after_ends notified C st (run_header_ends w o (take (length octets) octets))
      fault_told n None k found told = absurd k
      fault_told n (Some s) k found told =
          rw (over_ends s n (found s refl k) (length octets) (found s refl k).within)
          (told s refl k)

      pub fault_takes : {E : Type 0} (n : ℕ) (o : Option Kept) →
          RepresentsMessage C l (Some m) w o →
          Given m o (λ s. TakesFront {E = E} (λ (went : ℕ × Bool). went.0) (StaysUndue due
          notified C st (Ends s))
          (λ xs. Wrote a b (Due s xs)) (Ok (n, true)) octets) →
          Given m o (λ s. FaultedAt (signatures_for C l w s) w.header s.octets octets n) →
          Given m o (λ s. now ≡ after_ends notified C st (Ends s (take n octets))) →
          (due st ≡ false → due now ≡ false) →
          TakesFront {E = E} (λ (r : ℕ × Bool). r.0) (StaysUndue due notified C st
          (run_header_ends w o))
          (λ xs. DoesMessageEffect {E = E} C l (λ (r : ℕ ×
          Bool). count_one_if r.1) (Ok (length octets, true)) a
          b None w
          (run_message_effect C l before w o xs)) (Ok (length octets, true)) octets
      fault_takes n None k f found told still = absurd k
      fault_takes n (Some s) k f found told still =
          let t = f s refl k in
          let all = take_all (length octets) octets (omega arith) in
          record {
            n = length octets;
            counted = refl;
            within = omega arith;
            some = λ some. some;
            fronts = λ i few. over_fronts s n (found s refl k)
                (λ j less. t.fronts j (omega (arith, t.counted, less))) (told s refl k) still i;
            all = rw all (given_over C l m w (Some s) before octets n (length octets) a b k
                (due_of (Wrote a b) s (take n octets)
                (subst (λ i. Wrote a b (Due s (take i octets))) (sym t.counted) t.all)) found);
          }
