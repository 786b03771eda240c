-- What is told of the first octets of a piece, if it is known what is told of the payload's octets
-- at the front of the piece.
use Rattle.std.proofs.Common.{◌≡◌, ℕ, zero, suc, ◌+◌, ◌-◌, ◌^◌, ◌<◌, ◌≤◌, Bool, true, false, List, [], ◌∷◌, ◌++◌, length, get_or, take, take-add, drop, append-nil, append_assoc, refl, sym, ap, subst, ◌∙◌, arith, None, Result}
use Rattle.std.specs.Prelude.{IfOk}
use Rattle.std.proofs.lemmas.Bool.{le-ltb}
use Rattle.std.proofs.lemmas.List.{length_push, length-take-le, take-append-drop, take-take}
use Rattle.giop_sig.specs.Table.{Table}
use Rattle.giop_message.specs.Headers.{size}
use Rattle.giop_message.specs.Signatures.{Answer, Answers}
use Rattle.giop_message.specs.DueOctets.{TakesFront, StaysUndue}
use Rattle.giop_message.specs.HeaderEnds.{CallEvent, AgreesAtEnds}
use Rattle.giop_stream.specs.Rules.{Rules, rules_by}
use Rattle.giop_stream.specs.Framing.{cut, messages}
use Rattle.giop_stream.specs.DueOctets.{begins_in}
use Rattle.giop_stream.specs.HeaderEndsOfStream.{current_header_ends, header_ends_from}
use Rattle.giop_stream.specs.EngineView.{FramingView}
use Rattle.giop_stream.specs.EngineState.{State}
use Rattle.giop_stream.specs.ViewOfState.{IsReached, Shows}
use Rattle.giop_stream.proofs.Cuts.MessagesGrow.{messages_grow}
use Rattle.giop_stream.proofs.CodeSteps.MessageOctets.{has_current}
use Rattle.giop_stream.proofs.CodeSteps.PayloadRunSteps.{begins, within_less, none_begin, octets_are}
use Rattle.giop_stream.proofs.CodeSteps.HeaderEndSteps.{AreWithoutEvents, untold_front, agrees_front, from_append, told_run}

-- the first octet of octets
pub first_alone : (octets : List ℕ) → 0 < length octets → take 1 octets ≡ get_or octets 0 0 ∷ []
first_alone [] some = absurd (omega arith)
first_alone (x ∷ xs) some = refl

-- if the answers agree over octets, they agree over the first n of them
pub front_agrees : {St : Type 0} (answer : St → Answer) (notified : St → CallEvent → St)
    (C : Table) (a : Answers) (st : St) (R : Rules) (p octets : List ℕ) (n : ℕ) →
    AgreesAtEnds answer notified C st a (header_ends_from R p octets) →
    AgreesAtEnds answer notified C st a (header_ends_from R p (take n octets))
front_agrees answer notified C a st R p octets n agrees =
    agrees_front answer notified C a st (header_ends_from R p octets)
    (header_ends_from R p (take n octets)) (header_ends_from R (p ++ take n octets) (drop n octets))
    (ap (header_ends_from R p) (sym (take-append-drop n octets))
    ∙ from_append R (take n octets) p (drop n octets)) agrees

-- if nothing is told of octets, nothing is told of a front of them
pub front_untold : (C : Table) (R : Rules) (p octets : List ℕ) (n : ℕ) →
    AreWithoutEvents C (header_ends_from R p octets) → AreWithoutEvents C (header_ends_from R p
    (take n octets))
front_untold C R p octets n untold =
    untold_front C (header_ends_from R p (take n octets))
    (header_ends_from R (p ++ take n octets) (drop n octets))
    (subst (AreWithoutEvents C) (ap (header_ends_from R p) (sym (take-append-drop n octets))
    ∙ from_append R (take n octets) p (drop n octets)) untold)

-- ---- no message begins

-- no message begins in octets after which no more messages have begun
pub none_in : (p xs : List ℕ) → length (messages (cut (p ++ xs))) ≡ length (messages (cut p)) →
    begins_in p xs ≡ false
none_in p xs same = le-ltb (length (messages (cut p))) (length (messages (cut (p ++ xs))))
    (omega (arith, same))

-- no message begins in a front of such octets
pub none_before : (p octets : List ℕ) (k n : ℕ) → k ≤ n →
    length (messages (cut (p ++ take n octets))) ≡ length (messages (cut p)) →
    begins_in p (take k octets) ≡ false
none_before p octets k n less same =
    let parts : p ++ take n octets ≡ (p ++ take k octets) ++ take (n - k) (drop k octets) =
    ap (λ i. p ++ take i octets) (omega (arith, less))
    ∙ (ap (λ z. p ++ z) (take-add k (n - k) octets) ∙ sym (append_assoc p _ _)) in
    none_in p (take k octets) (omega (
      arith,
      same,
      ap (λ z. length (messages (cut z))) parts,
      messages_grow (take (n - k) (drop k octets)) (p ++ take k octets),
      messages_grow (take k octets) p,
    ))

-- ---- one octet

pub one_takes : {St : Type 0} (due : St → Bool) (notified : St → CallEvent → St) (C : Table)
    (st : St) (awaits : Bool) (R : Rules) (p octets : List ℕ) {E : Type 0}
    (reached : List ℕ → Type 0) (res : Result ℕ E) → 0 < length octets → IfOk res (λ n. n ≡ 1) →
    reached (take 1 octets) →
    TakesFront (λ n. n) (λ xs. StaysUndue due notified C st (header_ends_from R p) xs
    × (awaits ≡ true → begins_in p xs ≡ false)) reached res octets
unfolding header_ends_from
one_takes due notified C st awaits R p octets reached res some counted all = record {
  n = 1;
  counted = counted;
  within = some;
  some = λ _. omega arith;
  fronts = λ k few. let none : k ≡ 0 = omega (arith, few) in rw none (
    λ calm. calm,
    λ awaited. none_in p [] (ap (λ z. length (messages (cut z))) (append-nil p)),
  );
  all = all;
}

-- ---- octets of a payload

module _ (C : Table) (a : Answers) (most : ℕ) (s : State) (r : IsReached C a most s)
    (m : FramingView) (h : Shows C a m s) (free : m.stopped ≡ None)
    (full : length m.header ≡ 12) (octets : List ℕ) (run : ℕ) (within : run ≤ length octets)
    (apart : m.payload_count < 4 → m.payload_count + run ≤ 4)
    (few : m.payload_count + run ≤ size m.header)
    (room : m.totals.octets + run ≤ 2 ^ 48) where
  abbrev R : Rules
  R = rules_by C a most

  -- the headers that end in the first k octets of a run of payload octets
  pub run_front : (k : ℕ) → 0 < k → k ≤ run →
      current_header_ends R r.stream (cut r.stream).current (take k (take run octets))
      ≡ header_ends_from R r.stream (take k octets)
  run_front k some less =
      let same = take-take k run octets less in
      let long = length-take-le k octets (omega (arith, less, within)) in
      ap (current_header_ends R r.stream (cut r.stream).current) same
      ∙ told_run C a most s r m h free full (take k octets) (omega (arith, long, some))
      (λ early. omega (arith, long, less, apart early)) (λ more. omega (arith, long, less, few))
      (omega (arith, long, less, room))

  -- no message begins in the first k octets of a run, if k is less than the run's length
  run_begins : (k : ℕ) → k < run → begins_in r.stream (take k octets) ≡ false
  run_begins k less =
      let here = has_current C a most s r m h free full in
      let long = length-take-le run octets within in
      let (q, (x, e)) = octets_are (take run octets) (omega (arith, long, less)) in
      let inside = begins C a most s r m h free here.0 here.1 (take run octets) q x e
      (λ early. omega (arith, long, apart early)) (λ more. omega (arith, long, few))
      (omega (arith, long, room)) in
      let short = length-take-le k octets (omega (arith, less, within)) in
      none_in r.stream (take k octets) (none_begin (take k octets) r.stream here.0
      (within_less r.stream here.0 (length (take k octets)) (length q)
      (omega (arith, short, less, long, ap length e, length_push q x)) inside))

  module _ {St : Type 0} (due : St → Bool) (notified : St → CallEvent → St) (st : St)
      (awaits : Bool) where
    pub run_takes : {A E : Type 0} {count : A → ℕ} {reached : List ℕ → Type 0} {res : Result A E} →
        0 < run → TakesFront count (StaysUndue due notified C st
        (current_header_ends R r.stream (cut r.stream).current)) reached res (take run octets) →
        TakesFront count (λ xs. StaysUndue due notified C st (header_ends_from R r.stream) xs
        × (awaits ≡ true → begins_in r.stream xs ≡ false)) reached res octets
    unfolding header_ends_from
    run_takes {reached = reached} some t =
        let long = length-take-le run octets within in
        record {
          n = t.n;
          counted = t.counted;
          within = omega (arith, t.within, long, within);
          some = λ _. t.some (omega (arith, long, some));
          fronts = λ k less. (
            fronts k less,
            λ awaited. run_begins k (omega (arith, less, t.within, long)),
          );
          all = subst reached (take-take t.n run octets (omega (arith, t.within, long))) t.all;
        }
      where
        fronts : (k : ℕ) → k < t.n →
            StaysUndue due notified C st (header_ends_from R r.stream) (take k octets)
        fronts zero less calm = calm
        fronts (suc k) less calm =
            let long = length-take-le run octets within in
            rw (← run_front (suc k) (omega arith) (omega (arith, less, t.within, long)))
            (t.fronts (suc k) less calm)
