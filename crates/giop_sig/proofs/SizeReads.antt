-- Reading the spelling of a length or a bound gives it, or a rule that it breaks.
use Rattle.std.proofs.Common.{◌≡◌, ℕ, ◌^◌, ◌<◌, Bool, true, false, cond, eqb, ltb, List, ◌∷◌, Option, Some, None, Ok, Err, refl, arith}
use Rattle.std.proofs.lemmas.Bool.{eqb-true, eqb-false, ltb-true, ltb-false}
use Rattle.giop_tokens.specs.declared.fault.SigFaultKind.TheVariants as kinds
use Rattle.giop_tokens.specs.declared.marks.Mark.{Mark}
use Rattle.giop_tokens.specs.declared.marks.Mark.TheVariants as marks
use Rattle.giop_tokens.specs.Tokens.{Token, number, mark, AreTokens}
use Rattle.giop_tokens.specs.Reading.{◌>>=◌}
use Rattle.giop_tokens.specs.Readers.{mark_at}
use Rattle.giop_tokens.proofs.ReaderLaws.{number_again, mark_again, mark_if_again}
use Rattle.giop_sig.specs.Table.{Node}
use Rattle.giop_sig.specs.Grammar.{spell_between, spell_most}
use Rattle.giop_sig.specs.Validity.{FaultKind, OfSize, OfBound}
use Rattle.giop_sig.specs.Outcomes.{refused}
use Rattle.giop_sig.specs.TypeReading.{size_at, enclosed_size_at, comma_size_at}
use Rattle.giop_sig.proofs.AddTypeLaws.{within_same}
use Rattle.giop_sig.proofs.ReadingLaws.{IsMadeOrBreaksRule, good, broken, out_bind, BeginsWithoutMark, if_apart}

size_keeps : (n : ℕ) → 0 < n → n < 2 ^ 32 → (k : FaultKind) → OfSize k n
size_keeps n some fits kinds.Limit = fits
size_keeps n some fits kinds.Empty = some
size_keeps n some fits _ = tt

size_by : (types : List Node) (text rest : List ℕ) (n : ℕ) (more : List Token) (a b : Bool)
    → eqb n 0 ≡ a → ltb 4294967295 n ≡ b → AreTokens rest more
    → IsMadeOrBreaksRule {X = ℕ × List ℕ} (λ rest. (n, rest)) (λ k. OfSize k n) types more
    (cond a (Err (refused kinds.Empty text))
    (cond b (Err (refused kinds.Limit text)) (Ok (n, rest))))
size_by types text rest n more true b p q m = search (arith, broken, eqb-true)
size_by types text rest n more false true p q m = search (arith, broken, ltb-true)
size_by types text rest n more false false p q m = search (
  arith,
  good,
  size_keeps,
  eqb-false,
  ltb-false,
)

size_reads : (types : List Node) (text : List ℕ) (n : ℕ) (more : List Token)
    → AreTokens text (number n ∷ more)
    → IsMadeOrBreaksRule {X = ℕ × List ℕ} (λ rest. (n, rest)) (λ k. OfSize k n) types more
    (size_at text)
unfolding size_at
size_reads types text n more h = rw (number_again text n more h)
    (size_by types text h.0 n more (eqb n 0) (ltb 4294967295 n) refl refl h.2)

pub some_reads : (types : List Node) (before close : Mark) (text : List ℕ) (n : ℕ)
    (more : List Token) → AreTokens text (spell_between before close (Some n) more)
    → IsMadeOrBreaksRule {X = Option ℕ × List ℕ} (λ rest. (Some n, rest)) (λ k. OfSize k n) types
    more
    (enclosed_size_at before close text)
unfolding enclosed_size_at
some_reads types before close text n more h =
    rw (mark_if_again before text (number n ∷ mark close ∷ more) h)
    (out_bind (size_at h.0) (λ n. mark_at close n.1 >>= λ r. Ok (Some n.0, r))
    (size_reads types h.0 n (mark close ∷ more) h.2)
    (λ rest m keeps. rw (mark_again close rest more m) (good m.0 m.2 keeps)) (λ k w. w) within_same)

pub enclosed_reads : (types : List Node) (before close : Mark) (text : List ℕ) (o : Option ℕ)
    (more : List Token) → BeginsWithoutMark before more → AreTokens text
    (spell_between before close o more)
    → IsMadeOrBreaksRule {X = Option ℕ × List ℕ} (λ rest. (o, rest)) (λ k. OfBound k o) types more
    (enclosed_size_at before close text)
unfolding enclosed_size_at
enclosed_reads types before close text None more apart h =
    rw (if_apart before text more apart h) (good text h (λ k. tt))
enclosed_reads types before close text (Some n) more apart h =
    some_reads types before close text n more h

pub most_reads : (types : List Node) (text : List ℕ) (o : Option ℕ) (more : List Token)
    → BeginsWithoutMark marks.Comma more → AreTokens text (spell_most o more)
    → IsMadeOrBreaksRule {X = Option ℕ × List ℕ} (λ rest. (o, rest)) (λ k. OfBound k o) types more
    (comma_size_at text)
unfolding comma_size_at
most_reads types text None more apart h =
    rw (if_apart marks.Comma text more apart h) (good text h (λ k. tt))
most_reads types text (Some n) more apart h =
    rw (mark_if_again marks.Comma text (number n ∷ more) h)
    (out_bind (size_at h.0) (λ n. Ok (Some n.0, n.1)) (size_reads types h.0 n more h.2)
    (λ rest m keeps. good rest m keeps) (λ k w. w) within_same)
