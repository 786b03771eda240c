-- A length or a bound that was read: the text that was read spells it.
use Rattle.std.proofs.Common.{arith, ◌≡◌, ℕ, Bool, true, false, cond, eqb, ltb, List, ◌∷◌, Option, Some, None, Ok, Err, subst}
use Rattle.giop_tokens.specs.declared.fault.SigFaultKind.TheVariants as kinds
use Rattle.giop_tokens.specs.declared.marks.Mark.{Mark}
use Rattle.giop_tokens.specs.declared.marks.Mark.TheVariants as marks
use Rattle.giop_tokens.specs.Tokens.{number, mark}
use Rattle.giop_tokens.specs.Reading.{◌>>=◌}
use Rattle.giop_tokens.specs.Readers.{mark_at, mark_if}
use Rattle.giop_tokens.proofs.ReaderLaws.{bind_ok, ok_is, TakesToken, number_takes, mark_takes, mark_if_takes}
use Rattle.giop_sig.specs.Grammar.{spell_between, spell_most}
use Rattle.giop_sig.specs.Validity.{OfBound}
use Rattle.giop_sig.specs.Outcomes.{refused}
use Rattle.giop_sig.specs.TypeReading.{size_at, size_if_opened, enclosed_size_at, size_if_comma, comma_size_at}
use Rattle.giop_sig.proofs.ReadingLaws.{SpellsUpTo}

size_by : (text : List ℕ) (n x : ℕ × List ℕ) (a b : Bool)
    → cond a (Err (refused kinds.Empty text))
    (cond b (Err (refused kinds.Limit text)) (Ok (n.0, n.1))) ≡ Ok x → n ≡ x
size_by text n x true b e = absurd cc
size_by text n x false true e = absurd cc
size_by text n x false false e = ok_is n x e

size_takes : (text : List ℕ) (x : ℕ × List ℕ) → size_at text ≡ Ok x
    → TakesToken text (number x.0) x.1
unfolding size_at
size_takes text x e = search (arith, bind_ok, size_by, eqb, ltb, number_takes)

within_by : (before close : Mark) (text : List ℕ) (o : Option (List ℕ)) (x : Option ℕ × List ℕ)
    → mark_if before text ≡ Ok o → size_if_opened close text o ≡ Ok x
    → SpellsUpTo (spell_between before close x.0) (Unit {0}) text x.1
within_by before close text None x h e = search (arith, ok_is)
within_by before close text (Some inner) x h e =
    let n = bind_ok (size_at inner) (λ n. mark_at close n.1 >>= λ r. Ok (Some n.0, r)) x e in
    let r = bind_ok (mark_at close (n.0).1) (λ r. Ok (Some (n.0).0, r)) x n.2 in
    subst (λ (y : Option ℕ × List ℕ). SpellsUpTo (spell_between before close y.0)
    (Unit {0}) text y.1)
    (ok_is (Some (n.0).0, r.0) x r.2)
    (record {
      free = tt;
      front = λ more m. mark_if_takes before text inner h (number (n.0).0 ∷ mark close ∷ more)
          (size_takes inner n.0 n.1 (mark close ∷ more) (mark_takes close (n.0).1 r.0 r.1 more m));
    })

pub enclosed_takes : (before close : Mark) (text : List ℕ) (x : Option ℕ × List ℕ)
    → enclosed_size_at before close text ≡ Ok x
    → SpellsUpTo (spell_between before close x.0) (Unit {0}) text x.1
unfolding enclosed_size_at
enclosed_takes before close text x e =
    let a = bind_ok (mark_if before text) (λ inner. size_if_opened close text inner) x e in
    within_by before close text a.0 x a.1 a.2

behind_by : (text : List ℕ) (o : Option (List ℕ)) (x : Option ℕ × List ℕ)
    → mark_if marks.Comma text ≡ Ok o → size_if_comma text o ≡ Ok x
    → SpellsUpTo (spell_most x.0) (Unit {0}) text x.1
behind_by text None x h e = search (arith, ok_is)
behind_by text (Some inner) x h e =
    let n = bind_ok (size_at inner) (λ n. Ok (Some n.0, n.1)) x e in
    subst (λ (y : Option ℕ × List ℕ). SpellsUpTo (spell_most y.0) (Unit {0}) text y.1)
    (ok_is (Some (n.0).0, (n.0).1) x n.2)
    (record {
      free = tt;
      front = λ more m.
          mark_if_takes marks.Comma text inner h (number (n.0).0 ∷ more)
          (size_takes inner n.0 n.1 more m);
    })

pub most_takes : (text : List ℕ) (x : Option ℕ × List ℕ) → comma_size_at text ≡ Ok x
    → SpellsUpTo (spell_most x.0) (Unit {0}) text x.1
unfolding comma_size_at
most_takes text x e = search (arith, bind_ok, behind_by)

-- the rule about reserved words asks nothing of sizes
pub bound_free : (o : Option ℕ) → OfBound kinds.Syntax o
bound_free None = tt
bound_free (Some n) = tt
