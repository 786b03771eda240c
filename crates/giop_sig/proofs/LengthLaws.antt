-- The lengths of arrays, both ways: reading the spelling of some gives them or a rule that they
-- break, and the text that was read spells them; and the arrays that they add.
use Rattle.std.proofs.Common.{◌≡◌, ℕ, zero, suc, ◌+◌, ◌-◌, ◌<◌, ◌≤◌, Bool, true, false, List, [], ◌∷◌, ◌++◌, length, Option, Some, None, Result, Ok, Err, append_assoc, refl, sym, ap, subst, ◌∙◌, arith}
use Rattle.std.proofs.lemmas.List.{append-nil}
use Rattle.std.proofs.lemmas.Bool.{false≢true}
use Rattle.giop_tokens.specs.declared.fault.TokenError.{TokenError}
use Rattle.giop_tokens.specs.declared.fault.SigFaultKind.TheVariants as kinds
use Rattle.giop_tokens.specs.declared.marks.Mark.TheVariants as marks
use Rattle.giop_tokens.specs.Tokens.{Token, AreTokens}
use Rattle.giop_tokens.specs.Reading.{◌>>=◌}
use Rattle.giop_tokens.proofs.ReaderLaws.{bind_ok, ok_is}
use Rattle.giop_sig.specs.declared.parse_stop.ParseError.{ParseError}
use Rattle.giop_sig.specs.Table.{Node}
use Rattle.giop_sig.specs.Table as nodes
use Rattle.giop_sig.specs.Grammar.{spell_between, spell_lengths}
use Rattle.giop_sig.specs.Scopes.{Names, is_version_3, AddedType, add_array, add_arrays}
use Rattle.giop_sig.specs.Validity.{FaultKind, OfSizes, OfLengths}
use Rattle.giop_sig.specs.Outcomes.{StopsAsRead}
use Rattle.giop_sig.specs.TypeReading.{enclosed_size_at}
use Rattle.giop_sig.specs.ItemReading.{LengthsRead, with_outer_length, lengths_after, lengths_at, most_lengths}
use Rattle.giop_sig.proofs.AddTypeLaws.{within_same}
use Rattle.giop_sig.proofs.ReadingLaws.{IsMadeOrBreaksRule, good, out_bind, out_more, BeginsWithoutMark, SpellsUpTo}
use Rattle.giop_sig.proofs.SizeReads.{some_reads, enclosed_reads}
use Rattle.giop_sig.proofs.SizeTaken.{enclosed_takes}
use Rattle.giop_sig.proofs.TypeTaken.{AddsOnlyTypes, grows_none, grows_on, IsKnownInScope, sound_node, node_grows}
use Rattle.giop_sig.proofs.TypeLaws.{third_keeps}
use Rattle.giop_sig.proofs.RepeatLaws.{stops_on}
use Rattle.giop_sig.proofs.TokensFew.{tokens_few}

-- ---- how many there may be

lengths_keep : (names : Names) (ns : List ℕ) → OfLengths kinds.Syntax names ns → (k : FaultKind)
    → OfSizes k ns → OfLengths k names ns
lengths_keep names [] free k w = tt
lengths_keep names (n ∷ []) free k w = (tt, w)
lengths_keep names (m ∷ n ∷ ns) free k w = (third_keeps names free.0 k, w)

lengths_sized : (names : Names) (ns : List ℕ) (k : FaultKind) → OfLengths k names ns → OfSizes k ns
lengths_sized names [] k w = tt
lengths_sized names (n ∷ ns) k w = w.1

spelled_more : (ns : List ℕ) (more : List Token) → length ns ≤ length (spell_lengths ns more)
spelled_more [] more = omega arith
spelled_more (n ∷ ns) more = omega (arith, spelled_more ns more)

lengths_fit : (names : Names) (third : Bool) (ns text : List ℕ) (more : List Token)
    → is_version_3 names ≡ third → OfLengths kinds.Syntax names ns
    → AreTokens text (spell_lengths ns more) → length ns ≤ most_lengths third text
lengths_fit names true ns text more e free h =
    omega (arith, spelled_more ns more, tokens_few (spell_lengths ns more) text h)
lengths_fit names false [] text more e free h = omega arith
lengths_fit names false (n ∷ []) text more e free h = omega arith
lengths_fit names false (m ∷ n ∷ ns) text more e free h = absurd (false≢true (sym e ∙ free.0))

-- the rule about reserved words asks nothing of sizes
sizes_free : (ns : List ℕ) → OfSizes kinds.Syntax ns
sizes_free [] = tt
sizes_free (n ∷ ns) = (tt, sizes_free ns)

lengths_free : (names : Names) (third : Bool) (ns text : List ℕ) → is_version_3 names ≡ third
    → length ns ≤ most_lengths third text → OfLengths kinds.Syntax names ns
lengths_free names third [] text e le = tt
lengths_free names third (n ∷ []) text e le = (tt, sizes_free (n ∷ []))
lengths_free names true (m ∷ n ∷ ns) text e le = (e, sizes_free (m ∷ n ∷ ns))
lengths_free names false (m ∷ n ∷ ns) text e le = absurd (omega arith)

-- ---- reading the spelling of lengths

up_to_reads : (types : List Node) (ns : List ℕ) (most : ℕ) (text : List ℕ) (more : List Token)
    → length ns ≤ most → BeginsWithoutMark marks.OpenBracket more → AreTokens text
    (spell_lengths ns more)
    → IsMadeOrBreaksRule {X = LengthsRead} (λ rest. (ns, rest)) (λ k. OfSizes k ns) types more
    (lengths_at most text)
unfolding lengths_at
up_to_reads types [] zero text more le apart h = good text h (λ k. tt)
up_to_reads types [] (suc most) text more le apart h =
    out_bind (enclosed_size_at marks.OpenBracket marks.CloseBracket text)
    (lengths_after (lengths_at most))
    (enclosed_reads types marks.OpenBracket marks.CloseBracket text None more apart h)
    (λ rest m keeps. good rest m (λ k. tt)) (λ k w. tt) within_same
up_to_reads types (n ∷ ns) zero text more le apart h = absurd (omega arith)
up_to_reads types (n ∷ ns) (suc most) text more le apart h =
    out_bind (enclosed_size_at marks.OpenBracket marks.CloseBracket text)
    (lengths_after (lengths_at most))
    (some_reads types marks.OpenBracket marks.CloseBracket text n (spell_lengths ns more) h)
    (λ a ta ka.
    out_bind (lengths_at most a) (λ ls. Ok (with_outer_length n ls))
    (up_to_reads types ns most a more (omega arith) apart ta)
    (λ b tb kb. good b tb (λ k. (ka k, kb k))) (λ k w. w.1) within_same)
    (λ k w. w.0) within_same

pub lengths_reads : (types : List Node) (names : Names) (ns text : List ℕ) (more : List Token)
    → OfLengths kinds.Syntax names ns → BeginsWithoutMark marks.OpenBracket more
    → AreTokens text (spell_lengths ns more)
    → IsMadeOrBreaksRule {X = LengthsRead} (λ rest. (ns, rest)) (λ k. OfLengths k names ns) types
    more
    (lengths_at (most_lengths (is_version_3 names) text) text)
lengths_reads types names ns text more free apart h =
    out_more (up_to_reads types ns (most_lengths (is_version_3 names) text) text more
    (lengths_fit names (is_version_3 names) ns text more refl free h) apart h)
    (lengths_keep names ns free) (lengths_sized names ns)

-- ---- lengths that were read

record UpToTaken (most : ℕ) (text : List ℕ) (x : LengthsRead) : Type 0 where
  pub few : length x.0 ≤ most
  pub took : SpellsUpTo (spell_lengths x.0) (Unit {0}) text x.1

one_taken : (most : ℕ) (text : List ℕ) (l : Option ℕ × List ℕ) (x : LengthsRead)
    → SpellsUpTo (spell_between marks.OpenBracket marks.CloseBracket l.0) (Unit {0}) text l.1
    → lengths_after (lengths_at most) l ≡ Ok x
    → ((rest : List ℕ) (y : LengthsRead) → lengths_at most rest ≡ Ok y → UpToTaken most rest y)
    → UpToTaken (suc most) text x
one_taken most text (None, rest) x t e on =
    subst (UpToTaken (suc most) text) (ok_is ([], rest) x e)
    (record { few = omega arith; took = t })
one_taken most text (Some n, rest) x t e on =
    let ls = bind_ok (lengths_at most rest) (λ ls. Ok (with_outer_length n ls)) x e in
    let k = on rest ls.0 ls.1 in
    subst (UpToTaken (suc most) text) (ok_is (with_outer_length n ls.0) x ls.2)
    (record {
      few = let f = k.few in omega arith;
      took = record {
        free = tt;
        front = λ more m. t.front (spell_lengths (ls.0).0 more) (k.took.front more m);
      };
    })

up_to_takes : (most : ℕ) (text : List ℕ) (x : LengthsRead) → lengths_at most text ≡ Ok x
    → UpToTaken most text x
unfolding lengths_at
up_to_takes zero text x e =
    subst (UpToTaken zero text) (ok_is ([], text) x e)
    (record { few = omega arith; took = record { free = tt; front = λ more m. m } })
up_to_takes (suc most) text x e =
    let l = bind_ok (enclosed_size_at marks.OpenBracket marks.CloseBracket text)
    (lengths_after (lengths_at most)) x e in
    one_taken most text l.0 x (enclosed_takes marks.OpenBracket marks.CloseBracket text l.0 l.1) l.2
    (up_to_takes most)

pub lengths_takes : (names : Names) (text : List ℕ) (x : LengthsRead)
    → lengths_at (most_lengths (is_version_3 names) text) text ≡ Ok x
    → SpellsUpTo (spell_lengths x.0) (OfLengths kinds.Syntax names x.0) text x.1
lengths_takes names text x e =
    let t = up_to_takes (most_lengths (is_version_3 names) text) text x e in
    record {
      free = lengths_free names (is_version_3 names) x.0 text refl t.few;
      front = t.took.front;
    }

-- ---- the loop that reads them

-- lengths after others
abbrev pub lengths_after_these : (ns : List ℕ) (lengths : LengthsRead)
    → Result LengthsRead TokenError
lengths_after_these ns ls = Ok (ns ++ ls.0, ls.1)

one_behind : (ns : List ℕ) (n : ℕ) (r : Result LengthsRead TokenError)
    → ((r >>= λ ls. Ok (with_outer_length n ls)) >>= lengths_after_these ns)
    ≡ (r >>= lengths_after_these (ns ++ n ∷ []))
one_behind ns n (Ok ls) = ap (λ xs. Ok (xs, ls.1)) (sym (append_assoc ns (n ∷ []) ls.0))
one_behind ns n (Err e) = refl

module _ (most i : ℕ) (ns text : List ℕ) (total : Result LengthsRead TokenError)
    (so_far : (lengths_at (most - i) text >>= lengths_after_these ns) ≡ total) where
  one_more : i < most
      → ((enclosed_size_at marks.OpenBracket marks.CloseBracket text
      >>= lengths_after (lengths_at (most - (i + 1)))) >>= lengths_after_these ns) ≡ total
  unfolding lengths_at
  one_more lt =
      let k : most - i ≡ suc (most - (i + 1)) = omega arith in
      sym (ap (λ n. lengths_at n text >>= lengths_after_these ns) k) ∙ so_far

  pub lengths_on : i < most → (n : ℕ) (rest : List ℕ)
      → enclosed_size_at marks.OpenBracket marks.CloseBracket text ≡ Ok (Some n, rest)
      → (lengths_at (most - (i + 1)) rest >>= lengths_after_these (ns ++ n ∷ [])) ≡ total
  lengths_on lt n rest e =
      sym (one_behind ns n (lengths_at (most - (i + 1)) rest))
      ∙ ap (λ r. (r >>= lengths_after (lengths_at (most - (i + 1)))) >>= lengths_after_these ns)
      (sym e)
      ∙ one_more lt

  pub lengths_end : i < most → (rest : List ℕ)
      → enclosed_size_at marks.OpenBracket marks.CloseBracket text ≡ Ok (None, rest)
      → total ≡ Ok (ns, rest)
  lengths_end lt rest e =
      sym (one_more lt)
      ∙ ap (λ r. (r >>= lengths_after (lengths_at (most - (i + 1)))) >>= lengths_after_these ns) e
      ∙ ap (λ xs. Ok (xs, rest)) (append-nil ns)

  pub lengths_fail : i < most → (e : ParseError)
      → StopsAsRead e (enclosed_size_at marks.OpenBracket marks.CloseBracket text)
      → StopsAsRead e total
  lengths_fail lt e h =
      subst (StopsAsRead e) (one_more lt) (stops_on e _ (lengths_after_these ns) (stops_on e _ _ h))

  pub lengths_full : most ≤ i → total ≡ Ok (ns, text)
  unfolding lengths_at
  lengths_full le =
      let k : most - i ≡ zero = omega arith in
      sym so_far ∙ ap (λ n. lengths_at n text >>= lengths_after_these ns) k
      ∙ ap (λ xs. Ok (xs, text)) (append-nil ns)

-- ---- the arrays that they add

pub arrays_grow : (ns : List ℕ) (p : AddedType) → AddsOnlyTypes p.0 (add_arrays ns p).0
arrays_grow [] p = grows_none p.0
arrays_grow (n ∷ ns) p =
    let q = add_arrays ns p in
    grows_on p.0 q.0 (add_array n q).0 (arrays_grow ns p) (node_grows q.0 (nodes.array n q.1))

pub arrays_sound : (ns : List ℕ) (p : AddedType) → IsKnownInScope p → IsKnownInScope
    (add_arrays ns p)
arrays_sound [] p is = is
arrays_sound (n ∷ ns) p is =
    let q = add_arrays ns p in
    sound_node q.0 (nodes.array n q.1) (arrays_sound ns p is).scope tt

-- the innermost array is added first
pub arrays_last : (ns : List ℕ) (n : ℕ) (p : AddedType)
    → add_arrays (ns ++ n ∷ []) p ≡ add_arrays ns (add_array n p)
arrays_last [] n p = refl
arrays_last (m ∷ ns) n p = ap (add_array m) (arrays_last ns n p)

pub arrays_on : (ns outer : List ℕ) (n : ℕ) (p q total : AddedType) → ns ≡ outer ++ n ∷ []
    → add_array n p ≡ q → add_arrays ns p ≡ total → add_arrays outer q ≡ total
arrays_on ns outer n p q total is added so_far =
    ap (add_arrays outer) (sym added) ∙ sym (arrays_last outer n p)
    ∙ ap (λ xs. add_arrays xs p) (sym is) ∙ so_far
