-- What is asked for with a request id, one entry after another.
use Rattle.std.proofs.Common.{arith, ◌≡◌, ℕ, Bool, true, false, cond, ◌&&◌, eqb, nat_eq, List, [], ◌∷◌, ◌++◌, Option, Some, None, refl, sym, ap, ◌∙◌}
use Rattle.std.specs.Map.{lookup}
use Rattle.std.specs.Option.{option_map}
use Rattle.std.proofs.lemmas.Bool.{eqb-true, eqb-false, ne_eqb, eq-eqb}
use Rattle.std.proofs.lemmas.List.{append-nil}
use Rattle.std.proofs.lemmas.List.Folds.{list_all-append}
use Rattle.giop_sig.specs.declared.requests.Words.{Words}
use Rattle.giop_sig.specs.RequestList.{Asked, Entry, asked_of, same_asked, common_asked, merged_asked}
use Rattle.giop_sig.specs.RequestViews.{words_view}

-- what is kept for an id, from what its entries ask for
abbrev pub kept_of_asked : (others : List Asked) → Option (Option Asked)
kept_of_asked [] = None
kept_of_asked (a ∷ others) = Some (common_asked (a ∷ others))

asked_one : (e : Entry) (q : ℕ) (v : Bool) → eqb q e.id ≡ v
    → asked_of (e ∷ []) q ≡ cond (eqb q e.id) (e.asked ∷ []) []
asked_one e q true h = rw h refl
asked_one e q false h = rw h refl

asked_cons : (f : Entry) (es : List Entry) (e : Entry) (q : ℕ) (v : Bool) → eqb q f.id ≡ v
    → asked_of (es ++ e ∷ []) q ≡ asked_of es q ++ cond (eqb q e.id) (e.asked ∷ []) []
    → asked_of (f ∷ (es ++ e ∷ [])) q ≡ asked_of (f ∷ es) q ++ cond (eqb q e.id) (e.asked ∷ []) []
asked_cons f es e q true h rest = search (arith)
asked_cons f es e q false h rest = rw h rest

asked_more : (es : List Entry) (e : Entry) (q : ℕ)
    → asked_of (es ++ e ∷ []) q ≡ asked_of es q ++ cond (eqb q e.id) (e.asked ∷ []) []
asked_more [] e q = search (arith, asked_one, eqb)
asked_more (f ∷ es) e q = search (arith, asked_cons, eqb, asked_more es e q)

joined_by : (all : Bool) (b a : Asked) (v : Bool) → same_asked b a ≡ v
    → Some (cond (all && (same_asked b a && true)) (Some b) None)
    ≡ Some (merged_asked (Some (cond all (Some b) None)) a)
joined_by true b a true e = rw e refl
joined_by true b a false e = rw e refl
joined_by false b a v e = refl

joined_more : (others : List Asked) (a : Asked)
    → kept_of_asked (others ++ a ∷ []) ≡ Some (merged_asked (kept_of_asked others) a)
joined_more [] a = refl
joined_more (b ∷ bs) a =
    ap (λ (v : Bool). Some (cond v (Some b) None)) (list_all-append (same_asked b) bs (a ∷ []))
    ∙ joined_by _ b a (same_asked b a) refl

kept_more_by : (es : List Entry) (e : Entry) (q : ℕ) (v : Bool) → eqb e.id q ≡ v
    → kept_of_asked (asked_of es q ++ cond (eqb q e.id) (e.asked ∷ []) [])
    ≡ cond (eqb e.id q) (Some (merged_asked (kept_of_asked (asked_of es e.id)) e.asked))
    (kept_of_asked (asked_of es q))
kept_more_by es e q true h = search (arith, eqb-true, eq-eqb, joined_more)
kept_more_by es e q false h = search (arith, ne_eqb, eqb-false, append-nil)

kept_more : (es : List Entry) (e : Entry) (q : ℕ)
    → kept_of_asked (asked_of (es ++ e ∷ []) q)
    ≡ cond (eqb e.id q) (Some (merged_asked (kept_of_asked (asked_of es e.id)) e.asked))
    (kept_of_asked (asked_of es q))
kept_more es e q = search (arith, asked_more, kept_more_by, eqb)

-- what is kept, as contracts see it
abbrev pub kept_view : (kept : Option (Option Words)) → Option (Option Asked)
kept_view o = option_map (option_map words_view) o

seen_cond : (v : Bool) (w : Option Words) (o : Option (Option Words))
    → kept_view (cond v (Some w) o) ≡ cond v (Some (option_map words_view w)) (kept_view o)
seen_cond true w o = refl
seen_cond false w o = refl

-- the map of the entries so far, after one more
pub kept_step : (es : List Entry) (e : Entry) (old new : List (ℕ × Option Words)) (w : Option Words)
    → option_map words_view w ≡ merged_asked (kept_view (lookup (nat_eq e.id) old)) e.asked
    → ((q : ℕ) → kept_view (lookup (nat_eq q) old) ≡ kept_of_asked (asked_of es q))
    → ((q : ℕ) → lookup (nat_eq q) new ≡ cond (eqb e.id q) (Some w) (lookup (nat_eq q) old))
    → (q : ℕ) → kept_view (lookup (nat_eq q) new) ≡ kept_of_asked (asked_of (es ++ e ∷ []) q)
kept_step es e old new w is before after q =
    ap kept_view (after q) ∙ seen_cond (eqb e.id q) w (lookup (nat_eq q) old)
    ∙ ap (λ (o : Option Asked). cond (eqb e.id q) (Some o) (kept_view (lookup (nat_eq q) old)))
    (is ∙ ap (λ (o : Option (Option Asked)). merged_asked o e.asked) (before e.id))
    ∙ ap (cond (eqb e.id q) (Some (merged_asked (kept_of_asked (asked_of es e.id)) e.asked)))
    (before q)
    ∙ sym (kept_more es e q)
