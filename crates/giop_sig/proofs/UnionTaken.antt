-- The cases of a union that were read: the text that was read spells them, and a union may have
-- them.
use Rattle.std.proofs.Common.{◌≡◌, ℕ, zero, suc, ◌+◌, ◌≤◌, Bool, true, false, cond, ltb, List, [], ◌∷◌, ◌++◌, length, get_or, Option, Some, None, Ok, Err, refl, sym, ap, subst, ◌∙◌, arith}
use Rattle.std.specs.Prelude.{codes}
use Rattle.std.specs.List.{All}
use Rattle.std.specs.Str.{bytes_eq}
use Rattle.std.proofs.lemmas.List.{length-append}
use Rattle.std.proofs.lemmas.List.Elements.{All-push}
use Rattle.std.proofs.lemmas.Slice.Eq.{bytes_eq-Decides}
use Rattle.giop_cdr.specs.declared.number.Number.{Number}
use Rattle.giop_tokens.specs.declared.fault.SigFaultKind.TheVariants as kinds
use Rattle.giop_tokens.specs.declared.marks.Mark.TheVariants as marks
use Rattle.giop_tokens.specs.Tokens.{Token, word, number, negative, mark, next, AreTokens}
use Rattle.giop_tokens.specs.Reading.{◌>>=◌}
use Rattle.giop_tokens.specs.Readers.{misplaced, mark_at, mark_if, keyword_if}
use Rattle.giop_tokens.specs.Names.{is_reserved}
use Rattle.giop_tokens.proofs.ReaderLaws.{bind_ok, ok_is, mark_takes, mark_if_takes, keyword_takes, keyword_if_takes}
use Rattle.giop_sig.specs.declared.types.Selected.{Selected}
use Rattle.giop_sig.specs.declared.types.Selected.TheVariants as selecteds
use Rattle.giop_sig.specs.Table.{Case, Node, IsPart, IsCaseBelow}
use Rattle.giop_sig.specs.Grammar.{Value, Truth, Enumerator, Label, Default, Of, UnionCase, spell_item, spell_value, spell_label, spell_labels, spell_cases}
use Rattle.giop_sig.specs.Scopes.{is_version_3, Scope, labels_of}
use Rattle.giop_sig.specs.Validity.{OfItem, OfValueName, OfLabel, OfLabels, OfCases}
use Rattle.giop_sig.specs.ScopeViews.{IsScope}
use Rattle.giop_sig.specs.Outcomes.{refused}
use Rattle.giop_sig.specs.ItemReading.{ItemRead}
use Rattle.giop_sig.specs.Repeats.{in_steps}
use Rattle.giop_sig.specs.UnionReading.{token_value, value_at, LabelMark, LabelRead, label_fitting, number_of_value, unseen_label, label_after_case, label_at, LabelsRead, with_label, begins_label, label_or_end, labels_step, too_many_labels, labels_by, labels_at, Cases, no_cases, first_default_case, with_case, CasesRead, case_at, case_or_end, cases_step, too_many_cases, cases_at}
use Rattle.giop_sig.proofs.TypeTaken.{AddsOnlyTypes, grows_none, grows_on, grows_known}
use Rattle.giop_sig.proofs.ItemTaken.{TakenItem, item_takes, filled_takes}
use Rattle.giop_sig.proofs.LabelReads.{then_labels}
use Rattle.giop_sig.proofs.UnionLaws.{then_cases}

-- ---- labels

record TakenValue (third : Bool) (text : List ℕ) (x : Value × List ℕ) : Type 0 where
  free : OfValueName kinds.Syntax third x.0
  front : (more : List Token) → AreTokens x.1 more → AreTokens text (spell_value x.0 more)

word_taken : {third : Bool} (text w rest : List ℕ) (x : Value × List ℕ) (a b c d : Bool)
    → bytes_eq w (codes "true") ≡ a → bytes_eq w (codes "false") ≡ b → is_reserved third w ≡ c
    → next text ≡ Ok (Some (word w), rest)
    → cond a (Ok (Truth true, rest))
    (cond b (Ok (Truth false, rest))
    (cond c (Err (misplaced text))
    (cond d (Err (refused kinds.Limit text)) (Ok
    (Enumerator w, rest))))) ≡ Ok x → TakenValue third text x
word_taken text w rest x true b c d p q r h e = search (arith, bytes_eq-Decides, ok_is)
word_taken text w rest x false true c d p q r h e = search (arith, bytes_eq-Decides, ok_is)
word_taken text w rest x false false true d p q r h e = absurd cc
word_taken text w rest x false false false true p q r h e = absurd cc
word_taken text w rest x false false false false p q r h e = search (arith, ok_is)

token_taken : {third : Bool} (text : List ℕ) (t : Option Token) (rest : List ℕ) (x : Value × List ℕ)
    → next text ≡ Ok (t, rest) → token_value third text t rest ≡ Ok x → TakenValue third text x
token_taken text (Some (word w)) rest x h e = search (arith, word_taken, ltb)
token_taken text (Some (number n)) rest x h e = search (arith, ok_is)
token_taken text (Some (negative n)) rest x h e = search (arith, ok_is)
token_taken text _ rest x h e = absurd cc

value_taken : {third : Bool} (text : List ℕ) (x : Value × List ℕ) → value_at third text ≡ Ok x
    → TakenValue third text x
unfolding value_at
value_taken text x e = search (arith, bind_ok, token_taken)

-- a value, and the rest after it
record TakenNumber (third : Bool) (text rest : List ℕ) : Type 0 where
  value : Value
  taken : TakenValue third text (value, rest)

fitting_by : {third : Bool} (text : List ℕ) (v : Value × List ℕ) (o : Option Number) (x : LabelRead)
    → TakenValue third text v → label_fitting text v.1 o ≡ Ok x → TakenNumber third text x.1
fitting_by text v None x t e = absurd cc
fitting_by text v (Some n) x t e = search (arith, ok_is)

number_taken : {third : Bool} (node : Node) (text : List ℕ) (x : LabelRead)
    → number_of_value third node text ≡ Ok x → TakenNumber third text x.1
unfolding number_of_value
number_taken node text x e = search (arith, bind_ok, fitting_by, value_taken)

record TakenLabel (third : Bool) (text rest : List ℕ) : Type 0 where
  label : Label
  free : (node : Node) (seen : List Label) → OfLabel kinds.Syntax third node seen label
  front : (more : List Token) → AreTokens rest more → AreTokens text (spell_label label more)

label_rest_is : {third : Bool} (text : List ℕ) (m : LabelMark) (rest : List ℕ) (x : LabelRead)
    → (m, rest) ≡ x
    → TakenLabel third text rest → TakenLabel third text x.1
label_rest_is text m rest x e t = search (arith)

label_taken_by : {third : Bool} (node : Node) (seen : List LabelMark) (text : List ℕ)
    (o : Option (List ℕ))
    (x : LabelRead) → keyword_if (codes "case") text ≡ Ok o
    → label_after_case third node seen text o ≡ Ok x → TakenLabel third text x.1
label_taken_by node seen text (Some inner) x h e =
    let v = bind_ok {A = LabelRead} _ _ x e in
    let m = bind_ok (unseen_label seen (v.0).0 inner)
    (λ m. mark_at marks.Colon (v.0).1 >>= λ rest. Ok (m, rest)) x v.2 in
    let r = bind_ok (mark_at marks.Colon (v.0).1) (λ rest. Ok (m.0, rest)) x m.2 in
    let t = number_taken node inner v.0 v.1 in
    label_rest_is text m.0 r.0 x (ok_is (m.0, r.0) x r.2) (record {
      label = Of t.value;
      free = λ node seen. ((t.taken.free, tt), tt);
      front = λ more k. keyword_if_takes (codes "case") text inner h
          (spell_value t.value (mark marks.Colon ∷ more))
          (t.taken.front (mark marks.Colon ∷ more) (mark_takes marks.Colon (v.0).1 r.0 r.1 more k));
    })
label_taken_by node seen text None x h e =
    let w = bind_ok {A = List ℕ} _ _ x e in
    let m = bind_ok (unseen_label seen None text)
    (λ m. mark_at marks.Colon w.0 >>= λ rest. Ok (m, rest)) x w.2 in
    let r = bind_ok (mark_at marks.Colon w.0) (λ rest. Ok (m.0, rest)) x m.2 in
    label_rest_is text m.0 r.0 x (ok_is (m.0, r.0) x r.2) (record {
      label = Default;
      free = λ node seen. (tt, tt);
      front = λ more k. keyword_takes (codes "default") text w.0 w.1 (mark marks.Colon ∷ more)
          (mark_takes marks.Colon w.0 r.0 r.1 more k);
    })

label_taken : {third : Bool} (node : Node) (seen : List LabelMark) (text : List ℕ) (x : LabelRead)
    → label_at third node seen text ≡ Ok x → TakenLabel third text x.1
unfolding label_at
label_taken node seen text x e = search (arith, bind_ok, label_taken_by)

-- ---- the labels of a case

record TakenLabels (third : Bool) (text rest : List ℕ) : Type 0 where
  labels : List Label
  free : (node : Node) (seen : List Label) → OfLabels kinds.Syntax third node seen labels
  front : (more : List Token) → AreTokens rest more → AreTokens text (spell_labels labels more)
  some : begins_label text ≡ Ok true → (l : Label) × (ls : List Label) × (labels ≡ l ∷ ls)

with_label_rest : (ls : LabelsRead) (m : LabelMark) (rest : List ℕ) → (with_label ls (m, rest)).3
    ≡ rest
with_label_rest ls None rest = refl
with_label_rest ls (Some n) rest = refl

not_both : (text : List ℕ) → begins_label text ≡ Ok false → begins_label text ≡ Ok true → ⊥
not_both text e f = search (arith, ok_is)

no_labels : {third : Bool} (text : List ℕ) → begins_label text ≡ Ok false
    → TakenLabels third text text
unfolding OfLabels
no_labels text h = record {
  labels = [];
  free = λ node seen. tt;
  front = λ more m. m;
  some =
      λ b. absurd (not_both text h b);
}

one_label : {third : Bool} (text middle rest : List ℕ) → TakenLabel third text middle
    → TakenLabels third middle rest → TakenLabels third text rest
unfolding OfLabels
one_label text middle rest l ls = record {
  labels = l.label ∷ ls.labels;
  free = λ node seen. (l.free node seen, ls.free node (seen ++ l.label ∷ []));
  front = λ more m. l.front (spell_labels ls.labels more) (ls.front more m);
  some = λ b. (l.label, ls.labels, refl);
}

labels_taken_by : {third : Bool} (node : Node) (left : ℕ) (ls : LabelsRead) (b : Bool)
    (s : Bool × LabelsRead)
    (x : LabelsRead) → ((ls x : LabelsRead)
    → in_steps (labels_step third node) too_many_labels left ls ≡ Ok x → TakenLabels third ls.3 x.3)
    → begins_label ls.3 ≡ Ok b → label_or_end third node ls b ≡ Ok s
    → then_labels third node left s ≡ Ok x → TakenLabels third ls.3 x.3
labels_taken_by {third = third} node left ls false s x on h e f =
    search (arith, then_labels, ok_is, no_labels)
labels_taken_by {third = third} node left ls true s x on h e f =
    let l = bind_ok (label_at third node ls.0 ls.3) (λ l. Ok (false, with_label ls l)) s e in
    let next = with_label ls l.0 in
    let run : in_steps (labels_step third node) too_many_labels left next ≡ Ok x =
    ap (then_labels third node left) (ok_is (false, next) s l.2) ∙ f in
    one_label ls.3 (l.0).1 x.3 (label_taken node ls.0 ls.3 l.0 l.1)
    (subst (λ t. TakenLabels third t x.3) (with_label_rest ls (l.0).0 (l.0).1) (on next x run))

labels_run_taken : {third : Bool} (node : Node) (left : ℕ) (ls x : LabelsRead)
    → in_steps (labels_step third node) too_many_labels left ls ≡ Ok x → TakenLabels third ls.3 x.3
unfolding in_steps labels_step
labels_run_taken {third = third} node zero ls x e = absurd cc
labels_run_taken {third = third} node (suc left) ls x e =
    let s = bind_ok (labels_step third node ls) (then_labels third node left) x e in
    let b = bind_ok (begins_label ls.3) (label_or_end third node ls) s.0 s.1 in
    labels_taken_by node left ls b.0 s.0 x (labels_run_taken node left) b.1 b.2 s.2

-- the labels of a case, at least one
record TakenCaseLabels (third : Bool) (text rest : List ℕ) : Type 0 where
  first : Label
  others : List Label
  free : (node : Node) (seen : List Label) → OfLabels kinds.Syntax third node seen (first ∷ others)
  front : (more : List Token) → AreTokens rest more
      → AreTokens text (spell_labels (first ∷ others) more)

some_labels : {third : Bool} (text rest : List ℕ) → begins_label text ≡ Ok true
    → TakenLabels third text rest → TakenCaseLabels third text rest
some_labels text rest h t = search (arith)

labels_taken_or : {third : Bool} (node : Node) (seen : List LabelMark) (text : List ℕ) (b : Bool)
    (x : LabelsRead)
    → begins_label text ≡ Ok b → labels_by third node seen text b ≡ Ok x
    → TakenCaseLabels third text x.3
labels_taken_or node seen text false x h e = absurd cc
labels_taken_or node seen text true x h e = search (arith, some_labels, labels_run_taken)

labels_taken : {third : Bool} (node : Node) (seen : List LabelMark) (text : List ℕ) (x : LabelsRead)
    → labels_at third node seen text ≡ Ok x → TakenCaseLabels third text x.3
unfolding labels_at
labels_taken node seen text x e = search (arith, bind_ok, labels_taken_or)

-- ---- cases

-- what is kept of cases that a union may have
record SoundCases (s : Scope) (cs : Cases) : Type 0 where
  parts : All (λ c. IsPart s.table.types (length s.table.types) c.part) cs.cases
  few : length cs.cases ≤ 256
  same : length cs.names ≡ length cs.cases
  below : IsCaseBelow (length cs.cases) cs.otherwise

chosen_below : (o : Selected) (default : Bool) (n : ℕ) → IsCaseBelow n o
    → IsCaseBelow (n + 1) (first_default_case o default n)
chosen_below selecteds.Nothing true n is = omega arith
chosen_below selecteds.Nothing false n is = tt
chosen_below (selecteds.Case j) default n is = omega arith
chosen_below selecteds.Refused default n is = tt

cases_stay : (s t : Scope) (cs : List Case) → AddsOnlyTypes s t
    → All (λ c. IsPart s.table.types (length s.table.types) c.part) cs
    → All (λ c. IsPart t.table.types (length t.table.types) c.part) cs
cases_stay s t cs g all = λ k d lt. let is = all k d lt in
    record { inner = grows_known s t ((get_or cs k d).part).type g is.inner; short = is.short }

case_sound : (s : Scope) (cs : Cases) (ls : LabelsRead) (i : ItemRead)
    → TakenItem s 256 cs.names ls.3 i → IsScope s → SoundCases s cs
    → SoundCases i.0 (with_case cs ls i.1)
case_sound s cs ls i t is sound =
    let h = t.sound is in
    let few = t.few in
    let same = sound.same in
    let one : Case = record { labels = ls.1; part = i.1 } in
    let more : length (cs.cases ++ one ∷ []) ≡ length cs.cases + 1 =
    length-append cs.cases (one ∷ []) in
    record {
      parts = All-push (λ c. IsPart (i.0).table.types (length (i.0).table.types) c.part) cs.cases
          one (cases_stay s i.0 cs.cases t.grows sound.parts)
          (record { inner = h.known; short = t.short });
      few = omega arith;
      same = omega (arith, length-append cs.names ((i.1).name ∷ []));
      below =
          subst (λ n. IsCaseBelow n (first_default_case cs.otherwise ls.2 (length cs.names)))
          (sym more)
          (subst (λ n. IsCaseBelow (length cs.cases + 1) (first_default_case cs.otherwise ls.2 n))
          (sym same)
          (chosen_below cs.otherwise ls.2 (length cs.cases) sound.below));
    }

-- a case that was read
record TakenCase (x y : CasesRead) : Type 0 where
  case : UnionCase
  named : (y.1).names ≡ (x.1).names ++ case.item.name ∷ []
  free : (node : Node) (seen : List Label)
      → OfLabels kinds.Syntax (is_version_3 (x.0).names) node seen (labels_of case)
  item : OfItem kinds.Syntax (x.0).names 256 (x.1).names case.item
  front : (more : List Token) → AreTokens y.2 more
      → AreTokens x.2 (spell_labels (labels_of case)
      (spell_item case.item (mark marks.Semicolon ∷ more)))
  grows : AddsOnlyTypes x.0 y.0
  sound : IsScope x.0 → SoundCases x.0 x.1 → IsScope y.0 × SoundCases y.0 y.1

case_made : (x : CasesRead) (ls : LabelsRead) (i : ItemRead) (rest : List ℕ)
    → TakenCaseLabels (is_version_3 (x.0).names) x.2 ls.3
    → TakenItem x.0 256 (x.1).names ls.3 i → mark_at marks.Semicolon i.2 ≡ Ok rest
    → TakenCase x (i.0, with_case x.1 ls i.1, rest)
case_made x ls i rest t u e = record {
  case = record { label = t.first; others = t.others; item = u.item };
  named = ap (λ w. (x.1).names ++ w ∷ []) (sym u.named);
  free = t.free;
  item = u.took.free;
  front = λ more m. t.front (spell_item u.item (mark marks.Semicolon ∷ more))
      (u.took.front (mark marks.Semicolon ∷ more) (mark_takes marks.Semicolon i.2 rest e more m));
  grows = u.grows;
  sound = λ is sound. ((u.sound is).scope, case_sound x.0 x.1 ls i u is sound);
}

case_taken : (switch : ℕ) (x y : CasesRead) → case_at switch x ≡ Ok y → TakenCase x y
unfolding case_at
case_taken switch x y e = search (arith, bind_ok, ok_is, case_made, labels_taken, item_takes)

-- ---- cases, one after another

record TakenCases (x y : CasesRead) : Type 0 where
  cases : List UnionCase
  free : (node : Node) (seen : List Label)
      → OfCases kinds.Syntax (x.0).names node seen (x.1).names cases
  front : (more : List Token) → AreTokens y.2 more → AreTokens x.2 (spell_cases cases more)
  grows : AddsOnlyTypes x.0 y.0
  sound : IsScope x.0 → SoundCases x.0 x.1 → IsScope y.0 × SoundCases y.0 y.1

no_more : (x : CasesRead) (rest : List ℕ) → mark_if marks.CloseBrace x.2 ≡ Ok (Some rest)
    → TakenCases x (x.0, x.1, rest)
unfolding OfCases
no_more x rest h = record {
  cases = [];
  free = λ node seen. tt;
  front = mark_if_takes marks.CloseBrace x.2 rest h;
  grows = grows_none x.0;
  sound = λ is sound. (is, sound);
}

one_more : (x y z : CasesRead) → TakenCase x y → TakenCases y z → TakenCases x z
unfolding OfCases
one_more x y z t u = record {
  cases = t.case ∷ u.cases;
  free = λ node seen.
      let others = u.free node (seen ++ labels_of t.case) in
      let under = subst (λ ns. OfCases kinds.Syntax ns node (seen ++ labels_of t.case) (y.1).names
      u.cases) (t.grows).names others in (
        t.free node seen,
        t.item,
        subst (λ ns.
            OfCases kinds.Syntax (x.0).names node (seen ++ labels_of t.case) ns u.cases) t.named
            under,
      );
  front = λ more m. t.front (spell_cases u.cases more) (u.front more m);
  grows = grows_on x.0 y.0 z.0 t.grows u.grows;
  sound = λ is sound. let k = t.sound is sound in u.sound k.0 k.1;
}

cases_taken_by : (switch left : ℕ) (x : CasesRead) (o : Option (List ℕ)) (s : Bool × CasesRead)
    (z : CasesRead) → ((x z : CasesRead)
    → in_steps (cases_step switch) too_many_cases left x ≡ Ok z → TakenCases x z)
    → mark_if marks.CloseBrace x.2 ≡ Ok o → case_or_end switch x o ≡ Ok s
    → then_cases switch left s ≡ Ok z → TakenCases x z
cases_taken_by switch left x (Some rest) s z on h e f = search (
  arith,
  ok_is,
  then_cases,
  no_more,
)
cases_taken_by switch left x None s z on h e f =
    let c = bind_ok (case_at switch x) (λ c. Ok (false, c)) s e in
    one_more x c.0 z (case_taken switch x c.0 c.1)
    (on c.0 z (ap (then_cases switch left) (ok_is (false, c.0) s c.2) ∙ f))

cases_run_taken : (switch left : ℕ) (x z : CasesRead)
    → in_steps (cases_step switch) too_many_cases left x ≡ Ok z → TakenCases x z
unfolding in_steps cases_step
cases_run_taken switch zero x z e = absurd cc
cases_run_taken switch (suc left) x z e =
    let s = bind_ok (cases_step switch x) (then_cases switch left) z e in
    let o = bind_ok (mark_if marks.CloseBrace x.2) (case_or_end switch x) s.0 s.1 in
    cases_taken_by switch left x o.0 s.0 z (cases_run_taken switch left) o.1 o.2 s.2

-- the cases of a union
pub record TakenUnionCases (s : Scope) (text : List ℕ) (x : CasesRead) : Type 0 where
  pub cases : List UnionCase
  pub free : (node : Node) → OfCases kinds.Syntax s.names node [] [] cases
  pub front : (more : List Token) → AreTokens x.2 more → AreTokens text (spell_cases cases more)
  pub grows : AddsOnlyTypes s x.0
  pub scope : IsScope s → IsScope x.0
  pub parts : IsScope s → All (λ c. IsPart (x.0).table.types
      (length (x.0).table.types) c.part) (x.1).cases
  pub few : IsScope s → length (x.1).cases ≤ 256
  pub below : IsScope s → IsCaseBelow (length (x.1).cases) (x.1).otherwise

sound_none : (s : Scope) → SoundCases s no_cases
sound_none s = search (arith)

pub cases_taken : (switch : ℕ) (s : Scope) (text : List ℕ) (x : CasesRead)
    → cases_at switch s text ≡ Ok x → TakenUnionCases s text x
unfolding cases_at
cases_taken switch s text x e =
    let some = bind_ok {A = List ℕ} _ _ x e in
    let t = cases_run_taken switch 257 (s, no_cases, some.0) x some.2 in
    record {
      cases = t.cases;
      free = λ node. t.free node [];
      front = λ more m. subst (λ b. AreTokens b (spell_cases t.cases more))
          (sym (filled_takes text some.0 some.1).0) (t.front more m);
      grows = t.grows;
      scope = λ is. (t.sound is (sound_none s)).0;
      parts = λ is. (t.sound is (sound_none s)).1.parts;
      few = λ is. (t.sound is (sound_none s)).1.few;
      below = λ is. (t.sound is (sound_none s)).1.below;
    }
