-- Reading the spelling of a case's labels gives their numbers, or a rule that they break.
use Rattle.std.proofs.Common.{◌≡◌, ℕ, zero, suc, ◌+◌, ◌<◌, ◌≤◌, Bool, true, false, cond, ◌||◌, ltb, leb, List, [], ◌∷◌, ◌++◌, map, length, Option, Some, None, Result, Ok, Err, append_assoc, ltb-true, ltb-false, leb-true, leb-false, refl, sym, subst, arith}
use Rattle.std.specs.Prelude.{codes}
use Rattle.std.specs.List.{list_any, AllByRecursion}
use Rattle.std.specs.Str.{bytes_eq}
use Rattle.std.proofs.lemmas.Bool.{false≢true}
use Rattle.std.proofs.lemmas.List.{length-append, length-map, map-append, append-nil}
use Rattle.giop_cdr.specs.declared.prim.Primitive.{Primitive}
use Rattle.giop_cdr.specs.declared.prim.Primitive.TheVariants as prims
use Rattle.giop_cdr.specs.declared.number.Number.{Number}
use Rattle.giop_tokens.specs.declared.fault.TokenError.{TokenError}
use Rattle.giop_tokens.specs.declared.fault.SigFaultKind.TheVariants as kinds
use Rattle.giop_tokens.specs.declared.marks.Mark.TheVariants as marks
use Rattle.giop_tokens.specs.Tokens.{Token, word, mark, AreTokens}
use Rattle.giop_tokens.specs.Reading.{◌>>=◌}
use Rattle.giop_tokens.specs.Readers.{is_the_word, mark_at, keyword_if}
use Rattle.giop_tokens.specs.Names.{is_reserved}
use Rattle.giop_tokens.proofs.ReaderLaws.{if_other, mark_again, keyword_again, keyword_if_again}
use Rattle.giop_sig.specs.Table.{Node}
use Rattle.giop_sig.specs.Grammar.{TypeExpr, Base, Text, Reference, AnyType, CodeType, WideChar, WideText, Named, SequenceOf, EncapsulationOf, base_word, Value, Plain, Below, Truth, Enumerator, Label, Default, Of, spell_type, spell_value, spell_label, spell_labels}
use Rattle.giop_sig.specs.Scopes.{Names, is_version_3, label_number, label_numbers, has_default}
use Rattle.giop_sig.specs.Validity.{FaultKind, IsNotReserved, OfType, OfEnumerator, OfLabelFit, OfValueName, OfLabelValue, same_label, OfNewLabel, OfLabel, OfLabels}
use Rattle.giop_sig.specs.Outcomes.{refused}
use Rattle.giop_sig.specs.Repeats.{in_steps}
use Rattle.giop_sig.specs.UnionReading.{value_at, LabelMark, LabelRead, label_fitting, number_of_value, unseen_label, label_at, LabelsRead, with_label, begins_label, labels_step, too_many_labels, labels_at}
use Rattle.giop_sig.proofs.AddTypeLaws.{within_same}
use Rattle.giop_sig.proofs.ReadingLaws.{IsMadeOrBreaksRule, good, broken, out_bind, out_more}
use Rattle.giop_sig.proofs.TypeLaws.{is_not}
use Rattle.giop_sig.proofs.EnumLaws.{out_as}
use Rattle.giop_sig.proofs.LabelLaws.{IsNoNegativeZero, mark_of, NamesItsNumber, any_marks}
use Rattle.giop_sig.proofs.Negatives.{negative_some}

-- ---- a value

enumerator_keeps : (third : Bool) (w : List ℕ) → IsNotReserved third w → length w ≤ 64 →
    (k : FaultKind)
    → OfEnumerator k third w
enumerator_keeps third w free short kinds.Syntax = free
enumerator_keeps third w free short kinds.Limit = short
enumerator_keeps third w free short _ = tt

enumerator_by : (third : Bool) (w text rest : List ℕ) (types : List Node) (more : List Token)
    (v : Bool)
    → ltb 64 (length w) ≡ v → IsNotReserved third w → AreTokens rest more
    → IsMadeOrBreaksRule {X = Value × List ℕ} (λ rest. (Enumerator w, rest))
    (λ k. OfEnumerator k third w) types more
    (cond v (Err (refused kinds.Limit text)) (Ok (Enumerator w, rest)))
enumerator_by third w text rest types more true e free m = search (arith, broken, ltb-true)
enumerator_by third w text rest types more false e free m = search (
  arith,
  good,
  enumerator_keeps third,
  ltb-false,
)

not_true : (third : Bool) (w : List ℕ) → IsNotReserved third w → bytes_eq w (codes "true") ≡ false
unfolding is_reserved
not_true third w free = is_not third w (codes "true") free refl

not_false : (third : Bool) (w : List ℕ) → IsNotReserved third w → bytes_eq w (codes "false") ≡ false
unfolding is_reserved
not_false third w free = is_not third w (codes "false") free refl

value_reads : (third : Bool) (v : Value) (text : List ℕ) (types : List Node) (more : List Token)
    → OfValueName kinds.Syntax third v → AreTokens text (spell_value v more)
    → IsMadeOrBreaksRule (λ rest. (v, rest)) (λ k. OfValueName k third v) types more
    (value_at third text)
unfolding value_at
value_reads third (Plain n) text types more free h = rw h.1 (good h.0 h.2 (λ k. tt))
value_reads third (Below n) text types more free h = rw h.1 (good h.0 h.2 (λ k. tt))
value_reads third (Truth true) text types more free h = rw h.1 (good h.0 h.2 (λ k. tt))
value_reads third (Truth false) text types more free h = rw h.1 (good h.0 h.2 (λ k. tt))
value_reads third (Enumerator w) text types more free h = search (
  arith,
  not_true third,
  not_false third,
  enumerator_by third,
  ltb,
)

fit_keeps : (node : Node) (v : Value) (n : Number) → label_number node v ≡ Some n
    → (k : FaultKind) → OfLabelFit k node v
fit_keeps node v n e kinds.Label = (n, e)
fit_keeps node v n e _ = tt

no_fit : (o : Option Number) → o ≡ None → (n : Number) × (o ≡ Some n) → ⊥
no_fit None e k = absurd cc
no_fit (Some n) e k = absurd cc

fit_by : (third : Bool) (node : Node) (v : Value) (text rest : List ℕ) (types : List Node)
    (more : List Token)
    (o : Option Number) → label_number node v ≡ o → AreTokens rest more
    → ((k : FaultKind) → OfValueName k third v)
    → IsMadeOrBreaksRule {X = LabelRead} (λ rest. (label_number node v, rest))
    (λ k. OfValueName k third v × OfLabelFit k node v) types more (label_fitting text rest o)
fit_by third node v text rest types more None e m keeps = search (arith, broken, no_fit)
fit_by third node v text rest types more (Some n) e m keeps = search (arith, good, fit_keeps)

number_reads : (third : Bool) (node : Node) (v : Value) (text : List ℕ) (types : List Node)
    (more : List Token)
    → OfValueName kinds.Syntax third v → AreTokens text (spell_value v more)
    → IsMadeOrBreaksRule (λ rest. (label_number node v, rest))
    (λ k. OfValueName k third v × OfLabelFit k node v) types more
    (number_of_value third node text)
unfolding number_of_value
number_reads third node v text types more free h =
    out_bind (value_at third text) (λ x. label_fitting text x.1 (label_number node x.0))
    (value_reads third v text types more free h)
    (λ rest m keeps. fit_by third node v text rest types more (label_number node v) refl m keeps)
    (λ k w. w.0) within_same

-- ---- a label

new_keeps : (seen : List Label) (l : Label) → length seen < 1024
    → list_any (same_label l) seen ≡ false → (k : FaultKind) → OfNewLabel k seen l
new_keeps seen l few new kinds.Duplicate = new
new_keeps seen l few new kinds.Limit = few
new_keeps seen l few new _ = tt

abbrev pub marks_of : (node : Node) (labels : List Label) → List LabelMark
marks_of node ls = map (mark_of node) ls

fresh_by : (node : Node) (seen : List Label) (l : Label) (text rest : List ℕ) (types : List Node)
    (more : List Token) (a b : Bool) → list_any (same_label l) seen ≡ a → leb 1024 (length seen) ≡ b
    → AreTokens rest (mark marks.Colon ∷ more)
    → IsMadeOrBreaksRule {X = LabelRead} (λ rest. (mark_of node l, rest))
    (λ k. OfNewLabel k seen l) types more
    (cond a (Err (refused kinds.Duplicate text))
    (cond b (Err (refused kinds.Limit text)) (Ok (mark_of node l)))
    >>= λ m. mark_at marks.Colon rest >>= λ r. Ok (m, r))
fresh_by node seen l text rest types more true b p q m = search (arith, broken, false≢true)
fresh_by node seen l text rest types more false true p q m = search (arith, broken, leb-true)
fresh_by node seen l text rest types more false false p q m =
    rw (mark_again marks.Colon rest more m)
    (good m.0 m.2 (new_keeps seen l (leb-false 1024 (length seen) q) p))

fresh_reads : (node : Node) (seen : List Label) (l : Label) (text rest : List ℕ) (types : List Node)
    (more : List Token) → NamesItsNumber node l → AllByRecursion (NamesItsNumber node) seen
    → AreTokens rest (mark marks.Colon ∷ more)
    → IsMadeOrBreaksRule {X = LabelRead} (λ rest. (mark_of node l, rest))
    (λ k. OfNewLabel k seen l) types more
    (unseen_label (marks_of node seen) (mark_of node l) text
    >>= λ m. mark_at marks.Colon rest >>= λ r. Ok (m, r))
unfolding unseen_label
fresh_reads node seen l text rest types more kept all m =
    rw (any_marks node l seen kept all, length-map seen (mark_of node))
    (fresh_by node seen l text rest types more (list_any (same_label l) seen)
    (leb 1024 (length seen)) refl refl m)

-- the word of the default isn't that of a value
not_case : (text : List ℕ) (ts : List Token) → AreTokens text (word (codes "default") ∷ ts)
    → keyword_if (codes "case") text ≡ Ok None
not_case text ts h = search (arith, if_other)

not_default : (text : List ℕ) (ts : List Token) → AreTokens text (word (codes "case") ∷ ts)
    → keyword_if (codes "default") text ≡ Ok None
not_default text ts h = search (arith, if_other)

-- a negative value that a text spells isn't 0
value_above : (v : Value) (text : List ℕ) (more : List Token)
    → AreTokens text (spell_value v more) → IsNoNegativeZero v
value_above (Below n) text more h = negative_some text h.0 n h.1
value_above _ text more h = tt

abbrev pub HasNoNegativeZero : (label : Label) → Type 0
HasNoNegativeZero Default = Unit {0}
HasNoNegativeZero (Of v) = IsNoNegativeZero v

pub label_above : (l : Label) (text : List ℕ) (more : List Token)
    → AreTokens text (spell_label l more) → HasNoNegativeZero l
label_above Default text more h = tt
label_above (Of v) text more h = search (arith, value_above)

pub label_kept : (third : Bool) (node : Node) (l : Label) → HasNoNegativeZero l
    → OfLabelValue kinds.Label third node l → NamesItsNumber node l
label_kept third node Default above fit = tt
label_kept third node (Of v) above fit = search (arith)

label_reads : (third : Bool) (node : Node) (seen : List Label) (l : Label) (text : List ℕ)
    (types : List Node)
    (more : List Token) → AllByRecursion (NamesItsNumber node) seen
    → OfLabel kinds.Syntax third node seen l
    → AreTokens text (spell_label l more)
    → IsMadeOrBreaksRule {X = LabelRead} (λ rest. (mark_of node l, rest))
    (λ k. OfLabel k third node seen l) types more
    (label_at third node (marks_of node seen) text)
unfolding label_at
label_reads third node seen Default text types more all free h =
    rw (
      not_case text (mark marks.Colon ∷ more) h,
      keyword_again (codes "default") text (mark marks.Colon ∷ more) h,
    )
    (out_more (fresh_reads node seen Default text h.0 types more tt all h.2) (λ k w. (tt, w))
    (λ k w. w.1))
label_reads third node seen (Of v) text types more all free h =
    let tail = mark marks.Colon ∷ more in
    rw (keyword_if_again (codes "case") text (spell_value v tail) h)
    (out_bind (number_of_value third node h.0) (λ x. unseen_label
    (marks_of node seen) x.0 h.0 >>= λ m.
    mark_at marks.Colon x.1 >>= λ r. Ok (m, r))
    (number_reads third node v h.0 types tail free.0.0 h.2)
    (λ rest m keeps.
    let fit = (keeps kinds.Label).1 in
    out_more (fresh_reads node seen (Of v) h.0 rest types more
    (fit.0, fit.1, value_above v h.0 tail h.2) all m) (λ k w. (keeps k, w)) (λ k w. w.1))
    (λ k w. w.0) within_same)

-- ---- where labels end

no_label : (text w : List ℕ) (ts : List Token) → bytes_eq w (codes "case") ≡ false
    → bytes_eq w (codes "default") ≡ false → AreTokens text (word w ∷ ts)
    → begins_label text ≡ Ok false
unfolding begins_label
no_label text w ts a b h = rw (
  if_other (is_the_word (codes "case")) text (word w) ts h a,
  if_other (is_the_word (codes "default")) text (word w) ts h b,
) refl

not_label : (third : Bool) (text w : List ℕ) (ts : List Token) → IsNotReserved third w
    → AreTokens text (word w ∷ ts)
    → begins_label text ≡ Ok false
unfolding is_reserved
not_label third text w ts free h =
    no_label text w ts (is_not third w (codes "case") free refl)
    (is_not third w (codes "default") free refl) h

no_base : (p : Primitive) (text : List ℕ) (ts : List Token)
    → AreTokens text (word (base_word p) ∷ ts) → begins_label text ≡ Ok false
no_base prims.Octet text ts h = search (arith, no_label)
no_base prims.Char text ts h = search (arith, no_label)
no_base prims.Boolean text ts h = search (arith, no_label)
no_base prims.Short text ts h = search (arith, no_label)
no_base prims.UShort text ts h = search (arith, no_label)
no_base prims.Long text ts h = search (arith, no_label)
no_base prims.ULong text ts h = search (arith, no_label)
no_base prims.LongLong text ts h = search (arith, no_label)
no_base prims.ULongLong text ts h = search (arith, no_label)
no_base prims.Float text ts h = search (arith, no_label)
no_base prims.Double text ts h = search (arith, no_label)

-- a type doesn't begin with a label
pub type_no_label : (e : TypeExpr) (names : Names) (text : List ℕ) (more : List Token)
    → OfType kinds.Syntax false names e → AreTokens text (spell_type e more)
    → begins_label text ≡ Ok false
unfolding OfType
type_no_label (Base p) names text more free h = no_base p text more h
type_no_label (Text o) names text more free h = search (arith, no_label)
type_no_label Reference names text more free h = search (arith, no_label)
type_no_label AnyType names text more free h = search (arith, no_label)
type_no_label CodeType names text more free h = search (arith, no_label)
type_no_label WideChar names text more free h = search (arith, no_label)
type_no_label (WideText bound) names text more free h = search (arith, no_label)
type_no_label (Named w) names text more free h = not_label (is_version_3 names) text w more free h
type_no_label (SequenceOf e o) names text more free h = search (arith, no_label)
type_no_label (EncapsulationOf e) names text more free h = search (arith, no_label)

-- a label begins one
label_begins : (l : Label) (text : List ℕ) (more : List Token) → AreTokens text (spell_label l more)
    → begins_label text ≡ Ok true
unfolding begins_label
label_begins Default text more h = rw (
  not_case text (mark marks.Colon ∷ more) h,
  keyword_if_again (codes "default") text (mark marks.Colon ∷ more) h,
) refl
label_begins (Of v) text more h =
    rw (
      keyword_if_again (codes "case") text (spell_value v (mark marks.Colon ∷ more)) h,
      not_default text (spell_value v (mark marks.Colon ∷ more)) h,
    ) refl

-- ---- the labels of a case

-- what is kept of labels, after those of the union and the case
abbrev pub labelled : (node : Node) (seen : List Label) (own : List Number) (default : Bool)
    (labels : List Label) (rest : List ℕ) → LabelsRead
labelled node seen own default ls rest =
    (marks_of node (seen ++ ls), own ++ label_numbers node ls, default || has_default ls, rest)

or_true : (b : Bool) → (b || true) ≡ true
or_true true = refl
or_true false = refl

or_false : (b : Bool) → (b || false) ≡ b
or_false true = refl
or_false false = refl

or_assoc : (a b c : Bool) → ((a || b) || c) ≡ (a || (b || c))
or_assoc true b c = refl
or_assoc false b c = refl

-- one more label
with_one : (node : Node) (seen : List Label) (own : List Number) (default : Bool)
    (text rest : List ℕ) (l : Label) → NamesItsNumber node l
    → with_label (marks_of node seen, own, default, text) (mark_of node l, rest)
    ≡ labelled node seen own default (l ∷ []) rest
with_one node seen own default text rest Default kept = search (
  arith,
  map-append,
  mark_of,
  append-nil,
  or_true,
)
with_one node seen own default text rest (Of v) kept = search (arith, map-append, mark_of, or_false)

numbers_cons : (node : Node) (l : Label) (ls : List Label) → NamesItsNumber node l
    → label_numbers node (l ∷ []) ++ label_numbers node ls ≡ label_numbers node (l ∷ ls)
numbers_cons node Default ls kept = refl
numbers_cons node (Of v) ls kept = rw kept.1 refl

default_cons : (l : Label) (ls : List Label)
    → (has_default (l ∷ []) || has_default ls) ≡ has_default (l ∷ ls)
default_cons Default ls = refl
default_cons (Of v) ls = refl

labelled_on : (node : Node) (seen : List Label) (own : List Number) (default : Bool) (l : Label)
    (ls : List Label) (rest : List ℕ) → NamesItsNumber node l
    → labelled node (seen ++ l ∷ []) (own ++ label_numbers node (l ∷ []))
    (default || has_default (l ∷ [])) ls rest ≡ labelled node seen own default (l ∷ ls) rest
labelled_on node seen own default l ls rest kept = search (
  arith,
  append_assoc,
  numbers_cons,
  or_assoc,
  default_cons,
)

labelled_end : (node : Node) (seen : List Label) (own : List Number) (default : Bool)
    (rest : List ℕ) → (marks_of node seen, own, default, rest)
    ≡ labelled node seen own default [] rest
labelled_end node seen own default rest = search (arith, append-nil, or_false)

step_on : (third : Bool) (node : Node) (seen : List Label) (own : List Number) (default : Bool)
    (l : Label)
    (text : List ℕ) (types : List Node) (more : List Token) → AllByRecursion
    (NamesItsNumber node) seen
    → OfLabel kinds.Syntax third node seen l → AreTokens text (spell_label l more)
    → IsMadeOrBreaksRule {X = Bool × LabelsRead} (λ rest. (
      false,
      labelled node seen own default
          (l ∷ []) rest,
    ))
    (λ k. OfLabel k third node seen l) types more
    (labels_step third node (marks_of node seen, own, default, text))
unfolding labels_step
step_on third node seen own default l text types more all free h =
    rw (label_begins l text more h)
    (out_bind (label_at third node (marks_of node seen) text)
    (λ x. Ok (false, with_label (marks_of node seen, own, default, text) x))
    (label_reads third node seen l text types more all free h)
    (λ rest m keeps.
    let kept = label_kept third node l (label_above l text more h) (keeps kinds.Label).0 in
    subst (λ (y : LabelsRead). IsMadeOrBreaksRule {X = Bool × LabelsRead}
    (λ rest. (false, labelled node seen own default (l ∷ []) rest))
    (λ k. OfLabel k third node seen l)
    types more (Ok (false, y)))
    (sym (with_one node seen own default text rest l kept)) (good rest m keeps))
    (λ k w. w) within_same)

step_end : (third : Bool) (node : Node) (ls : LabelsRead) → begins_label ls.3 ≡ Ok false
    → labels_step third node ls ≡ Ok (true, ls)
unfolding labels_step
step_end third node ls e = rw e refl

pub all_push : {X : Type 0} (P : X → Type 0) (xs : List X) (x : X) → AllByRecursion P xs → P x
    → AllByRecursion P (xs ++ x ∷ [])
all_push P [] x all p = (p, tt)
all_push P (y ∷ ys) x all p = (all.0, all_push P ys x all.1 p)

abbrev pub then_labels : (version_3 : Bool) (node : Node) (left : ℕ) (x : Bool × LabelsRead) →
    Result LabelsRead TokenError
then_labels third node left x =
    cond x.0 (Ok x.1) (in_steps (labels_step third node) too_many_labels left x.1)

labels_run : (third : Bool) (ls : List Label) (left : ℕ) (node : Node) (seen : List Label)
    (own : List Number)
    (default : Bool) (text : List ℕ) (types : List Node) (more : List Token)
    → ((rest : List ℕ) → AreTokens rest more → begins_label rest ≡ Ok false)
    → AllByRecursion (NamesItsNumber node) seen → length seen ≤ 1024 → 1025 ≤ left + length seen
    → OfLabels kinds.Syntax third node seen ls → AreTokens text (spell_labels ls more)
    → IsMadeOrBreaksRule (labelled node seen own default ls)
    (λ k. OfLabels k third node seen ls) types more
    (in_steps (labels_step third node) too_many_labels left
    (marks_of node seen, own, default, text))
unfolding in_steps OfLabels
labels_run third [] zero node seen own default text types more ended all few room free h =
    absurd (omega arith)
labels_run third (l ∷ ls) zero node seen own default text types more ended all few room free h =
    absurd (omega arith)
labels_run third [] (suc left) node seen own default text types more ended all few room free h =
    rw (step_end third node (marks_of node seen, own, default, text) (ended text h))
    (subst (λ (y : LabelsRead). IsMadeOrBreaksRule {X = LabelsRead} (labelled node seen own default
    [])
    (λ k. Unit {0}) types more (Ok y))
    (sym (labelled_end node seen own default text)) (good text h (λ k. tt)))
labels_run third (l ∷ ls) (suc left) node seen own default text types more ended all few room free
    h =
    out_bind (labels_step third node (marks_of node seen, own, default, text))
    (then_labels third node left)
    (step_on third node seen own default l text types (spell_labels ls more) all free.0 h)
    (λ rest m keeps.
    let kept = label_kept third node l (label_above l text (spell_labels ls more) h)
    (keeps kinds.Label).0
    in
    let below = (keeps kinds.Limit).1 in
    out_as (in_steps (labels_step third node) too_many_labels left
    (labelled node seen own default (l ∷ []) rest))
    (labels_run third ls left node (seen ++ l ∷ []) (own ++ label_numbers node (l ∷ []))
    (default || has_default (l ∷ [])) rest types more ended
    (all_push (NamesItsNumber node) seen l all kept) (omega (arith, length-append seen (l ∷ [])))
    (omega (arith, length-append seen (l ∷ []))) free.1 m)
    (λ after. labelled_on node seen own default l ls after kept) (λ k w. (keeps k, w)) (λ k w. w.1)
    within_same)
    (λ k w. w.0) within_same

pub labels_reads : (third : Bool) (node : Node) (seen : List Label) (l : Label) (ls : List Label)
    (text : List ℕ)
    (types : List Node) (more : List Token)
    → ((rest : List ℕ) → AreTokens rest more → begins_label rest ≡ Ok false)
    → AllByRecursion (NamesItsNumber node) seen → length seen ≤ 1024
    → OfLabels kinds.Syntax third node seen (l ∷ ls) → AreTokens text (spell_labels (l ∷ ls) more)
    → IsMadeOrBreaksRule (labelled node seen [] false (l ∷ ls))
    (λ k. OfLabels k third node seen (l ∷ ls)) types more
    (labels_at third node (marks_of node seen) text)
unfolding labels_at
labels_reads third node seen l ls text types more ended all few free h =
    rw (label_begins l text (spell_labels ls more) h)
    (labels_run third (l ∷ ls) 1025 node seen [] false text types more ended all few (omega arith)
    free h)
