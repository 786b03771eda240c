-- Reading the spelling of a union's cases gives them, or a rule that they break.
use Rattle.std.proofs.Common.{◌≡◌, ℕ, zero, suc, ◌+◌, ◌<◌, ◌≤◌, Bool, true, false, cond, List, [], ◌∷◌, ◌++◌, length, Some, None, Result, Ok, refl, sym, subst, ◌∙◌, arith}
use Rattle.std.specs.List.{AllByRecursion}
use Rattle.std.proofs.lemmas.List.{length-append, get_or_append_left}
use Rattle.giop_tokens.specs.declared.fault.TokenError.{TokenError}
use Rattle.giop_tokens.specs.declared.fault.SigFaultKind.TheVariants as kinds
use Rattle.giop_tokens.specs.declared.marks.Mark.TheVariants as marks
use Rattle.giop_tokens.specs.Tokens.{Token, word, mark, AreTokens}
use Rattle.giop_tokens.specs.Reading.{◌>>=◌}
use Rattle.giop_tokens.specs.Readers.{mark_at, mark_if}
use Rattle.giop_tokens.proofs.ReaderLaws.{mark_again, mark_if_again}
use Rattle.giop_sig.specs.declared.types.Selected.{Selected}
use Rattle.giop_sig.specs.Table.{Case, Node, node_at}
use Rattle.giop_sig.specs.Grammar.{TypeExpr, Text, SequenceOf, EncapsulationOf, Item, Label, Default, Of, UnionCase, spell_lengths, spell_item, spell_labels, spell_cases}
use Rattle.giop_sig.specs.Scopes.{Names, is_version_3, Scope, has_default, labels_of, union_case, add_type, add_item}
use Rattle.giop_sig.specs.Validity.{FaultKind, OfItem, OfLabels, OfCases}
use Rattle.giop_sig.specs.ItemReading.{item_at}
use Rattle.giop_sig.specs.Repeats.{in_steps}
use Rattle.giop_sig.specs.UnionReading.{labels_at, Cases, first_default_case, with_case, CasesRead, case_at, cases_step, too_many_cases}
use Rattle.giop_sig.proofs.AddTypeLaws.{type_count, within_same, within_on, HasNoFewerTypes, item_more, item_names}
use Rattle.giop_sig.proofs.ReadingLaws.{IsMadeOrBreaksRule, good, out_bind, out_more, if_apart}
use Rattle.giop_sig.proofs.TypeTaken.{AddsOnlyTypes, grows_none, grows_on, node_grows}
use Rattle.giop_sig.proofs.LengthLaws.{arrays_grow}
use Rattle.giop_sig.proofs.ItemLaws.{item_reads}
use Rattle.giop_sig.proofs.LabelLaws.{NamesItsNumber}
use Rattle.giop_sig.proofs.LabelReads.{marks_of, labelled, type_no_label, labels_reads}
use Rattle.giop_sig.proofs.LabelsKept.{labels_kept, labels_few}

-- ---- a case

-- what is kept of cases with these labels
abbrev pub kept_cases : (node : Node) (labels : List Label) (names : List (List ℕ))
    (cases : List Case) (otherwise : Selected) → Cases
kept_cases node labels names cases otherwise =
    record { labels = marks_of node labels; names = names; cases = cases; otherwise = otherwise }

-- what is kept of one more case
abbrev pub more_cases : (node : Node) (scope : Scope) (labels : List Label) (names : List (List ℕ))
    (cases : List Case) (otherwise : Selected) (declared_case : UnionCase) → Cases
more_cases node s labels names cases otherwise c =
    kept_cases node (labels ++ labels_of c) (names ++ c.item.name ∷ [])
    (cases ++ union_case node c (add_item s c.item) ∷ [])
    (first_default_case otherwise (has_default (labels_of c)) (length names))

case_reads : (switch : ℕ) (node : Node) (s : Scope) (labels : List Label) (names : List (List ℕ))
    (cases : List Case) (otherwise : Selected) (c : UnionCase) (text : List ℕ) (more : List Token)
    → node_at s.table switch ≡ node → AllByRecursion (NamesItsNumber node) labels
    → length labels ≤ 1024 → OfLabels kinds.Syntax (is_version_3 s.names) node labels (labels_of c)
    → OfItem kinds.Syntax s.names 256 names c.item
    → AreTokens text (spell_labels (labels_of c) (spell_item c.item (mark marks.Semicolon ∷ more)))
    → IsMadeOrBreaksRule {X = CasesRead} (λ rest.
    ((add_item s c.item).0, more_cases node s labels names cases otherwise c, rest))
    (λ k. OfLabels k (is_version_3 s.names) node labels
    (labels_of c) × OfItem k s.names 256 names c.item)
    (add_item s c.item).0.table.types more
    (case_at switch (s, kept_cases node labels names cases otherwise, text))
unfolding case_at
case_reads switch node s labels names cases otherwise c text more same all few free item h =
    let before = kept_cases node labels names cases otherwise in
    let tail = mark marks.Semicolon ∷ more in
    rw same
    (out_bind (labels_at (is_version_3 s.names) node (marks_of node labels) text)
    (λ ls. item_at 256 names s ls.3 >>= λ i. mark_at marks.Semicolon i.2 >>= λ rest.
    Ok (i.0, with_case before ls i.1, rest))
    (labels_reads (is_version_3 s.names) node labels c.label c.others text s.table.types
    (spell_item c.item tail)
    (λ rest m. type_no_label c.item.type s.names rest
    (word c.item.name ∷ spell_lengths c.item.lengths tail) item.0 m) all few free h)
    (λ a ta ka.
    out_bind (item_at 256 names s a) (λ i. mark_at marks.Semicolon i.2
    >>= λ rest. Ok (
      i.0,
      with_case before (labelled node labels [] false (labels_of c) a) i.1,
      rest,
    ))
    (item_reads 256 names s c.item a tail item refl ta)
    (λ b tb kb. rw (mark_again marks.Semicolon b more tb) (good tb.0 tb.2 (λ k. (ka k, kb k))))
    (λ k w. w.1) within_same)
    (λ k w. w.0) (item_more s c.item))

-- ---- the table only grows

pub add_type_grows : (s : Scope) (e : TypeExpr) → AddsOnlyTypes s (add_type s e).0
unfolding add_type
add_type_grows s (Text (Some n)) = search (arith, node_grows)
add_type_grows s (SequenceOf e bound) = search (arith, grows_on, node_grows, add_type_grows s e)
add_type_grows s (EncapsulationOf e) = search (arith, grows_on, node_grows, add_type_grows s e)
add_type_grows s _ = grows_none s

pub item_grows : (s : Scope) (i : Item) → AddsOnlyTypes s (add_item s i).0
item_grows s i =
    grows_on s (add_type s i.type).0 (add_item s i).0 (add_type_grows s i.type)
    (arrays_grow i.lengths (add_type s i.type))

pub node_stays : (s t : Scope) (i : ℕ) → AddsOnlyTypes s t → i < type_count s
    → node_at t.table i ≡ node_at s.table i
node_stays s t i g lt = search (arith, get_or_append_left)

-- ---- cases, one after another

-- what is kept after some more cases
unfoldable pub made_cases : (node : Node) (scope : Scope) (labels : List Label)
    (names : List (List ℕ))
    (cases : List Case) (otherwise : Selected) → List UnionCase → Scope × Cases
made_cases node s labels names cases otherwise [] =
    (s, kept_cases node labels names cases otherwise)
made_cases node s labels names cases otherwise (c ∷ cs) =
    made_cases node (add_item s c.item).0 (labels ++ labels_of c) (names ++ c.item.name ∷ [])
    (cases ++ union_case node c (add_item s c.item) ∷ [])
    (first_default_case otherwise (has_default (labels_of c)) (length names)) cs

pub made_more : (node : Node) (s : Scope) (labels : List Label)
    (names : List (List ℕ)) (cases : List Case)
    (otherwise : Selected) (cs : List UnionCase)
    → HasNoFewerTypes s (made_cases node s labels names cases otherwise cs).0
unfolding made_cases
made_more node s labels names cases otherwise [] = within_same
made_more node s labels names cases otherwise (c ∷ cs) =
    within_on (item_more s c.item)
    (made_more node (add_item s c.item).0 (labels ++ labels_of c) (names ++ c.item.name ∷ [])
    (cases ++ union_case node c (add_item s c.item) ∷ [])
    (first_default_case otherwise (has_default (labels_of c)) (length names)) cs)

step_end : (switch : ℕ) (x : CasesRead) (rest : List ℕ)
    → mark_if marks.CloseBrace x.2 ≡ Ok (Some rest)
    → cases_step switch x ≡ Ok (true, (x.0, x.1, rest))
unfolding cases_step
step_end switch x rest h = rw h refl

step_on : (switch : ℕ) (x : CasesRead) → mark_if marks.CloseBrace x.2 ≡ Ok None
    → cases_step switch x ≡ (case_at switch x >>= λ c. Ok (false, c))
unfolding cases_step
step_on switch x h = rw h refl

pub labels_apart : (l : Label) (ls : List Label) (text : List ℕ) (more : List Token)
    → AreTokens text (spell_labels (l ∷ ls) more) → mark_if marks.CloseBrace text ≡ Ok None
labels_apart Default ls text more h = if_apart marks.CloseBrace text
    (spell_labels (Default ∷ ls) more) refl h
labels_apart (Of v) ls text more h = if_apart marks.CloseBrace text (spell_labels (Of v ∷ ls) more)
    refl h

abbrev pub then_cases : (switch left : ℕ) (x : Bool × CasesRead) → Result CasesRead TokenError
then_cases switch left x =
    cond x.0 (Ok x.1) (in_steps (cases_step switch) too_many_cases left x.1)

case_step_reads : (switch : ℕ) (node : Node) (s : Scope) (labels : List Label)
    (names : List (List ℕ)) (cases : List Case) (otherwise : Selected) (c : UnionCase)
    (text : List ℕ) (more : List Token)
    → node_at s.table switch ≡ node → AllByRecursion (NamesItsNumber node) labels
    → length labels ≤ 1024 → OfLabels kinds.Syntax (is_version_3 s.names) node labels (labels_of c)
    → OfItem kinds.Syntax s.names 256 names c.item
    → AreTokens text (spell_labels (labels_of c) (spell_item c.item (mark marks.Semicolon ∷ more)))
    → IsMadeOrBreaksRule {X = Bool × CasesRead} (λ rest.
    (false, ((add_item s c.item).0, more_cases node s labels names cases otherwise c, rest)))
    (λ k. OfLabels k (is_version_3 s.names) node labels
    (labels_of c) × OfItem k s.names 256 names c.item)
    (add_item s c.item).0.table.types more
    (cases_step switch (s, kept_cases node labels names cases otherwise, text))
case_step_reads switch node s labels names cases otherwise c text more same all few free
    item h =
    let x : CasesRead = (s, kept_cases node labels names cases otherwise, text) in
    rw (step_on switch x (labels_apart c.label c.others text
    (spell_item c.item (mark marks.Semicolon ∷ more)) h))
    (out_bind (case_at switch x) (λ c. Ok (false, c))
    (case_reads switch node s labels names cases otherwise c text more same all few free
    item h)
    (λ rest m keeps. good rest m keeps) (λ k w. w) within_same)

-- what is asked of a case
abbrev OfCase : (kind : FaultKind) (known : Names) (node : Node) (labels : List Label)
    (names : List (List ℕ)) (declared_case : UnionCase) → Type 0
OfCase k known node labels names c =
    OfLabels k (is_version_3 known) node labels (labels_of c) × OfItem k known 256 names c.item

pub cases_run : (cs : List UnionCase) (left switch : ℕ) (node : Node) (known : Names) (s : Scope)
    (labels : List Label) (names : List (List ℕ)) (cases : List Case) (otherwise : Selected)
    (text : List ℕ) (more : List Token)
    → s.names ≡ known → switch < type_count s → node_at s.table switch ≡ node
    → AllByRecursion (NamesItsNumber node) labels → length labels ≤ 1024
    → left + length names ≡ 257 → length names ≤ 256
    → OfCases kinds.Syntax known node labels names cs → AreTokens text (spell_cases cs more)
    → IsMadeOrBreaksRule {X = CasesRead} (λ rest. (
      (made_cases node s labels names cases otherwise cs).0,
      (made_cases node s labels names cases otherwise cs).1,
      rest,
    ))
    (λ k. OfCases k known node labels names cs)
    (made_cases node s labels names cases otherwise cs).0.table.types more
    (in_steps (cases_step switch) too_many_cases left
    (s, kept_cases node labels names cases otherwise, text))
unfolding in_steps OfCases made_cases
cases_run [] zero switch node known s labels names cases otherwise text more at-names below
    same all few room short free h = absurd (omega arith)
cases_run (c ∷ cs) zero switch node known s labels names cases otherwise text more at-names
    below same all few room short free h = absurd (omega arith)
cases_run [] (suc left) switch node known s labels names cases otherwise text more at-names
    below same all few room short free h =
    rw (step_end switch (s, kept_cases node labels names cases otherwise, text) h.0
    (mark_if_again marks.CloseBrace text more h)) (good h.0 h.2 (λ k. tt))
cases_run (c ∷ cs) (suc left) switch node known s labels names cases otherwise text more at-names
    below same all few room short free h =
    let t = (add_item s c.item).0 in
    let tail = spell_cases cs more in
    let behind = made_cases node t (labels ++ labels_of c) (names ++ c.item.name ∷ [])
    (cases ++ union_case node c (add_item s c.item) ∷ [])
    (first_default_case otherwise (has_default (labels_of c)) (length names)) cs in
    let own : OfCase kinds.Syntax s.names node labels names c =
    subst (λ ns. OfCase kinds.Syntax ns node labels names c) (sym at-names) (free.0, free.1) in
    out_bind (cases_step switch (s, kept_cases node labels names cases otherwise, text))
    (then_cases switch left)
    (case_step_reads switch node s labels names cases otherwise c text tail same all few
    own.0 own.1 h)
    (λ rest m keeps.
    let limit = keeps kinds.Limit in
    let fewer = ((limit.1).1).1 in
    out_more
    (cases_run cs left switch node known t (labels ++ labels_of c) (names ++ c.item.name ∷ [])
    (cases ++ union_case node c (add_item s c.item) ∷ [])
    (first_default_case otherwise (has_default (labels_of c)) (length names)) rest more
    (item_names s c.item ∙ at-names) (omega (arith, (item_more s c.item).longer))
    (node_stays s t switch (item_grows s c.item) below ∙ same)
    (labels_kept (is_version_3 s.names) node (labels_of c) labels text
    (spell_item c.item (mark marks.Semicolon ∷ tail)) h
    (keeps kinds.Label).0 all)
    (labels_few (is_version_3 s.names) node (labels_of c) labels few limit.0)
    (omega (arith, length-append names (c.item.name ∷ [])))
    (omega (arith, length-append names (c.item.name ∷ []))) free.2 m)
    (λ k w.
    let both = subst (λ ns. OfCase k ns node labels names c) at-names (keeps k) in
    (both.0, both.1, w))
    (λ k w. w.2))
    (λ k w. subst (λ ns. OfCase k ns node labels names c) (sym at-names) (w.0, w.1))
    (made_more node t (labels ++ labels_of c) (names ++ c.item.name ∷ [])
    (cases ++ union_case node c (add_item s c.item) ∷ [])
    (first_default_case otherwise (has_default (labels_of c)) (length names)) cs)
