-- Reading the spelling of a union, after its first word, gives the union or a rule that it breaks.
use Rattle.std.proofs.Common.{◌≡◌, ℕ, ◌+◌, ◌<◌, Bool, true, false, cond, ltb, List, [], ◌∷◌, ◌++◌, length, Option, Some, Ok, Err, append_assoc, ltb-true, ltb-false, refl, ap, subst, ◌∙◌, arith}
use Rattle.std.specs.Prelude.{codes}
use Rattle.std.proofs.lemmas.List.{length-append, append-nil, get_or_past}
use Rattle.giop_cdr.specs.declared.prim.Primitive.TheVariants as prims
use Rattle.giop_tokens.specs.declared.fault.SigFaultKind.TheVariants as kinds
use Rattle.giop_tokens.specs.declared.marks.Mark.TheVariants as marks
use Rattle.giop_tokens.specs.Tokens.{Token, word, mark, octets_left_at_token, AreTokens}
use Rattle.giop_tokens.specs.Reading.{◌>>=◌}
use Rattle.giop_tokens.specs.Readers.{mark_at, keyword_at}
use Rattle.giop_tokens.proofs.ReaderLaws.{mark_again, mark_if_again, keyword_again}
use Rattle.giop_sig.specs.declared.types.Selected.{Selected}
use Rattle.giop_sig.specs.declared.types.Selected.TheVariants as selecteds
use Rattle.giop_sig.specs.declared.announced.TypeWord.TheVariants as type_words
use Rattle.giop_sig.specs.Table.{Case, Node, node_at}
use Rattle.giop_sig.specs.Table as nodes
use Rattle.giop_sig.specs.Grammar.{TypeExpr, Label, UnionCase, DeclaredUnion, spell_item, spell_type, spell_cases, spell_identity}
use Rattle.giop_sig.specs.Scopes.{Names, Scope, AddedType, with_node, has_default, labels_of, union_case, add_type, add_item, add_cases, add_switched_union, default_from, with_named, declare}
use Rattle.giop_sig.specs.Validity.{FaultKind, IsDiscriminator, OfType, OfDiscriminator, OfNonEmpty, OfCases, OfDeclaration, added_node}
use Rattle.giop_sig.specs.Outcomes.{refused}
use Rattle.giop_sig.specs.TypeReading.{type_at}
use Rattle.giop_sig.specs.ItemReading.{announces_at, announcement_at, declared_name_at, identity_at, DeclarationRead, type_end_at}
use Rattle.giop_sig.specs.UnionReading.{Cases, first_default_case, CasesRead, cases_at, union_node, can_switch, switch_at, union_after, union_at}
use Rattle.giop_sig.proofs.AddTypeLaws.{type_count, within_same, within_on, HasNoFewerTypes, node_more, add_type_more, add_type_names, named_more}
use Rattle.giop_sig.proofs.ReadingLaws.{IsMadeOrBreaksRule, good, broken, out_bind, out_more, BeginsWithoutMark}
use Rattle.giop_sig.proofs.TypeLaws.{type_added_and_rest, type_reads}
use Rattle.giop_sig.proofs.ItemLaws.{declared_reads, some_keeps, filled_end, filled_on, end_reads}
use Rattle.giop_sig.proofs.AnnouncedLaws.{not_announced, identity_apart}
use Rattle.giop_sig.proofs.IdentityLaws.{identity_reads}
use Rattle.giop_sig.proofs.EnumLaws.{out_as}
use Rattle.giop_sig.proofs.UnionLaws.{made_cases, made_more, labels_apart, cases_run}

-- ---- what the cases make

-- the case with the default, if there was none before
abbrev default_or : (selected : Selected) (i : ℕ) (union_cases : List UnionCase) → Selected
default_or selecteds.Nothing i cs = default_from i cs
default_or (selecteds.Case j) i cs = selecteds.Case j
default_or selecteds.Refused i cs = selecteds.Refused

default_by : (v : Bool) (i : ℕ) (cs : List UnionCase)
    → default_or (first_default_case selecteds.Nothing v i) (i + 1) cs
    ≡ cond v (selecteds.Case i) (default_from (i + 1) cs)
default_by true i cs = refl
default_by false i cs = refl

default_on : (otherwise : Selected) (i : ℕ) (c : UnionCase) (cs : List UnionCase)
    → default_or (first_default_case otherwise (has_default (labels_of c)) i) (i + 1) cs
    ≡ default_or otherwise i (c ∷ cs)
default_on selecteds.Nothing i c cs = search (arith, default_by)
default_on _ i c cs = refl

default_end : (otherwise : Selected) (i : ℕ) → otherwise ≡ default_or otherwise i []
default_end selecteds.Nothing i = refl
default_end _ i = refl

-- what was kept of the cases is what they make
record MakesCases (node : Node) (s : Scope) (cases : List Case) (otherwise : Selected) (index : ℕ)
    (cs : List UnionCase) (x : Scope × Cases) : Type 0 where
  scope : x.0 ≡ (add_cases s node cs).0
  cases-are : (x.1).cases ≡ cases ++ (add_cases s node cs).1
  otherwise-is : (x.1).otherwise ≡ default_or otherwise index cs

made_is : (cs : List UnionCase) (node : Node) (s : Scope) (labels : List Label)
    (names : List (List ℕ)) (cases : List Case) (otherwise : Selected)
    → MakesCases node s cases otherwise (length names) cs
    (made_cases node s labels names cases otherwise cs)
unfolding made_cases add_cases
made_is [] node s labels names cases otherwise = search (arith, append-nil, default_end)
made_is (c ∷ cs) node s labels names cases otherwise =
    let t = (add_item s c.item).0 in
    let one = union_case node c (add_item s c.item) in
    let next = first_default_case otherwise (has_default (labels_of c)) (length names) in
    let k = made_is cs node t (labels ++ labels_of c) (names ++ c.item.name ∷ [])
    (cases ++ one ∷ []) next in
    record {
      scope = k.scope;
      cases-are = k.cases-are ∙ append_assoc cases (one ∷ []) (add_cases t node cs).1;
      otherwise-is = k.otherwise-is ∙ ap (λ i. default_or next i cs)
          (length-append names (c.item.name ∷ [])) ∙ default_on otherwise (length names) c cs;
    }

-- ---- all cases

cases_reads : (switch : ℕ) (node : Node) (known : Names) (s : Scope) (cs : List UnionCase)
    (text : List ℕ) (more : List Token) → s.names ≡ known → switch < type_count s
    → node_at s.table switch ≡ node → OfCases kinds.Syntax known node [] [] cs
    → AreTokens text (spell_cases cs more)
    → IsMadeOrBreaksRule {X = CasesRead} (λ rest. (
      (made_cases node s [] [] [] selecteds.Nothing cs).0,
      (made_cases node s [] [] [] selecteds.Nothing cs).1,
      rest,
    ))
    (λ k. OfNonEmpty k cs × OfCases k known node [] [] cs)
    (made_cases node s [] [] [] selecteds.Nothing cs).0.table.types more (cases_at switch s text)
unfolding cases_at
cases_reads switch node known s [] text more names below same free h =
    rw (filled_end text h.0 (mark_if_again marks.CloseBrace text more h))
    (broken (refused kinds.Empty text) (λ k. k.0))
cases_reads switch node known s (c ∷ cs) text more names below same free h =
    rw (filled_on text (labels_apart c.label c.others text
    (spell_item c.item (mark marks.Semicolon ∷ spell_cases cs more)) h))
    (out_more (cases_run (c ∷ cs) 257 switch node known s [] [] [] selecteds.Nothing text more
    names below same tt (omega arith)
    refl (omega arith) free h)
    (λ k w. (some_keeps c cs k, w)) (λ k w. w.1))

-- ---- the discriminator

pub discriminates : (node : Node) → can_switch node ≡ true → IsDiscriminator node
discriminates (nodes.prim prims.Char) e = tt
discriminates (nodes.prim prims.Boolean) e = tt
discriminates (nodes.prim prims.Short) e = tt
discriminates (nodes.prim prims.UShort) e = tt
discriminates (nodes.prim prims.Long) e = tt
discriminates (nodes.prim prims.ULong) e = tt
discriminates (nodes.prim prims.LongLong) e = tt
discriminates (nodes.prim prims.ULongLong) e = tt
discriminates (nodes.enumeration names) e = tt
discriminates _ e = absurd cc

no_discriminator : (node : Node) → can_switch node ≡ false → IsDiscriminator node → ⊥
no_discriminator (nodes.prim prims.Char) e is = absurd cc
no_discriminator (nodes.prim prims.Boolean) e is = absurd cc
no_discriminator (nodes.prim prims.Short) e is = absurd cc
no_discriminator (nodes.prim prims.UShort) e is = absurd cc
no_discriminator (nodes.prim prims.Long) e is = absurd cc
no_discriminator (nodes.prim prims.ULong) e is = absurd cc
no_discriminator (nodes.prim prims.LongLong) e is = absurd cc
no_discriminator (nodes.prim prims.ULongLong) e is = absurd cc
no_discriminator (nodes.enumeration names) e is = absurd cc
no_discriminator _ e is = is

switch_keeps : (node : Node) → IsDiscriminator node → (k : FaultKind) → OfDiscriminator k node
switch_keeps node is kinds.Label = is
switch_keeps node is _ = tt

-- a type that isn't in the table can't be that of a discriminator
below_by : (s : Scope) (i : ℕ) (v : Bool) → ltb i (type_count s) ≡ v
    → IsDiscriminator (node_at s.table i) → i < type_count s
below_by s i true e is = ltb-true i (type_count s) e
below_by s i false e is = search (arith, get_or_past, ltb-false, type_count)

pub below_size : (s : Scope) (i : ℕ) → IsDiscriminator (node_at s.table i) → i < type_count s
below_size s i is = below_by s i (ltb i (type_count s)) refl is

switch_by : (s : Scope) (e : TypeExpr) (text rest : List ℕ) (more : List Token) (v : Bool)
    → can_switch (added_node (add_type s e)) ≡ v → AreTokens rest more
    → ((k : FaultKind) → OfType k false s.names e)
    → IsMadeOrBreaksRule (type_added_and_rest s e)
    (λ k. OfType k false s.names e × OfDiscriminator k (added_node (add_type s e)))
    (add_type s e).0.table.types more
    (cond v (Ok ((add_type s e).0, (add_type s e).1, rest)) (Err (refused kinds.Label text)))
switch_by s e text rest more true p m keeps = search (arith, good, switch_keeps, discriminates)
switch_by s e text rest more false p m keeps = search (arith, broken, no_discriminator)

switch_reads : (s : Scope) (e : TypeExpr) (text : List ℕ) (more : List Token)
    → OfType kinds.Syntax false s.names e → BeginsWithoutMark marks.OpenAngle more
    → AreTokens text (spell_type e more)
    → IsMadeOrBreaksRule (type_added_and_rest s e)
    (λ k. OfType k false s.names e × OfDiscriminator k (added_node (add_type s e)))
    (add_type s e).0.table.types more (switch_at s text)
unfolding switch_at
switch_reads s e text more free apart h =
    out_bind (type_at s text) (λ t. cond (can_switch (node_at (t.0).table t.1)) (Ok t)
    (Err (refused kinds.Label text)))
    (type_reads s e text more free apart h)
    (λ rest m keeps. switch_by s e text rest more (can_switch (added_node (add_type s e))) refl m
    keeps) (λ k w. w.0) within_same

-- ---- a union

-- the union with the cases that were kept
abbrev kept_union : (switch : ℕ) (x : Scope × Cases) → AddedType
kept_union switch x = with_node x.0 (nodes.union switch (x.1).cases (x.1).otherwise)

kept_is : (cs : List UnionCase) (p : AddedType) (node : Node) → node_at (p.0).table p.1 ≡ node
    → kept_union p.1 (made_cases node p.0 [] [] [] selecteds.Nothing cs) ≡ add_switched_union cs p
kept_is cs p node same = search (arith, made_is, made_cases)

choice_reads : (n : List ℕ) (id : Option (List ℕ)) (switch : TypeExpr) (cases : List UnionCase)
    (s : Scope) (text : List ℕ) (more : List Token)
    → OfDeclaration kinds.Syntax s (DeclaredUnion n id switch cases)
    → AreTokens text (word n ∷ spell_identity id (word (codes "switch")
    ∷ mark marks.OpenParenthesis
    ∷ spell_type switch (mark marks.CloseParenthesis ∷ mark marks.OpenBrace
    ∷ spell_cases cases (mark marks.Semicolon ∷ more))))
    → IsMadeOrBreaksRule {X = DeclarationRead} (λ rest. (
      with_named n id (kept_union (add_type s switch).1
          (made_cases (added_node (add_type s switch)) (add_type s switch).0 [] [] []
          selecteds.Nothing
          cases)),
      rest,
    )) (λ k. OfDeclaration k s (DeclaredUnion n id switch cases))
    (with_named n id (kept_union (add_type s switch).1
    (made_cases (added_node (add_type s switch)) (add_type s switch).0 [] [] [] selecteds.Nothing
    cases))).table.types more (union_at s text)
unfolding union_at union_after OfDeclaration
choice_reads n id switch cases s text more free h =
    let at = octets_left_at_token text in
    let p = add_type s switch in
    let node = added_node p in
    let m = made_cases node p.0 [] [] [] selecteds.Nothing cases in
    let whole = nodes.union p.1 (m.1).cases (m.1).otherwise in
    let inner = spell_cases cases (mark marks.Semicolon ∷ more) in
    let body = mark marks.CloseParenthesis ∷ mark marks.OpenBrace ∷ inner in
    let first_default_case = mark marks.OpenParenthesis ∷ spell_type switch body in
    let last = within_on (node_more m.0 whole) (named_more n id (with_node m.0 whole)) in
    let made = within_on (made_more node p.0 [] [] [] selecteds.Nothing cases) last in
    out_bind (declared_name_at s (Some type_words.Union) s.table.declared text)
    (λ d. announces_at s d.1 >>= λ a. cond a (announcement_at s type_words.Union text d.0 d.1)
    (union_after s text d.0 d.1))
    (declared_reads s.table.types s (Some type_words.Union) s.table.declared text n
    (spell_identity id (word (codes "switch") ∷ first_default_case)) free.0 h)
    (λ d td kd.
    rw (not_announced s d (spell_identity id (word (codes "switch") ∷ first_default_case))
    (identity_apart id (word (codes "switch") ∷ first_default_case) refl) td)
    (out_bind (identity_at s d) (λ i. keyword_at (codes "switch") i.1
    >>= λ w. mark_at marks.OpenParenthesis w >>= λ b.
    switch_at s b >>= λ t. mark_at marks.CloseParenthesis t.2
    >>= λ q. mark_at marks.OpenBrace q >>= λ o. cases_at t.1 t.0 o
    >>= λ cs. type_end_at at n i.0 cs.0 (union_node t.1 cs) cs.2)
    (identity_reads s.table.types s id d (word (codes "switch")) first_default_case refl free.1 td)
    (λ a ta ka.
    rw (
      keyword_again (codes "switch") a first_default_case ta,
      mark_again marks.OpenParenthesis ta.0 (spell_type switch body) ta.2,
    )
    (out_bind (switch_at s (ta.2).0)
    (λ t. mark_at marks.CloseParenthesis t.2 >>= λ q. mark_at marks.OpenBrace q >>= λ o.
    cases_at t.1 t.0 o >>= λ cs. type_end_at at n id cs.0 (union_node t.1 cs) cs.2)
    (switch_reads s switch (ta.2).0 body free.2 refl (ta.2).2)
    (λ b tb kb.
    let below = below_size p.0 p.1 (kb kinds.Label).1 in
    rw (
      mark_again marks.CloseParenthesis b (mark marks.OpenBrace ∷ inner) tb,
      mark_again marks.OpenBrace tb.0 inner tb.2,
    )
    (out_bind (cases_at p.1 p.0 (tb.2).0) (λ cs. type_end_at at n id cs.0 (union_node p.1 cs) cs.2)
    (cases_reads p.1 node s.names p.0 cases (tb.2).0 (mark marks.Semicolon ∷ more)
    (add_type_names s switch) below refl free.5 (tb.2).2)
    (λ c tc kc. end_reads at (with_named n id (with_node m.0 whole))
    (λ k. OfDeclaration k s (DeclaredUnion n id switch cases)) c more tc
    (λ k. (kd k, ka k, (kb k).0, (kb k).1, (kc k).0, (kc k).1)))
    (λ k w. (w.4, w.5)) last))
    (λ k w. (w.2, w.3)) made))
    (λ k w. w.1) (within_on (add_type_more s switch) made)))
    (λ k w. w.0) (within_on (add_type_more s switch) made)

-- what reading gives for a text that begins with a union, after its first word
pub union_reads : (s : Scope) (n : List ℕ) (id : Option (List ℕ)) (switch : TypeExpr)
    (cases : List UnionCase) (text : List ℕ) (more : List Token)
    → OfDeclaration kinds.Syntax s (DeclaredUnion n id switch cases)
    → AreTokens text (word n ∷ spell_identity id (word (codes "switch")
    ∷ mark marks.OpenParenthesis
    ∷ spell_type switch (mark marks.CloseParenthesis ∷ mark marks.OpenBrace
    ∷ spell_cases cases (mark marks.Semicolon ∷ more))))
    → IsMadeOrBreaksRule (λ rest. (declare s (DeclaredUnion n id switch cases), rest))
    (λ k. OfDeclaration k s (DeclaredUnion n id switch cases))
    (declare s (DeclaredUnion n id switch cases)).table.types more (union_at s text)
unfolding declare
union_reads s n id switch cases text more free h =
    let p = add_type s switch in
    let same = kept_is cases p (added_node p) refl in
    out_as (union_at s text) (choice_reads n id switch cases s text more free h)
    (λ rest. ap (λ (q : AddedType). (with_named n id q, rest)) same) (λ k w. w) (λ k w. w)
    (subst (λ (q : AddedType). HasNoFewerTypes (with_named n id (kept_union p.1
    (made_cases (added_node p) p.0 [] [] [] selecteds.Nothing cases))) (with_named n id q))
    same within_same)
