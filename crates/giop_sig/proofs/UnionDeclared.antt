-- A union that was read: the code may add it to the table, and the text that was read spells its
-- declaration.
use Rattle.std.proofs.Common.{◌≡◌, ℕ, ◌+◌, Bool, true, false, cond, List, [], ◌∷◌, length, Some, Ok, Err, sym, ap, subst, ◌∙◌, arith}
use Rattle.std.specs.Prelude.{codes}
use Rattle.std.proofs.lemmas.List.{length-append}
use Rattle.giop_tokens.specs.declared.fault.SigFaultKind.TheVariants as kinds
use Rattle.giop_tokens.specs.declared.marks.Mark.TheVariants as marks
use Rattle.giop_tokens.specs.Tokens.{word, mark, octets_left_at_token}
use Rattle.giop_tokens.proofs.ReaderLaws.{bind_ok, ok_is, TakesToken, mark_takes, keyword_takes}
use Rattle.giop_sig.specs.declared.announced.TypeWord.TheVariants as type_words
use Rattle.giop_sig.specs.Table.{Node, node_at, IsScalarNode, IsFormed}
use Rattle.giop_sig.specs.Table as nodes
use Rattle.giop_sig.specs.Grammar.{TypeExpr, DeclaredUnion, spell_type, spell_cases, spell_identity}
use Rattle.giop_sig.specs.Scopes.{Scope, add_type, with_node, with_named}
use Rattle.giop_sig.specs.Validity.{OfType, IsDiscriminator, OfCases, OfDeclaration, added_node}
use Rattle.giop_sig.specs.ScopeViews.{IsScope}
use Rattle.giop_sig.specs.Outcomes.{refused}
use Rattle.giop_sig.specs.TypeReading.{TypeRead}
use Rattle.giop_sig.specs.ItemReading.{announces_at, announcement_at, declared_name_at, IdentityRead, DeclarationRead}
use Rattle.giop_sig.specs.UnionReading.{CasesRead, cases_at, union_node, can_switch, switch_at, union_after, union_at}
use Rattle.giop_sig.proofs.TypeTaken.{AddsOnlyTypes, grows_on, TakenType, type_takes}
use Rattle.giop_sig.proofs.ItemTaken.{declared_takes, end_takes, TakenDeclaration}
use Rattle.giop_sig.proofs.AnnouncedLaws.{announces_third, announcement_takes}
use Rattle.giop_sig.proofs.IdentityLaws.{identity_takes}
use Rattle.giop_sig.proofs.UnionLaws.{node_stays}
use Rattle.giop_sig.proofs.UnionReads.{discriminates, below_size}
use Rattle.giop_sig.proofs.UnionTaken.{cases_taken}
use Rattle.giop_sig.proofs.ReadingLaws.{SpellsUpTo}

-- ---- the discriminator

record TakenSwitch (s : Scope) (text : List ℕ) (x : TypeRead) : Type 0 where
  pub expr : TypeExpr
  pub took : SpellsUpTo (spell_type expr) (OfType kinds.Syntax false s.names expr) text x.2
  pub grows : AddsOnlyTypes s x.0
  pub scope : IsScope s → IsScope x.0
  pub is : IsDiscriminator (node_at (x.0).table x.1)

switch_by : (s : Scope) (text : List ℕ) (t x : TypeRead) (v : Bool)
    → can_switch (node_at (t.0).table t.1) ≡ v → TakenType s text t
    → cond v (Ok t) (Err (refused kinds.Label text)) ≡ Ok x → TakenSwitch s text x
switch_by s text t x true p k e = search (arith, ok_is, discriminates)
switch_by s text t x false p k e = absurd cc

switch_taken : (s : Scope) (text : List ℕ) (x : TypeRead)
    → switch_at s text ≡ Ok x → TakenSwitch s text x
unfolding switch_at
switch_taken s text x e = search (arith, bind_ok, cond, switch_by, type_takes)

-- ---- what the code requires

-- the type of a discriminator is one of one number
discriminator_scalar : (node : Node) → IsDiscriminator node → IsScalarNode node
discriminator_scalar (nodes.prim p) is = tt
discriminator_scalar (nodes.enumeration names) is = tt
discriminator_scalar (nodes.marked m) is = tt
discriminator_scalar _ is = is

-- a union that was read may be in the table
pub union_formed : (s : Scope) (a b : List ℕ) (t : TypeRead) (x : CasesRead)
    → switch_at s a ≡ Ok t → cases_at t.1 t.0 b ≡ Ok x → IsScope s
    → IsFormed (x.0).table.types (length (x.0).table.types) (union_node t.1 x)
union_formed s a b t x e f is =
    let k = switch_taken s a t e in
    let c = cases_taken t.1 t.0 b x f in
    let scope = k.scope is in
    let below = below_size t.0 t.1 k.is in
    let longer : length (x.0).table.types ≡ length (t.0).table.types + length ((c.grows).types).0 =
    ap length ((c.grows).types).1 ∙ length-append (t.0).table.types ((c.grows).types).0 in
    let scalar = subst IsScalarNode (sym (node_stays t.0 x.0 t.1 c.grows below))
    (discriminator_scalar (node_at (t.0).table t.1) k.is) in
    (record { below = omega arith; scalar = scalar }, c.few scope, c.parts scope, c.below scope)

pub union_grows : (s : Scope) (a b : List ℕ) (t : TypeRead) (x : CasesRead)
    → switch_at s a ≡ Ok t → cases_at t.1 t.0 b ≡ Ok x → AddsOnlyTypes s x.0
union_grows s a b t x e f = grows_on s t.0 x.0 (switch_taken s a t e).grows
    (cases_taken t.1 t.0 b x f).grows

-- ---- the declaration

-- the text that was read spells the union
union_by : (s : Scope) (whole text : List ℕ) (d : List ℕ × List ℕ) (x : DeclarationRead)
    → TakesToken whole (word (codes "union")) text
    → declared_name_at s (Some type_words.Union) s.table.declared text ≡ Ok d
    → union_after s text d.0 d.1 ≡ Ok x → TakenDeclaration s whole x
unfolding union_after OfDeclaration
union_by s whole text d x before taken e =
    let n = d.0 in
    let i = bind_ok {A = IdentityRead} _ _ x e in
    let w = bind_ok {A = List ℕ} _ _ x i.2 in
    let b = bind_ok {A = List ℕ} _ _ x w.2 in
    let t = bind_ok {A = TypeRead} _ _ x b.2 in
    let q = bind_ok {A = List ℕ} _ _ x t.2 in
    let o = bind_ok {A = List ℕ} _ _ x q.2 in
    let cs = bind_ok {A = CasesRead} _ _ x o.2 in
    let last = with_named n (i.0).0 (with_node (cs.0).0 (union_node (t.0).1 cs.0)) in
    let r = end_takes (octets_left_at_token text) last (cs.0).2 x cs.2 in
    let a = declared_takes s (Some type_words.Union) s.table.declared text d taken in
    let u = (identity_takes s d.1 i.0 i.1).took in
    let k = switch_taken s b.0 t.0 t.1 in
    let c = cases_taken (t.0).1 (t.0).0 o.0 cs.0 cs.1 in
    let node = added_node (add_type s k.expr) in
    record {
      declaration = DeclaredUnion n (i.0).0 k.expr c.cases;
      took = record {
        free = (
          a.free,
          u.free,
          k.took.free,
          tt,
          tt,
          subst (λ ns. OfCases kinds.Syntax ns node [] [] c.cases) (k.grows).names (c.free node),
        );
        front = λ more m.
            let inner = spell_cases c.cases (mark marks.Semicolon ∷ more) in
            let body = mark marks.CloseParenthesis ∷ mark marks.OpenBrace ∷ inner in
            let chosen = word (codes "switch") ∷ mark marks.OpenParenthesis
            ∷ spell_type k.expr body in
            before (word n ∷ spell_identity (i.0).0 chosen)
            (a.front (spell_identity (i.0).0 chosen) (u.front chosen
            (keyword_takes (codes "switch") (i.0).1 w.0 w.1
            (mark marks.OpenParenthesis ∷ spell_type k.expr body)
            (mark_takes marks.OpenParenthesis w.0 b.0 b.1 (spell_type k.expr body)
            (k.took.front body
            (mark_takes marks.CloseParenthesis (t.0).2 q.0 q.1 (mark marks.OpenBrace ∷ inner)
            (mark_takes marks.OpenBrace q.0 o.0 o.1 inner
            (c.front (mark marks.Semicolon ∷ more)
            (mark_takes marks.Semicolon (cs.0).2 x.1 r.rest more m)))))))));
      };
      shallow = r.shallow;
    }

union_or : (s : Scope) (whole text : List ℕ) (d : List ℕ × List ℕ) (x : DeclarationRead) (v : Bool)
    → TakesToken whole (word (codes "union")) text
    → declared_name_at s (Some type_words.Union) s.table.declared text ≡ Ok d
    → announces_at s d.1 ≡ Ok v
    → cond v (announcement_at s type_words.Union text d.0 d.1) (union_after s text d.0 d.1) ≡ Ok x
    → TakenDeclaration s whole x
union_or s whole text d x true before taken a e =
    announcement_takes s type_words.Union whole text d x before taken (announces_third s d.1 a) e
union_or s whole text d x false before taken a e = union_by s whole text d x before taken e

-- the text that was read spells the union, or its announcement
pub union_takes : (s : Scope) (whole text : List ℕ) (x : DeclarationRead)
    → TakesToken whole (word (codes "union")) text → union_at s text ≡ Ok x
    → TakenDeclaration s whole x
unfolding union_at
union_takes s whole text x before e =
    let d = bind_ok {A = List ℕ × List ℕ} _ _ x e in
    let a = bind_ok {A = Bool} _ _ x d.2 in
    union_or s whole text d.0 x a.0 before d.1 a.1 a.2
