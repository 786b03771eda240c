-- Signature files, both ways: reading the spelling of one gives it or a rule that it breaks, and
-- the text that was read spells it.
use Rattle.std.proofs.Common.{◌≡◌, ◌⊎◌, inl, inr, ℕ, zero, suc, ◌<◌, ◌≤◌, Bool, true, false, ◌&&◌, cond, ltb, List, [], ◌∷◌, ◌++◌, length, Option, Some, None, Result, Ok, Err, refl, sym, ap, subst, ◌∙◌, arith}
use Rattle.std.specs.Prelude.{MatchResult, codes}
use Rattle.std.specs.Str.{bytes_eq}
use Rattle.std.proofs.lemmas.Slice.Eq.{bytes_eq-Decides}
use Rattle.giop_tokens.specs.declared.fault.TokenError.{TokenError}
use Rattle.giop_tokens.specs.declared.fault.SigFaultKind.TheVariants as kinds
use Rattle.giop_tokens.specs.declared.marks.Mark.TheVariants as marks
use Rattle.giop_tokens.specs.Tokens.{Token, word, number, repository, mark, octets_left_at_token, next, AreTokens}
use Rattle.giop_tokens.specs.Reading.{◌>>=◌}
use Rattle.giop_tokens.specs.Readers.{misplaced, word_at, mark_at, is_end, end_at}
use Rattle.giop_tokens.proofs.ReaderLaws.{bind_ok, ok_is, TakesToken, word_again, number_again, mark_again, keyword_again, end_again, end_other, word_takes, number_takes, mark_takes, keyword_takes}
use Rattle.giop_sig.specs.Grammar.{TypeExpr, Item, UnionCase, spell_type, spell_names, spell_items, spell_cases, spell_params, spell_return, spell_interfaces, spell_identity, Declaration, Enumeration, Structure, DeclaredUnion, Announcement, DeclaredException, Call, KeyOf, spell, spell_all, type_word, SignatureFile, is_version, spell_file}
use Rattle.giop_sig.specs.declared.announced.TypeWord.TheVariants as type_words
use Rattle.giop_sig.specs.Scopes.{is_version_3, Scope, first_scope, declare, last_scope, scope_after, settled, types_of_announced}
use Rattle.giop_sig.specs.Trees.{depth_of}
use Rattle.giop_sig.specs.Validity.{FaultKind, AllAreDeclared, OfDeclaration, UsesAllowedWords, EachInItsScope, SpellsUpTo, first_undeclared}
use Rattle.giop_sig.specs.ItemReading.{DeclarationRead, structure_after, structure_at, exception_at}
use Rattle.giop_sig.specs.CallReading.{operation_at, key_at}
use Rattle.giop_sig.specs.EnumReading.{enumeration_at}
use Rattle.giop_sig.specs.UnionReading.{union_after, union_at}
use Rattle.giop_sig.specs.Repeats.{in_steps}
use Rattle.giop_sig.specs.FileReading.{announcement_count, declaration_at, declaration_or_end, DeclarationsRead, declarations_step, misplaced_after, with_announced_left, resolved_if_declared, resolved_unless_undeclared, version_at, version_line_at, file_at}
use Rattle.giop_sig.proofs.ReadingLaws.{BreaksRuleOf, IsMadeOrBreaksRule}
use Rattle.giop_sig.proofs.AnnouncedLaws.{announced_reads}
use Rattle.giop_sig.proofs.ItemTaken.{TakenDeclaration}
use Rattle.giop_sig.proofs.SettleLaws.{deepest_settled}
use Rattle.giop_sig.proofs.DeclaredLaws.{structure_reads, structure_takes, raise_reads, raise_takes}
use Rattle.giop_sig.proofs.CallLaws.{operation_reads, operation_takes, key_reads, key_takes}
use Rattle.giop_sig.proofs.EnumLaws.{enumeration_reads, TakenEnumeration, enumeration_takes}
use Rattle.giop_sig.proofs.TokensFew.{tokens_few, next_none}
use Rattle.giop_sig.proofs.SpellLaws.{spelled_few}
use Rattle.giop_sig.proofs.Builtins.{first_shallow}

-- ---- a declaration

abbrev spell_raise : (one other : List ℕ) (items : List Item) (more : List Token) → List Token
spell_raise n r is more =
    word n ∷ repository r ∷ mark marks.OpenBrace ∷ spell_items is (mark marks.Semicolon ∷ more)

abbrev pub IsDeclaredOrRefusal : (scope : Scope) (declaration : Declaration) (more : List Token)
    (r : Result DeclarationRead TokenError) → Type 0
IsDeclaredOrRefusal s d more r =
    IsMadeOrBreaksRule {X = DeclarationRead} (λ rest. (declare s d, rest)) (λ k. OfDeclaration k s
    d)
    (declare s d).table.types more r

-- what reading gives for a union
abbrev pub UnionReads : Type 0
UnionReads =
    (s : Scope) (n : List ℕ) (id : Option (List ℕ)) (e : TypeExpr) (cs : List UnionCase)
    (text : List ℕ) (more : List Token)
    → OfDeclaration kinds.Syntax s (DeclaredUnion n id e cs)
    → AreTokens text (word n ∷ spell_identity id (word (codes "switch")
    ∷ mark marks.OpenParenthesis
    ∷ spell_type e (mark marks.CloseParenthesis ∷ mark marks.OpenBrace
    ∷ spell_cases cs (mark marks.Semicolon ∷ more))))
    → IsDeclaredOrRefusal s (DeclaredUnion n id e cs) more (union_at s text)

abbrev pub UnionTakes : Type 0
UnionTakes =
    (s : Scope) (whole text : List ℕ) (x : DeclarationRead) → TakesToken whole
    (word (codes "union")) text
    → union_at s text ≡ Ok x → TakenDeclaration s whole x

-- an announcement, after its first word
struct_announced : (s : Scope) (n text : List ℕ) (more : List Token)
    → OfDeclaration kinds.Syntax s (Announcement type_words.Struct n)
    → AreTokens text (word n ∷ mark marks.Semicolon ∷ more)
    → IsDeclaredOrRefusal s (Announcement type_words.Struct n) more (structure_at s text)
unfolding structure_at
struct_announced s n text more free h =
    announced_reads s type_words.Struct n text more (structure_after s text) free h

union_announced : (s : Scope) (n text : List ℕ) (more : List Token)
    → OfDeclaration kinds.Syntax s (Announcement type_words.Union n)
    → AreTokens text (word n ∷ mark marks.Semicolon ∷ more)
    → IsDeclaredOrRefusal s (Announcement type_words.Union n) more (union_at s text)
unfolding union_at
union_announced s n text more free h =
    announced_reads s type_words.Union n text more (union_after s text) free h

key_third : (s : Scope) (key id : List ℕ) → OfDeclaration kinds.Syntax s (KeyOf key id)
    → is_version_3 s.names ≡ true
unfolding OfDeclaration
key_third s key id free = free.0.0

declaration_reads : UnionReads → (d : Declaration) (s : Scope) (text : List ℕ) (more : List Token)
    → OfDeclaration kinds.Syntax s d → AreTokens text (spell d more)
    → IsDeclaredOrRefusal s d more (declaration_at s text)
unfolding declaration_at
declaration_reads union (Enumeration n id names) s text more free h =
    rw (word_again text (codes "enum") (word n ∷ spell_identity id (mark marks.OpenBrace
    ∷ spell_names names (mark marks.Semicolon ∷ more))) h)
    (enumeration_reads n id names s h.0 more free h.2)
declaration_reads union (Structure n id is) s text more free h =
    rw (word_again text (codes "struct") (word n ∷ spell_identity id (mark marks.OpenBrace
    ∷ spell_items is (mark marks.Semicolon ∷ more))) h)
    (structure_reads s n id is h.0 more free h.2)
declaration_reads union (DeclaredUnion n id e cs) s text more free h =
    rw (word_again text (codes "union") (word n ∷ spell_identity id (word (codes "switch")
    ∷ mark marks.OpenParenthesis ∷ spell_type e (mark marks.CloseParenthesis
    ∷ mark marks.OpenBrace ∷ spell_cases cs (mark marks.Semicolon ∷ more)))) h)
    (union s n id e cs h.0 more free h.2)
declaration_reads union (Announcement type_words.Struct n) s text more free h =
    rw (word_again text (codes "struct") (word n ∷ mark marks.Semicolon ∷ more) h)
    (struct_announced s n h.0 more free h.2)
declaration_reads union (Announcement type_words.Union n) s text more free h =
    rw (word_again text (codes "union") (word n ∷ mark marks.Semicolon ∷ more) h)
    (union_announced s n h.0 more free h.2)
declaration_reads union (DeclaredException n r is) s text more free h =
    rw (word_again text (codes "exception") (spell_raise n r is more) h)
    (raise_reads s n r is h.0 more free h.2)
declaration_reads union (Call o n ps ids) s text more free h =
    rw (word_again text (codes "operation")
    (spell_return o (word n ∷ mark marks.OpenParenthesis ∷ spell_params ps
    (spell_interfaces ids (mark marks.Semicolon ∷ more)))) h)
    (operation_reads s o n ps ids h.0 more free h.2)
declaration_reads union (KeyOf key id) s text more free h =
    rw (
      word_again text (codes "key") (repository key ∷ word (codes "of") ∷ repository id
          ∷ mark marks.Semicolon ∷ more) h,
      key_third s key id free,
    )
    (key_reads s key id h.0 more free h.2)

enumeration_taken : (s : Scope) (whole text : List ℕ) (x : DeclarationRead)
    → TakesToken whole (word (codes "enum")) text → TakenEnumeration s text x
    → TakenDeclaration s whole x
enumeration_taken s whole text x before t = record {
  declaration = Enumeration t.name t.id t.names;
  took = record {
    free = t.took.free;
    front = λ more m. before
        (word t.name ∷ spell_identity t.id (mark marks.OpenBrace
        ∷ spell_names t.names (mark marks.Semicolon ∷ more)))
        (t.took.front more m);
  };
  shallow = t.shallow;
}

after_by : UnionTakes → (s : Scope) (text w rest : List ℕ) (x : DeclarationRead)
    (a b c d e g f : Bool)
    → bytes_eq w (codes "enum") ≡ a → bytes_eq w (codes "struct") ≡ b
    → bytes_eq w (codes "union") ≡ c → bytes_eq w (codes "exception") ≡ d
    → bytes_eq w (codes "operation") ≡ e → is_version_3 s.names ≡ g → bytes_eq w (codes "key") ≡ f
    → TakesToken text (word w) rest → cond a (enumeration_at s rest)
    (cond b (structure_at s rest)
    (cond c (union_at s rest) (cond d (exception_at s rest)
    (cond e (operation_at s rest)
    (cond (g && f) (key_at s rest) (Err (misplaced text))))))) ≡ Ok x → TakenDeclaration s text x
after_by union s text w rest x true b c d e g f p q r u v y z t h =
    enumeration_taken s text rest x (subst (λ v. TakesToken text (word v) rest)
    ((bytes_eq-Decides w (codes "enum")).0 p) t) (enumeration_takes s rest x h)
after_by union s text w rest x false true c d e g f p q r u v y z t h = search (
  arith,
  structure_takes,
  bytes_eq-Decides,
)
after_by union s text w rest x false false true d e g f p q r u v y z t h =
    search (arith, bytes_eq-Decides)
after_by union s text w rest x false false false true e g f p q r u v y z t h = search (
  arith,
  raise_takes,
  bytes_eq-Decides,
)
after_by union s text w rest x false false false false true g f p q r u v y z t h = search (
  arith,
  operation_takes,
  bytes_eq-Decides,
)
after_by union s text w rest x false false false false false true true p q r u v y z t h =
    key_takes s text rest x y (subst (λ v. TakesToken text (word v) rest)
    ((bytes_eq-Decides w (codes "key")).0 z) t) h
after_by union s text w rest x false false false false false true false p q r u v y z t h =
    absurd cc
after_by union s text w rest x false false false false false false f p q r u v y z t h = absurd cc

declaration_takes : UnionTakes → (s : Scope) (text : List ℕ) (x : DeclarationRead)
    → declaration_at s text ≡ Ok x → TakenDeclaration s text x
unfolding declaration_at
declaration_takes union s text x e = search (arith, bind_ok, after_by, word_takes)

-- ---- declarations

-- one of the declarations breaks a rule, or makes the types too deep or too many
pub record BrokenIn (k : FaultKind) (s : Scope) (ds : List Declaration) : Type 0 where
  pub before : List Declaration
  pub broken : Declaration
  pub after : List Declaration
  pub all : ds ≡ before ++ broken ∷ after
  pub breaks : BreaksRuleOf k (λ k. OfDeclaration k (scope_after s before) broken)
      (declare (scope_after s before) broken).table.types

broken_later : (k : FaultKind) (s : Scope) (d : Declaration) (ds : List Declaration)
    → BrokenIn k (declare s d) ds → BrokenIn k s (d ∷ ds)
broken_later k s d ds b = record {
  before = d ∷ b.before;
  broken = b.broken;
  after = b.after;
  all =
      ap (λ es. d ∷ es) b.all;
  breaks = b.breaks;
}

-- what reading gives for declarations
abbrev pub IsScopeOrRefusal : (scope : Scope) (declarations : List Declaration)
    (result : Result Scope TokenError)
    → Type 0
IsScopeOrRefusal s ds r =
    MatchResult r (λ t. (t ≡ scope_after s ds)
    × ((k : FaultKind) → EachInItsScope (λ s d. OfDeclaration k s d) s ds))
    (λ e. BrokenIn e.kind s ds)

abbrev scope_of : (declarations : DeclarationsRead) → Result Scope TokenError
scope_of d = Ok d.0

abbrev then_declarations : (n : ℕ) (x : Bool × DeclarationsRead) →
    Result DeclarationsRead TokenError
then_declarations n x = cond x.0 (Ok x.1) (in_steps declarations_step misplaced_after n x.1)

file_more : (s : Scope) (d : Declaration) (ds : List Declaration)
    (r : Result DeclarationsRead TokenError)
    → ((k : FaultKind) → OfDeclaration k s d) → IsScopeOrRefusal (declare s d) ds (r >>= scope_of)
    → IsScopeOrRefusal s (d ∷ ds) (r >>= scope_of)
unfolding EachInItsScope
file_more s d ds (Ok t) keeps o = (o.0, λ k. (keeps k, o.1 k))
file_more s d ds (Err e) keeps o = broken_later e.kind s d ds o

-- a declaration, of which it is kept where it announces a name, and then the others
file_on : (n : ℕ) (s : Scope) (d : Declaration) (ds : List Declaration)
    (left : DeclarationRead → Result (List ℕ) TokenError)
    → ((x : DeclarationRead) → (lefts : List ℕ) × (left x ≡ Ok lefts))
    → (r : Result DeclarationRead TokenError) → IsDeclaredOrRefusal s d (spell_all ds) r
    → ((lefts rest : List ℕ) → AreTokens rest (spell_all ds)
    → IsScopeOrRefusal (declare s d) ds
    (in_steps declarations_step misplaced_after n (declare s d, lefts, rest) >>= scope_of))
    → IsScopeOrRefusal s (d ∷ ds)
    (((r >>= λ x. left x >>= λ lefts. Ok (false, (x.0, lefts, x.1)))
    >>= then_declarations n) >>= scope_of)
file_on n s d ds index placed (Ok x) o on =
    let g = o.out in
    let p = placed x in
    rw (p.1) (subst (λ (y : DeclarationRead). IsScopeOrRefusal s (d ∷ ds)
    (in_steps declarations_step misplaced_after n (y.0, p.0, y.1) >>= scope_of)) (sym g.is)
    (file_more s d ds (in_steps declarations_step misplaced_after n (declare s d, p.0, g.rest))
    g.keeps (on p.0 g.rest g.tokens)))
file_on n s d ds index placed (Err e) o on = record {
  before = [];
  broken = d;
  after = ds;
  all = refl;
  breaks =
      o.out;
}

word_first : (text w : List ℕ) (ts : List Token) → AreTokens text (word w ∷ ts)
    → (x : List ℕ × List ℕ) × (word_at text ≡ Ok x)
word_first text w ts h = ((w, h.0), word_again text w ts h)

-- a declaration begins with a word
first_word : (d : Declaration) (text : List ℕ) (more : List Token) → AreTokens text (spell d more)
    → (x : List ℕ × List ℕ) × (word_at text ≡ Ok x)
first_word (Enumeration n id names) text more h =
    word_first text (codes "enum") (word n ∷ spell_identity id (mark marks.OpenBrace
    ∷ spell_names names (mark marks.Semicolon ∷ more))) h
first_word (Structure n id is) text more h =
    word_first text (codes "struct") (word n ∷ spell_identity id (mark marks.OpenBrace
    ∷ spell_items is (mark marks.Semicolon ∷ more))) h
first_word (DeclaredUnion n id e cs) text more h =
    word_first text (codes "union") (word n ∷ spell_identity id (word (codes "switch")
    ∷ mark marks.OpenParenthesis ∷ spell_type e (mark marks.CloseParenthesis
    ∷ mark marks.OpenBrace ∷ spell_cases cs (mark marks.Semicolon ∷ more)))) h
first_word (Announcement kind n) text more h =
    word_first text (type_word kind) (word n ∷ mark marks.Semicolon ∷ more) h
first_word (DeclaredException n r is) text more h =
    word_first text (codes "exception") (spell_raise n r is more) h
first_word (Call o n ps ids) text more h =
    word_first text (codes "operation")
    (spell_return o (word n ∷ mark marks.OpenParenthesis ∷ spell_params ps
    (spell_interfaces ids (mark marks.Semicolon ∷ more)))) h
first_word (KeyOf key id) text more h =
    word_first text (codes "key") (repository key ∷ word (codes "of") ∷ repository id
    ∷ mark marks.Semicolon ∷ more) h

-- what is left from a declaration's name on is found
left_reads : (before after : ℕ) (lefts text : List ℕ) (x : List ℕ × List ℕ)
    → word_at text ≡ Ok x → (more : List ℕ) × (with_announced_left before after lefts text
    ≡ Ok more)
unfolding with_announced_left
left_reads before after lefts text x e =
    (cond (ltb before after) (lefts ++ octets_left_at_token x.1 ∷ []) lefts, rw e refl)

not_over : (d : Declaration) (text : List ℕ) (more : List Token)
    → AreTokens text (spell d more) → end_at text ≡ Ok false
not_over (Enumeration n id names) text more h = search (arith, end_other)
not_over (Structure n id is) text more h = search (arith, end_other)
not_over (DeclaredUnion n id e cs) text more h = search (arith, end_other)
not_over (Announcement kind n) text more h = search (arith, end_other)
not_over (DeclaredException n r is) text more h = search (arith, end_other)
not_over (Call o n ps ids) text more h = search (arith, end_other)
not_over (KeyOf key id) text more h = search (arith, end_other)

declarations_read : UnionReads → (ds : List Declaration) (n : ℕ) (s : Scope)
    (lefts text : List ℕ)
    → length ds < n → EachInItsScope UsesAllowedWords s ds → AreTokens text (spell_all ds)
    → IsScopeOrRefusal s ds (in_steps declarations_step misplaced_after n
    (s, lefts, text) >>= scope_of)
unfolding EachInItsScope in_steps declarations_step
declarations_read union [] zero s lefts text lt free h = absurd (omega arith)
declarations_read union (d ∷ ds) zero s lefts text lt free h = absurd (omega arith)
declarations_read union [] (suc n) s lefts text lt free h =
    rw (end_again text h) (refl, λ k. tt)
declarations_read union (d ∷ ds) (suc n) s lefts text lt free h =
    let w = first_word d text (spell_all ds) h in
    rw (not_over d text (spell_all ds) h)
    (file_on n s d ds
    (λ (x : DeclarationRead). with_announced_left (announcement_count s)
    (announcement_count x.0) lefts text)
    (λ x. left_reads (announcement_count s) (announcement_count x.0) lefts text w.0 w.1)
    (declaration_at s text)
    (declaration_reads union d s text (spell_all ds) free.0 h)
    (λ more rest m.
    declarations_read union ds n (declare s d) more rest (omega arith) free.1 m))

-- ---- the whole file

version_again : (latest : ℕ) (text : List ℕ) (n : ℕ) (more : List Token)
    (h : AreTokens text (number n ∷ more))
    → is_version latest n ≡ true → version_at latest text ≡ Ok (n, h.0)
unfolding version_at
version_again latest text n more h is = rw (number_again text n more h, is) refl

-- the scope of a file in which each announced name is declared and no rule is broken
pub record WholeFile (file : SignatureFile) (t : Scope) : Type 0 where
  pub is : t ≡ settled (last_scope file)
  pub declared : AllAreDeclared file
  pub keeps : (k : FaultKind)
      → EachInItsScope (λ s d. OfDeclaration k s d) (first_scope file.version) file.declarations

-- a refusal of a declaration, or of a name that is announced but not declared
abbrev pub RefusedFile : (file : SignatureFile) (refusal : TokenError) → Type 0
RefusedFile file e =
    BrokenIn e.kind (first_scope file.version) file.declarations
    ⊎ ((e.kind ≡ kinds.UnknownType) × (AllAreDeclared file → ⊥))

-- what reading gives for a file
abbrev pub IsWholeFileOrRefusal : (file : SignatureFile) (result : Result Scope TokenError) → Type 0
IsWholeFileOrRefusal file r = MatchResult r (WholeFile file) (RefusedFile file)

some_not_none : {X : Type 0} (x : X) → Some x ≡ None → ⊥
some_not_none x e = absurd cc

settled_out : (file : SignatureFile) (lefts : List ℕ) (o : Option ℕ)
    → first_undeclared (last_scope file).names ≡ o
    → ((k : FaultKind) → EachInItsScope (λ s d. OfDeclaration k s d) (first_scope file.version)
    file.declarations)
    → IsWholeFileOrRefusal file (resolved_unless_undeclared (last_scope file) lefts o)
settled_out file lefts None e keeps = record { is = refl; declared = e; keeps = keeps }
settled_out file lefts (Some i) e keeps =
    inr (refl, λ all. some_not_none i (sym e ∙ all))

whole_by : (file : SignatureFile) (r : Result DeclarationsRead TokenError)
    → IsScopeOrRefusal (first_scope file.version) file.declarations (r >>= scope_of)
    → IsWholeFileOrRefusal file (r >>= λ d. resolved_if_declared d.0 d.1)
unfolding resolved_if_declared
whole_by file (Ok d) o =
    subst (λ (s : Scope). IsWholeFileOrRefusal file
    (resolved_unless_undeclared s d.1 (first_undeclared s.names)))
    (sym o.0)
    (settled_out file d.1 (first_undeclared (last_scope file).names) refl o.1)
whole_by file (Err e) o = inl o

pub file_reads : {latest : ℕ} → UnionReads → (text : List ℕ) (file : SignatureFile)
    → SpellsUpTo latest text file → IsWholeFileOrRefusal file (file_at latest text)
unfolding file_at version_line_at
file_reads {latest = latest} union text file spells =
    let h = spells.tokens in
    let ds = file.declarations in
    let tail = mark marks.Semicolon ∷ spell_all ds in
    let few = tokens_few (spell_file file) text h in
    rw (
      keyword_again (codes "signatures") text (number file.version ∷ tail) h,
      version_again latest h.0 file.version tail h.2 spells.version,
      mark_again marks.Semicolon (h.2).0 (spell_all ds) (h.2).2,
    )
    (whole_by file
    (in_steps declarations_step misplaced_after (length text)
    (first_scope file.version, [], ((h.2).2).0))
    (declarations_read union ds (length text) (first_scope file.version) [] ((h.2).2).0
    (omega (arith, few, spelled_few ds)) spells.words ((h.2).2).2))

-- ---- what was read

pub record TakenDeclarations (s : Scope) (text : List ℕ) : Type 0 where
  pub declarations : List Declaration
  pub words : EachInItsScope UsesAllowedWords s declarations
  pub tokens : AreTokens text (spell_all declarations)

end_none : (text : List ℕ) (o : Option Token) (rest : List ℕ) → next text ≡ Ok (o, rest)
    → is_end o ≡ true → AreTokens text []
end_none text None rest h e = search (arith, next_none)
end_none text (Some t) rest h e = absurd cc

end_from : (text : List ℕ) → end_at text ≡ Ok true → AreTokens text []
unfolding end_at
end_from text e = search (arith, bind_ok, end_none, ok_is)

-- the scope after a declaration that was read is that of the declaration that the text spells
declared_is : UnionReads
    → (s : Scope) (d : Declaration) (text : List ℕ) (more : List Token) (x : DeclarationRead)
    → UsesAllowedWords s d → AreTokens text (spell d more) → declaration_at s text ≡ Ok x
    → x.0 ≡ declare s d
declared_is union s d text more x words h e = search (arith, declaration_reads)

-- what was read, with what is left from the declaration's name on if it announced that
abbrev with_declaration_noted : (scope : Scope) (lefts text : List ℕ) (next : DeclarationRead) →
    Result (Bool × DeclarationsRead) TokenError
with_declaration_noted s lefts text next =
    with_announced_left (announcement_count s) (announcement_count next.0) lefts text
    >>= λ more. Ok (false, (next.0, more, next.1))

over_by : (n : ℕ) (s : Scope) (lefts text : List ℕ) (v : Bool) (x : Bool × DeclarationsRead)
    (t : DeclarationsRead)
    → end_at text ≡ Ok v → declaration_or_end (s, lefts, text) v ≡ Ok x
    → then_declarations n x ≡ Ok t → UnionReads → UnionTakes
    → ((s : Scope) (lefts text : List ℕ)
    → in_steps declarations_step misplaced_after n (s, lefts, text) ≡ Ok t
    → TakenDeclarations s text)
    → TakenDeclarations s text
unfolding EachInItsScope
over_by n s lefts text true x t over e run reads takes on =
    record { declarations = []; words = tt; tokens = end_from text over }
over_by n s lefts text false x t over e run reads takes on =
    let d = bind_ok (declaration_at s text) (with_declaration_noted s lefts text) x e in
    let p = bind_ok (with_announced_left (announcement_count s)
    (announcement_count (d.0).0) lefts text)
    (λ more. Ok (false, ((d.0).0, more, (d.0).1))) x d.2 in
    let k = declaration_takes takes s text d.0 d.1 in
    let rest = on (d.0).0 p.0 (d.0).1
    (ap (then_declarations n) (ok_is (false, ((d.0).0, p.0, (d.0).1)) x p.2) ∙ run) in
    let more = spell_all rest.declarations in
    let tokens : AreTokens text (spell k.declaration more) = k.took.front more rest.tokens in
    record {
      declarations = k.declaration ∷ rest.declarations;
      words = (
        k.took.free,
        subst (λ t. EachInItsScope UsesAllowedWords t rest.declarations)
            (declared_is reads s k.declaration text more d.0 k.took.free tokens d.1) rest.words,
      );
      tokens = tokens;
    }

declarations_take : UnionReads → UnionTakes → (n : ℕ) (s : Scope) (lefts text : List ℕ)
    (t : DeclarationsRead)
    → in_steps declarations_step misplaced_after n (s, lefts, text) ≡ Ok t
    → TakenDeclarations s text
unfolding in_steps declarations_step
declarations_take reads takes zero s lefts text t e = absurd cc
declarations_take reads takes (suc n) s lefts text t e =
    let x = bind_ok (declarations_step (s, lefts, text)) (then_declarations n) t e in
    let o = bind_ok (end_at text) (declaration_or_end (s, lefts, text)) x.0 x.1 in
    over_by n s lefts text o.0 x.0 t o.1 o.2 x.2 reads takes
    (λ s lefts text run. declarations_take reads takes n s lefts text t run)

-- what was read of declarations isn't too deep

shallow_by : UnionTakes → (n : ℕ) (s : Scope) (lefts text : List ℕ) (v : Bool)
    (x : Bool × DeclarationsRead) (t : DeclarationsRead)
    → declaration_or_end (s, lefts, text) v ≡ Ok x → then_declarations n x ≡ Ok t
    → depth_of s.table.types ≤ 24
    → ((s : Scope) (lefts text : List ℕ)
    → in_steps declarations_step misplaced_after n (s, lefts, text) ≡ Ok t
    → depth_of s.table.types ≤ 24 → depth_of (t.0).table.types ≤ 24)
    → depth_of (t.0).table.types ≤ 24
shallow_by takes n s lefts text true x t e run le on =
    let first : (true, (s, lefts, text)) ≡ x = ok_is (true, (s, lefts, text)) x e in
    let last : (s, lefts, text) ≡ t = ok_is (s, lefts, text) t
    (ap (then_declarations n) first ∙ run) in
    subst (λ (d : DeclarationsRead). depth_of (d.0).table.types ≤ 24) last le
shallow_by takes n s lefts text false x t e run le on =
    let d = bind_ok (declaration_at s text) (with_declaration_noted s lefts text) x e in
    let p = bind_ok (with_announced_left (announcement_count s)
    (announcement_count (d.0).0) lefts text)
    (λ more. Ok (false, ((d.0).0, more, (d.0).1))) x d.2 in
    on (d.0).0 p.0 (d.0).1
    (ap (then_declarations n) (ok_is (false, ((d.0).0, p.0, (d.0).1)) x p.2) ∙ run)
    (declaration_takes takes s text d.0 d.1).shallow

declarations_shallow : UnionTakes → (n : ℕ) (s : Scope) (lefts text : List ℕ)
    (t : DeclarationsRead)
    → in_steps declarations_step misplaced_after n (s, lefts, text) ≡ Ok t
    → depth_of s.table.types ≤ 24 → depth_of (t.0).table.types ≤ 24
unfolding in_steps declarations_step
declarations_shallow takes zero s lefts text t e le = absurd cc
declarations_shallow takes (suc n) s lefts text t e le =
    let x = bind_ok (declarations_step (s, lefts, text)) (then_declarations n) t e in
    let o = bind_ok (end_at text) (declaration_or_end (s, lefts, text)) x.0 x.1 in
    shallow_by takes n s lefts text o.0 x.0 t o.2 x.2 le
    (λ s lefts text run le. declarations_shallow takes n s lefts text t run le)

-- the scope at the end is that of the declarations, settled
settled_by : (s : Scope) (lefts : List ℕ) (o : Option ℕ) (t : Scope)
    → resolved_unless_undeclared s lefts o ≡ Ok t → settled s ≡ t
settled_by s lefts None t e = ok_is (settled s) t e
settled_by s lefts (Some i) t e = absurd cc

settled_takes : (s : Scope) (lefts : List ℕ) (t : Scope) → resolved_if_declared s lefts ≡ Ok t
    → settled s ≡ t
unfolding resolved_if_declared
settled_takes s lefts t e = settled_by s lefts (first_undeclared s.names) t e

pub file_shallow : (latest : ℕ) → UnionTakes → (text : List ℕ) (t : Scope)
    → file_at latest text ≡ Ok t → depth_of t.table.types ≤ 24
unfolding file_at
file_shallow latest takes text t e =
    let read : ℕ × List ℕ → Result DeclarationsRead TokenError =
    λ h. in_steps declarations_step misplaced_after (length text) (first_scope h.0, [], h.1) in
    let h = bind_ok (version_line_at latest text)
    (λ h. read h >>= λ d. resolved_if_declared d.0 d.1) t e in
    let d = bind_ok (read h.0) (λ d. resolved_if_declared d.0 d.1) t h.2 in
    let less = declarations_shallow takes (length text) (first_scope (h.0).0) [] (h.0).1 d.0 d.1
    (first_shallow (h.0).0) in
    let same = deepest_settled (types_of_announced ((d.0).0).names) ((d.0).0).table.types in
    subst (λ (s : Scope). depth_of s.table.types ≤ 24)
    (settled_takes (d.0).0 (d.0).1 t d.2) (omega (arith, less, same))

-- the version that a file begins with
record TakenHead (latest : ℕ) (text : List ℕ) (x : ℕ × List ℕ) : Type 0 where
  pub version : is_version latest x.0 ≡ true
  pub front : (more : List Token) → AreTokens x.1 more
      → AreTokens text (word (codes "signatures") ∷ number x.0 ∷ mark marks.Semicolon ∷ more)

version_by : (latest : ℕ) (text : List ℕ) (n x : ℕ × List ℕ) (v : Bool)
    → is_version latest n.0 ≡ v
    → cond v (Ok (n.0, n.1)) (Err (misplaced text)) ≡ Ok x
    → (is_version latest n.0 ≡ true) × (n ≡ x)
version_by latest text n x true h e = (h, ok_is n x e)
version_by latest text n x false h e = absurd cc

version_takes : (latest : ℕ) (text : List ℕ) (x : ℕ × List ℕ) → version_at latest text ≡ Ok x
    → (is_version latest x.0 ≡ true) × TakesToken text (number x.0) x.1
unfolding version_at
version_takes latest text x e = search (arith, bind_ok, version_by latest, number_takes)

head_takes : (latest : ℕ) (text : List ℕ) (x : ℕ × List ℕ) → version_line_at latest text ≡ Ok x
    → TakenHead latest text x
unfolding version_line_at
head_takes latest text x e =
    let k = bind_ok _ _ x e in
    let v = bind_ok {A = ℕ × List ℕ} _ _ x k.2 in
    let r = bind_ok (mark_at marks.Semicolon (v.0).1) (λ r. Ok ((v.0).0, r)) x v.2 in
    let is = version_takes latest k.0 v.0 v.1 in
    subst (TakenHead latest text) (ok_is ((v.0).0, r.0) x r.2) (record {
      version = is.0;
      front = λ more m.
          let tail = mark marks.Semicolon ∷ more in
          keyword_takes (codes "signatures") text k.0 k.1 (number (v.0).0 ∷ tail)
          (is.1 tail (mark_takes marks.Semicolon (v.0).1 r.0 r.1 more m));
    })

pub file_takes : (latest : ℕ) → UnionReads → UnionTakes → (text : List ℕ) (t : Scope)
    → length text ≤ 1048576
    → file_at latest text ≡ Ok t → (file : SignatureFile) × SpellsUpTo latest text file
unfolding file_at
file_takes latest reads takes text t short e =
    let h = bind_ok {A = ℕ × List ℕ} _ _ t e in
    let d = bind_ok {A = DeclarationsRead} _ _ t h.2 in
    let head = head_takes latest text h.0 h.1 in
    let all = declarations_take reads takes (length text) (first_scope (h.0).0) [] (h.0).1 d.0 d.1
    in (
      record { version = (h.0).0; declarations = all.declarations },
      record {
        short = short;
        tokens = head.front (spell_all all.declarations) all.tokens;
        version = head.version;
        words = all.words;
      },
    )
