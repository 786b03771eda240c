-- All valid files that a text spells have the same table: it is read in one way, and a valid file
-- breaks no rule.
use Rattle.std.proofs.Common.{◌≡◌, inl, inr, ℕ, ◌++◌, ◌∷◌, [], List, Result, Ok, Err, ap, subst, arith}
use Rattle.giop_tokens.specs.declared.fault.TokenError.{TokenError}
use Rattle.giop_tokens.specs.declared.fault.SigFaultKind.TheVariants as kinds
use Rattle.giop_sig.specs.Grammar.{Declaration, SignatureFile}
use Rattle.giop_sig.specs.Scopes.{Scope, first_scope, declare, scope_after, table}
use Rattle.giop_sig.specs.Validity.{FaultKind, EachInItsScope, IsValid, SpellsUpTo}
use Rattle.giop_sig.specs.FileReading.{file_at}
use Rattle.giop_sig.proofs.FileLaws.{BrokenIn, RefusedFile, WholeFile, IsWholeFileOrRefusal, file_reads}
use Rattle.giop_sig.proofs.FileRules.{not_too_many}
use Rattle.giop_sig.proofs.UnionWhole.{union_read}

-- a rule that is true of each declaration is true of the one after these
each_at : (R : Scope → Declaration → Type 0) (s : Scope) (ds before after : List Declaration)
    (d : Declaration)
    → ds ≡ before ++ d ∷ after → EachInItsScope R s ds → R (scope_after s before) d
unfolding EachInItsScope
each_at R s [] [] after d is each = absurd cc
each_at R s [] (b ∷ before) after d is each = absurd cc
each_at R s (e ∷ es) [] after d is each = search (arith)
each_at R s (e ∷ es) (b ∷ before) after d is each =
    let same : e ≡ b = cc in
    let rest : es ≡ before ++ d ∷ after = cc in
    subst (λ x. R (scope_after (declare s x) before) d) same
    (each_at R (declare s e) es before after d rest each.1)

-- a declaration of a valid file breaks no rule
not_broken : {latest : ℕ} (k : FaultKind) (text : List ℕ) (file : SignatureFile)
    → SpellsUpTo latest text file → IsValid file
    → BrokenIn k (first_scope file.version) file.declarations → ⊥
not_broken kinds.Depth text file spells valid b = search (arith, each_at)
not_broken kinds.UnknownType text file spells valid b = search (arith, each_at)
not_broken kinds.Duplicate text file spells valid b = search (arith, each_at)
not_broken kinds.Empty text file spells valid b = search (arith, each_at)
not_broken kinds.Label text file spells valid b = search (arith, each_at)
not_broken kinds.Limit text file spells valid b = search (arith, each_at, not_too_many)
not_broken _ text file spells valid b = b.breaks

not_refused : {latest : ℕ} (why : TokenError) (text : List ℕ) (file : SignatureFile)
    → SpellsUpTo latest text file → IsValid file → RefusedFile file why → ⊥
not_refused why text file spells valid (inl b) = not_broken why.kind text file spells valid b
not_refused why text file spells valid (inr u) = u.1 valid.declared

-- the table of a valid file that was read
read_table : {latest : ℕ} (text : List ℕ) (t : Scope) (file : SignatureFile)
    → SpellsUpTo latest text file → file_at latest text ≡ Ok t
    → t.table ≡ table file
read_table text t file spells e =
    let out : WholeFile file t = subst (IsWholeFileOrRefusal file) e
    (file_reads union_read text file spells) in
    ap (λ (x : Scope). x.table) out.is

table_by : {latest : ℕ} (text : List ℕ) (f g : SignatureFile)
    → SpellsUpTo latest text f → IsValid f → SpellsUpTo latest text g
    → (r : Result Scope TokenError) → file_at latest text ≡ r → table f ≡ table g
table_by text f g spells valid others (Ok t) e = search (arith, read_table)
table_by text f g spells valid others (Err why) e =
    absurd (not_refused why text f spells valid
    (subst (IsWholeFileOrRefusal f) e (file_reads union_read text f spells)))

pub one_table : (latest : ℕ) (text : List ℕ) (f g : SignatureFile)
    → SpellsUpTo latest text f → IsValid f → SpellsUpTo latest text g
    → table f ≡ table g
one_table latest text f g spells valid others = search (arith, table_by)
