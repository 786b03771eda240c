-- What reading gives for a signature file, as the contract has it.
use Rattle.std.proofs.Common.{◌≡◌, ℕ, ◌+◌, ◌^◌, ◌<◌, ◌≤◌, ◌⊎◌, inl, inr, true, eqb, leb, List, [], ◌∷◌, length, Ok, Err, sym, ap, subst, arith}
use Rattle.std.proofs.lemmas.Bool.{eqb-true, leb-true}
use Rattle.giop_tokens.specs.declared.fault.TokenError.{TokenError}
use Rattle.giop_tokens.specs.declared.fault.SigFaultKind.TheVariants as kinds
use Rattle.giop_sig.specs.Grammar.{Declaration, spell_all, SignatureFile, is_version, spell_file}
use Rattle.giop_sig.specs.Scopes.{Scope, first_scope, declare, last_scope, scope_after, table, types_of_announced}
use Rattle.giop_sig.specs.Validity.{FaultKind, AllAreDeclared, IsShallow, EachInItsScope, RuleOfKind, IsValid, SpellsUpTo, IsBroken, Refuses}
use Rattle.giop_sig.specs.FileReading.{file_at}
use Rattle.giop_sig.proofs.AddTypeLaws.{deepest_in_scope, type_count, scope_more}
use Rattle.giop_sig.proofs.Solid.{both}
use Rattle.giop_sig.proofs.TokensFew.{tokens_few}
use Rattle.giop_sig.proofs.SizeLaws.{types_few, types_fewer}
use Rattle.giop_sig.specs.AnyTypes.{first_types}
use Rattle.giop_sig.proofs.Builtins.{first_few, more_by}
use Rattle.giop_sig.proofs.FileLaws.{UnionReads, UnionTakes, BrokenIn, WholeFile, IsWholeFileOrRefusal, file_reads, file_takes}
use Rattle.giop_sig.proofs.SettleLaws.{deepest_settled, size_settled}

each_shallow : (ds : List Declaration) (s : Scope)
    → deepest_in_scope (scope_after s ds) ≤ 24 → EachInItsScope IsShallow s ds
unfolding EachInItsScope
each_shallow [] s le = tt
each_shallow (d ∷ ds) s le = (
  omega (arith, (scope_more (declare s d) ds).deeper),
  each_shallow ds (declare s d) le,
)

-- what was read is the table of a valid file
pub file_valid : {latest : ℕ} → UnionReads → (text : List ℕ) (t : Scope) (file : SignatureFile)
    → SpellsUpTo latest text file
    → file_at latest text ≡ Ok t → deepest_in_scope t ≤ 24 → IsValid file × (t.table ≡ table file)
file_valid union text t file spells e shallow =
    let s = first_scope file.version in
    let ds = file.declarations in
    let o : WholeFile file t = subst (IsWholeFileOrRefusal file) e
    (file_reads union text file spells) in
    let same = deepest_settled (types_of_announced (last_scope file).names)
    (last_scope file).table.types in (
      record {
        declared = o.declared;
        known = o.keeps kinds.UnknownType;
        distinct = o.keeps kinds.Duplicate;
        some = o.keeps kinds.Empty;
        labels = o.keeps kinds.Label;
        shallow = each_shallow ds s (omega (arith, ap deepest_in_scope o.is, same, shallow));
        within = o.keeps kinds.Limit;
      },
      ap (λ (x : Scope). x.table) o.is,
    )

third_latest : (latest version : ℕ) → latest ≤ 3 → is_version latest version ≡ true
    → eqb version 3 ≡ true → eqb latest 3 ≡ true
third_latest latest version most is third =
    let up = both (leb 1 version) (leb version latest) is in
    let low = leb-true version latest up.1 in
    let at = eqb-true version 3 third in
    let same : version ≡ latest = omega arith in
    subst (λ n. eqb n 3 ≡ true) same third

-- a file of the latest version begins with the most types
first_up_to : (latest version : ℕ) → latest ≤ 3 → is_version latest version ≡ true
    → length (first_types version) ≤ length (first_types latest)
first_up_to latest version most is =
    more_by (eqb version 3) (eqb latest 3) (third_latest latest version most is)

-- a file adds no more types than its text has octets
pub file_few : (latest : ℕ) → UnionReads → UnionTakes → (text : List ℕ) (t : Scope) → latest ≤ 3
    → length text ≤ 1048576
    → file_at latest text ≡ Ok t → type_count t ≤ length (first_types latest) + length text
file_few latest reads takes text t most short e =
    let f = file_takes latest reads takes text t short e in
    let s = first_scope (f.0).version in
    let ds = (f.0).declarations in
    let o : WholeFile f.0 t = subst (IsWholeFileOrRefusal f.0) e (file_reads reads text f.0 f.1) in
    omega (
      arith,
      ap type_count o.is,
      size_settled (types_of_announced (last_scope f.0).names) (last_scope f.0).table.types,
      tokens_few (spell_file f.0) text (f.1).tokens,
      types_few s ds,
      first_up_to latest (f.0).version most (f.1).version,
    )

is_broken : (k : FaultKind) (file : SignatureFile)
    → (b : BrokenIn k (first_scope file.version) file.declarations)
    → (RuleOfKind k (scope_after (first_scope file.version) b.before) b.broken → ⊥)
    → IsBroken k file
is_broken k file b breaks = search (arith)

-- the declarations of a text never make too many types
pub not_too_many : {latest : ℕ} (text : List ℕ) (file : SignatureFile)
    → SpellsUpTo latest text file
    → (b : BrokenIn kinds.Limit (first_scope file.version) file.declarations)
    → type_count (declare (scope_after (first_scope file.version) b.before) b.broken) < 2 ^ 32
not_too_many text file spells b =
    let s = first_scope file.version in
    let short = spells.short in
    let spelled = ap (λ ds. length (spell_all ds)) b.all in
    omega (
      arith,
      tokens_few (spell_file file) text spells.tokens,
      types_fewer s b.before b.broken b.after,
      first_few file.version,
    )

limit_broken : (file : SignatureFile)
    → (b : BrokenIn kinds.Limit (first_scope file.version) file.declarations)
    → type_count (declare (scope_after (first_scope file.version) b.before) b.broken) < 2 ^ 32
    → (RuleOfKind kinds.Limit (scope_after (first_scope file.version) b.before) b.broken → ⊥)
    ⊎ (2 ^ 32 ≤ type_count (declare (scope_after (first_scope file.version) b.before) b.broken))
    → IsBroken kinds.Limit file
limit_broken file b few (inl breaks) = search (arith, is_broken)
limit_broken file b few (inr many) = absurd (omega arith)

refuses : {latest : ℕ} (k : FaultKind) (text : List ℕ) (file : SignatureFile)
    → SpellsUpTo latest text file
    → BrokenIn k (first_scope file.version) file.declarations → Refuses k file
refuses kinds.OutOfMemory text file spells b = tt
refuses kinds.Depth text file spells b = search (arith, is_broken)
refuses kinds.UnknownType text file spells b = inl (is_broken kinds.UnknownType file b b.breaks)
refuses kinds.Duplicate text file spells b = search (arith, is_broken)
refuses kinds.Limit text file spells b = search (arith, limit_broken, not_too_many)
refuses kinds.Label text file spells b = search (arith, is_broken)
refuses kinds.Empty text file spells b = search (arith, is_broken)
refuses _ text file spells b = b.breaks

undeclared_refuses : (k : FaultKind) (file : SignatureFile) → k ≡ kinds.UnknownType
    → (AllAreDeclared file → ⊥) → Refuses k file
undeclared_refuses k file e never = subst (λ j. Refuses j file) (sym e) (inr never)

refuses_by : {latest : ℕ} (k : FaultKind) (text : List ℕ) (file : SignatureFile)
    → SpellsUpTo latest text file
    → BrokenIn k (first_scope file.version) file.declarations
    ⊎ ((k ≡ kinds.UnknownType) × (AllAreDeclared file → ⊥)) → Refuses k file
refuses_by k text file spells (inl b) = refuses k text file spells b
refuses_by k text file spells (inr u) = undeclared_refuses k file u.0 u.1

-- a text that spells a file is refused for a rule that one of its declarations breaks, or for a
-- name that is only announced
pub file_refuses : {latest : ℕ} → UnionReads → (text : List ℕ) (e : TokenError) (file :
    SignatureFile)
    → SpellsUpTo latest text file → file_at latest text ≡ Err e → Refuses e.kind file
file_refuses union text e file spells h =
    refuses_by e.kind text file spells (subst (IsWholeFileOrRefusal file) h
    (file_reads union text file spells))
