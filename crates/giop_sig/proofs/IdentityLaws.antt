-- Repository ids of types, both ways: reading the spelling of one gives it or a rule that it
-- breaks, and the text that was read spells it.
use Rattle.std.proofs.Common.{◌≡◌, ℕ, ◌≤◌, Bool, true, false, cond, List, ◌∷◌, length, Option, Some, None, Ok, Err, refl, subst, arith}
use Rattle.std.specs.Prelude.{option_and_then}
use Rattle.std.specs.Option.{is_some}
use Rattle.giop_tokens.specs.declared.fault.SigFaultKind.TheVariants as kinds
use Rattle.giop_tokens.specs.Tokens.{Token, repository, next, AreTokens}
use Rattle.giop_tokens.specs.Readers.{as_repository, next_as, repository_at}
use Rattle.giop_tokens.proofs.ReaderLaws.{bind_ok, ok_is, repository_again, repository_few, repository_takes}
use Rattle.giop_sig.specs.Table.{Node, identified_in}
use Rattle.giop_sig.specs.Grammar.{spell_identity}
use Rattle.giop_sig.specs.Scopes.{is_version_3, Scope}
use Rattle.giop_sig.specs.Validity.{FaultKind, OfTypeId, OfIdentity}
use Rattle.giop_sig.specs.ScopeViews.{IsNewIdentity}
use Rattle.giop_sig.specs.Outcomes.{refused}
use Rattle.giop_sig.specs.ItemReading.{IdentityRead, identity_after, identity_by, identity_at}
use Rattle.giop_sig.proofs.ReadingLaws.{IsMadeOrBreaksRule, good, broken, SpellsUpTo}
use Rattle.giop_sig.proofs.TypeTaken.{AddsOnlyTypes}
use Rattle.giop_sig.proofs.ItemTaken.{none_of}
use Rattle.giop_sig.proofs.ItemLaws.{some_none}

-- ---- a text that is spelled so

identity_keeps : (s : Scope) (id : List ℕ) → is_version_3 s.names ≡ true → length id ≤ 128
    → identified_in s.table id ≡ None → (k : FaultKind) → OfTypeId k s id
identity_keeps s id third short new kinds.Syntax = third
identity_keeps s id third short new kinds.Limit = short
identity_keeps s id third short new kinds.Duplicate = new
identity_keeps s id third short new _ = tt

id_reads : (types : List Node) (s : Scope) (text id rest : List ℕ) (more : List Token)
    (known : Bool) → is_some (identified_in s.table id) ≡ known → AreTokens rest more
    → is_version_3 s.names ≡ true → length id ≤ 128
    → IsMadeOrBreaksRule {X = IdentityRead} (λ rest. (Some id, rest)) (λ k. OfTypeId k s id) types
    more
    (cond known (Err (refused kinds.Duplicate text)) (Ok (Some id, rest)))
id_reads types s text id rest more true e m third short =
    broken (refused kinds.Duplicate text) (some_none (identified_in s.table id) e)
id_reads types s text id rest more false e m third short =
    good rest m (identity_keeps s id third short (none_of (identified_in s.table id) e))

none_reads : (types : List Node) (s : Scope) (text : List ℕ) (t : Token) (more : List Token)
    (third : Bool) → as_repository t ≡ None → AreTokens text (t ∷ more)
    → IsMadeOrBreaksRule {X = IdentityRead} (λ rest. (None, rest)) (λ k. OfIdentity k s None) types
    (t ∷ more)
    (cond third (identity_by s text) (Ok (None, text)))
none_reads types s text t more true other h = rw (h.1, other) (good text h (λ k. tt))
none_reads types s text t more false other h = good text h (λ k. tt)

-- the repository id of a type, if it has one, before a token that is none
pub identity_reads : (types : List Node) (s : Scope) (id : Option (List ℕ)) (text : List ℕ)
    (t : Token) (more : List Token) → as_repository t ≡ None → OfIdentity kinds.Syntax s id
    → AreTokens text (spell_identity id (t ∷ more))
    → IsMadeOrBreaksRule {X = IdentityRead} (λ rest. (id, rest)) (λ k. OfIdentity k s id) types
    (t ∷ more)
    (identity_at s text)
unfolding identity_at
identity_reads types s None text t more other free h =
    none_reads types s text t more (is_version_3 s.names) other h
identity_reads types s (Some id) text t more other free h =
    let short = repository_few text (id, h.0) (repository_again text id (t ∷ more) h) in
    rw (free, h.1)
    (id_reads types s text id h.0 (t ∷ more) (is_some (identified_in s.table id)) refl h.2 free
    short)

-- ---- a text that was read

-- a repository id that was read isn't too long, since a longer one is no token
pub repository_short : (text id rest : List ℕ) → next text ≡ Ok (Some (repository id), rest)
    → length id ≤ 128
unfolding next_as
repository_short text id rest n = repository_few text (id, rest) (rw n refl)

pub record IdentityTaken (s : Scope) (text : List ℕ) (x : IdentityRead) : Type 0 where
  pub took : SpellsUpTo (spell_identity x.0) (OfIdentity kinds.Syntax s x.0) text x.1
  pub new : IsNewIdentity s.table x.0

none_taken : (s : Scope) (text : List ℕ) (x : IdentityRead) → (None, text) ≡ x
    → IdentityTaken s text x
none_taken s text x e = subst (IdentityTaken s text) e
    (record { took = record { free = tt; front = λ more m. m }; new = tt })

id_taken : (s : Scope) (text id rest : List ℕ) (x : IdentityRead) (known : Bool)
    → is_some (identified_in s.table id) ≡ known → is_version_3 s.names ≡ true
    → repository_at text ≡ Ok (id, rest)
    → cond known (Err (refused kinds.Duplicate text)) (Ok (Some id, rest)) ≡ Ok x
    → IdentityTaken s text x
id_taken s text id rest x true k third r e = absurd cc
id_taken s text id rest x false k third r e =
    subst (IdentityTaken s text) (ok_is (Some id, rest) x e)
    (record {
      took = record { free = third; front = repository_takes text (id, rest) r };
      new = (repository_few text (id, rest) r, none_of (identified_in s.table id) k);
    })

taken_after : (s : Scope) (text rest : List ℕ) (x : IdentityRead) (t : Option Token)
    (o : Option (List ℕ)) → option_and_then as_repository t ≡ o → is_version_3 s.names ≡ true
    → next text ≡ Ok (t, rest) → identity_after s text o rest ≡ Ok x → IdentityTaken s text x
unfolding next_as
taken_after s text rest x t None o third n e = none_taken s text x (ok_is (None, text) x e)
taken_after s text rest x t (Some id) o third n e =
    id_taken s text id rest x (is_some (identified_in s.table id)) refl third (rw (n, o) refl) e

taken_by : (s : Scope) (text : List ℕ) (x : IdentityRead) (third : Bool)
    → is_version_3 s.names ≡ third → cond third (identity_by s text) (Ok (None, text)) ≡ Ok x
    → IdentityTaken s text x
taken_by s text x true third e =
    let t = bind_ok _ _ x e in
    taken_after s text (t.0).1 x (t.0).0 (option_and_then as_repository (t.0).0) refl third t.1 t.2
taken_by s text x false third e = none_taken s text x (ok_is (None, text) x e)

pub identity_takes : (s : Scope) (text : List ℕ) (x : IdentityRead) → identity_at s text ≡ Ok x
    → IdentityTaken s text x
unfolding identity_at
identity_takes s text x e = taken_by s text x (is_version_3 s.names) refl e

-- a repository id that was new is still new
pub identity_still_new : (s t : Scope) (id : Option (List ℕ)) → AddsOnlyTypes s t
    → IsNewIdentity s.table id → IsNewIdentity t.table id
identity_still_new s t None g new = tt
identity_still_new s t (Some id) g new = search (arith)
