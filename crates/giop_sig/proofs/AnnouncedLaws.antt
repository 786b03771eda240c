-- Announcements, both ways: reading the spelling of one gives it or a rule that it breaks, and the
-- text that was read spells it.
use Rattle.std.proofs.Common.{◌≡◌, ℕ, Bool, true, false, cond, List, ◌∷◌, length, Option, Some, None, Result, Ok, Err, refl, sym, ◌∙◌}
use Rattle.std.specs.Option.{is_some}
use Rattle.std.proofs.lemmas.Bool.{false≢true}
use Rattle.giop_tokens.specs.declared.fault.TokenError.{TokenError}
use Rattle.giop_tokens.specs.declared.fault.SigFaultKind.TheVariants as kinds
use Rattle.giop_tokens.specs.declared.marks.Mark.TheVariants as marks
use Rattle.giop_tokens.specs.Tokens.{Token, word, mark, octets_left_at_token, AreTokens}
use Rattle.giop_tokens.specs.Reading.{◌>>=◌}
use Rattle.giop_tokens.specs.Readers.{mark_if}
use Rattle.giop_tokens.proofs.ReaderLaws.{ok_is, TakesToken, mark_if_again, mark_takes}
use Rattle.giop_sig.specs.declared.announced.TypeWord.{TypeWord}
use Rattle.giop_sig.specs.Table.{Node}
use Rattle.giop_sig.specs.Table as nodes
use Rattle.giop_sig.specs.Grammar.{Announcement, spell_identity, type_word}
use Rattle.giop_sig.specs.Scopes.{Names, Scope, add_announced_type, announced_as, declare, is_version_3, with_announced}
use Rattle.giop_sig.specs.Validity.{FaultKind, OfAnnouncedName, OfDeclaration}
use Rattle.giop_sig.specs.Outcomes.{refused}
use Rattle.giop_sig.specs.ItemReading.{announces_at, announces_by, announcement_at, declared_name_at, declaration_end_at, DeclarationRead}
use Rattle.giop_sig.proofs.AddTypeLaws.{node_more}
use Rattle.giop_sig.proofs.ReadingLaws.{IsMadeOrBreaksRule, broken, out_bind, BeginsWithoutMark, if_apart}
use Rattle.giop_sig.proofs.TypeLaws.{third_keeps}
use Rattle.giop_sig.proofs.ItemTaken.{DeclaredTaken, declared_takes, end_takes, TakenDeclaration}
use Rattle.giop_sig.proofs.ItemLaws.{declared_reads, end_reads}

-- ---- whether a declaration announces its name

-- a declaration whose next token is no semicolon doesn't
other_by : (third : Bool) (text : List ℕ) → mark_if marks.Semicolon text ≡ Ok None
    → cond third (announces_by text) (Ok false) ≡ Ok false
other_by true text h = rw h refl
other_by false text h = refl

pub not_announced : (s : Scope) (text : List ℕ) (ts : List Token)
    → BeginsWithoutMark marks.Semicolon ts
    → AreTokens text ts → announces_at s text ≡ Ok false
unfolding announces_at
not_announced s text ts apart h =
    other_by (is_version_3 s.names) text (if_apart marks.Semicolon text ts apart h)

-- neither a repository id nor what comes after it is a semicolon
pub identity_apart : (id : Option (List ℕ)) (more : List Token)
    → BeginsWithoutMark marks.Semicolon more
    → BeginsWithoutMark marks.Semicolon (spell_identity id more)
identity_apart None more apart = apart
identity_apart (Some id) more apart = refl

is_announced : (s : Scope) (text : List ℕ) (more : List Token) → is_version_3 s.names ≡ true
    → AreTokens text (mark marks.Semicolon ∷ more) → announces_at s text ≡ Ok true
unfolding announces_at
is_announced s text more third h = rw (third, mark_if_again marks.Semicolon text more h) refl

-- ---- a text that is spelled so

announced_keeps : (names : Names) (w : List ℕ) → is_some (announced_as names w) ≡ false
    → (k : FaultKind) → OfAnnouncedName k names w
announced_keeps names w new kinds.Duplicate = new
announced_keeps names w new _ = tt

abbrev announced_rule : (scope : Scope) (kind : TypeWord) (w : List ℕ) (k : FaultKind) → Type 0
announced_rule s kind w k = OfDeclaration k s (Announcement kind w)

announced_by : (s : Scope) (kind : TypeWord) (text w rest : List ℕ) (more : List Token) (v : Bool)
    → is_some (announced_as s.names w) ≡ v → AreTokens rest (mark marks.Semicolon ∷ more)
    → (announced_rule s kind w kinds.Duplicate → is_some (announced_as s.names w) ≡ false)
    → (is_some (announced_as s.names w) ≡ false → (k : FaultKind) → announced_rule s kind w k)
    → IsMadeOrBreaksRule {X = DeclarationRead} (λ rest. (
      with_announced kind w
          (add_announced_type s),
      rest,
    ))
    (announced_rule s kind w) (with_announced kind w (add_announced_type s)).table.types more
    (cond v (Err (refused kinds.Duplicate text))
    (declaration_end_at (octets_left_at_token text)
    (with_announced kind w (add_announced_type s)) rest))
announced_by s kind text w rest more true e m new keeps =
    broken (refused kinds.Duplicate text) (λ rule. false≢true (sym (new rule) ∙ e))
announced_by s kind text w rest more false e m new keeps =
    end_reads (octets_left_at_token text) (with_announced kind w (add_announced_type s))
    (announced_rule s kind w) rest more m (keeps e)

-- what reading gives for an announcement, after its first word
pub announced_reads : (s : Scope) (kind : TypeWord) (w text : List ℕ) (more : List Token)
    (after : List ℕ → List ℕ → Result DeclarationRead TokenError)
    → OfDeclaration kinds.Syntax s (Announcement kind w)
    → AreTokens text (word w ∷ mark marks.Semicolon ∷ more)
    → IsMadeOrBreaksRule {X = DeclarationRead} (λ rest. (declare s (Announcement kind w), rest))
    (announced_rule s kind w) (declare s (Announcement kind w)).table.types more
    (declared_name_at s (Some kind) s.table.declared text >>= λ n. announces_at s n.1 >>= λ a.
    cond a (announcement_at s kind text n.0 n.1) (after n.0 n.1))
unfolding announcement_at declare OfDeclaration
announced_reads s kind w text more after free t =
    out_bind (declared_name_at s (Some kind) s.table.declared text)
    (λ n. announces_at s n.1 >>= λ a.
    cond a (announcement_at s kind text n.0 n.1) (after n.0 n.1))
    (declared_reads s.table.types s (Some kind) s.table.declared text w
    (mark marks.Semicolon ∷ more) free.0 t)
    (λ a ta ka. rw (is_announced s a more free.1 ta)
    (announced_by s kind text w a more (is_some (announced_as s.names w)) refl ta (λ rule. rule.2)
    (λ new k. (ka k, third_keeps s.names free.1 k, announced_keeps s.names w new k))))
    (λ k h. h.0) (node_more s (nodes.announced (length s.names.announced)))

-- ---- a text that was read

third_by : (third : Bool) (text : List ℕ) → cond third (announces_by text) (Ok false) ≡ Ok true
    → third ≡ true
third_by true text e = refl
third_by false text e = let no = ok_is false true e in absurd (false≢true no)

-- a declaration announces its name in a file of version 3 only
pub announces_third : (s : Scope) (text : List ℕ) → announces_at s text ≡ Ok true
    → is_version_3 s.names ≡ true
unfolding announces_at
announces_third s text e = third_by (is_version_3 s.names) text e

announcement_by : (s : Scope) (kind : TypeWord) (whole text : List ℕ) (n : List ℕ × List ℕ)
    (x : DeclarationRead) (v : Bool) → TakesToken whole (word (type_word kind)) text
    → DeclaredTaken s (Some kind) s.table.declared text n → is_version_3 s.names ≡ true
    → cond v (Err (refused kinds.Duplicate text))
    (declaration_end_at (octets_left_at_token text)
    (with_announced kind n.0 (add_announced_type s)) n.1) ≡ Ok x
    → TakenDeclaration s whole x
unfolding OfDeclaration
announcement_by s kind whole text n x true before d third e = absurd cc
announcement_by s kind whole text n x false before d third e =
    let end = end_takes (octets_left_at_token text)
    (with_announced kind n.0 (add_announced_type s)) n.1 x e in
    record {
      declaration = Announcement kind n.0;
      took = record {
        free = (d.free, third, tt);
        front = λ more m. before (word n.0 ∷ mark marks.Semicolon ∷ more)
            (d.front (mark marks.Semicolon ∷ more)
            (mark_takes marks.Semicolon n.1 x.1 end.rest more m));
      };
      shallow = end.shallow;
    }

pub announcement_takes : (s : Scope) (kind : TypeWord) (whole text : List ℕ) (n : List ℕ × List ℕ)
    (x : DeclarationRead) → TakesToken whole (word (type_word kind)) text
    → declared_name_at s (Some kind) s.table.declared text ≡ Ok n → is_version_3 s.names ≡ true
    → announcement_at s kind text n.0 n.1 ≡ Ok x → TakenDeclaration s whole x
unfolding announcement_at
announcement_takes s kind whole text n x before d third e =
    announcement_by s kind whole text n x (is_some (announced_as s.names n.0)) before
    (declared_takes s (Some kind) s.table.declared text n d) third e
