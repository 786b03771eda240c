-- The forms of the laws of reading, from a spelling to what is read and from a text that was read
-- to its spelling; and two readings one after another.
use Rattle.std.proofs.Common.{◌≡◌, ℕ, ◌^◌, ◌<◌, ◌≤◌, ◌⊎◌, inl, inr, false, List, [], ◌∷◌, length, None, Result, Ok, Err, sym, subst, arith}
use Rattle.std.specs.Prelude.{MatchResult}
use Rattle.giop_tokens.specs.declared.fault.TokenError.{TokenError}
use Rattle.giop_tokens.specs.declared.fault.SigFaultKind.TheVariants as kinds
use Rattle.giop_tokens.specs.Tokens.{Token, AreTokens}
use Rattle.giop_tokens.specs.declared.marks.Mark.{Mark}
use Rattle.giop_tokens.specs.Reading.{◌>>=◌}
use Rattle.giop_tokens.specs.Readers.{is_the_mark, mark_if}
use Rattle.giop_tokens.proofs.ReaderLaws.{if_ended, if_other}
use Rattle.giop_sig.specs.Table.{Node}
use Rattle.giop_sig.specs.Trees.{depth_of}
use Rattle.giop_sig.specs.Validity.{FaultKind}
use Rattle.giop_sig.proofs.AddTypeLaws.{HasNoFewerNodes, within_same}

-- ---- a text that is spelled so

-- a refusal of this kind is right: the rule of the kind is broken, or the types become too deep or
-- too many
abbrev pub BreaksRuleOf : (kind : FaultKind) (rule : FaultKind → Type 0) (types : List Node)
    → Type 0
BreaksRuleOf kinds.Depth rule types = 24 < depth_of types
BreaksRuleOf kinds.UnknownType rule types = rule kinds.UnknownType → ⊥
BreaksRuleOf kinds.Duplicate rule types = rule kinds.Duplicate → ⊥
BreaksRuleOf kinds.Limit rule types = (rule kinds.Limit → ⊥) ⊎ (2 ^ 32 ≤ length types)
BreaksRuleOf kinds.Label rule types = rule kinds.Label → ⊥
BreaksRuleOf kinds.Empty rule types = rule kinds.Empty → ⊥
BreaksRuleOf _ rule types = ⊥

-- a rule that a part breaks, the whole breaks
pub lift : (k : FaultKind) (rule whole : FaultKind → Type 0) (types more : List Node)
    → ((j : FaultKind) → whole j → rule j) → HasNoFewerNodes types more
    → BreaksRuleOf k rule types → BreaksRuleOf k whole more
lift kinds.Token rule whole types more up le b = b
lift kinds.Syntax rule whole types more up le b = b
lift kinds.OutOfMemory rule whole types more up le b = b
lift kinds.Depth rule whole types more up le b = search (arith)
lift kinds.UnknownType rule whole types more up le b = search (arith)
lift kinds.Duplicate rule whole types more up le b = λ h. b (up kinds.Duplicate h)
lift kinds.Limit rule whole types more up le (inl b) = search (arith)
lift kinds.Limit rule whole types more up le (inr b) = search (arith)
lift kinds.Label rule whole types more up le b = λ h. b (up kinds.Label h)
lift kinds.Empty rule whole types more up le b = λ h. b (up kinds.Empty h)

-- what was read is made from a rest that has the remaining tokens, and it keeps the rules
pub record IsMadeByRules {X : Type 0} (made : List ℕ → X) (rule : FaultKind → Type 0)
    (more : List Token) (x : X) : Type 0 where
  pub rest : List ℕ
  pub is : x ≡ made rest
  pub tokens : AreTokens rest more
  pub keeps : (k : FaultKind) → rule k

-- reading gives what is made, or a rule that is broken
pub record IsMadeOrBreaksRule {X : Type 0} (made : List ℕ → X) (rule : FaultKind → Type 0)
    (types : List Node)
    (more : List Token) (r : Result X TokenError) : Type 0 where
  pub out : MatchResult r (IsMadeByRules made rule more) (λ e. BreaksRuleOf e.kind rule types)

pub good : {X : Type 0} {made : List ℕ → X} {rule : FaultKind → Type 0} {types : List Node}
    {more : List Token} (rest : List ℕ) → AreTokens rest more → ((k : FaultKind) → rule k)
    → IsMadeOrBreaksRule made rule types more (Ok (made rest))
good rest tokens keeps = search (arith)

pub broken : {X : Type 0} {made : List ℕ → X} {rule : FaultKind → Type 0} {types : List Node}
    {more : List Token} (e : TokenError) → BreaksRuleOf e.kind rule types →
    IsMadeOrBreaksRule made rule types more (Err e)
broken e b = record { out = b }

pub out_bind : {X Y : Type 0} {made : List ℕ → X} {rule : FaultKind → Type 0} {types : List Node}
    {more : List Token} {made2 : List ℕ → Y} {rule2 : FaultKind → Type 0}
    {types2 : List Node} {more2 : List Token}
    (r : Result X TokenError) (h : X → Result Y TokenError) → IsMadeOrBreaksRule made rule types
    more r
    → ((rest : List ℕ) → AreTokens rest more → ((k : FaultKind) → rule k)
    → IsMadeOrBreaksRule made2 rule2 types2 more2 (h (made rest)))
    → ((k : FaultKind) → rule2 k → rule k) → HasNoFewerNodes types types2 →
    IsMadeOrBreaksRule made2 rule2 types2 more2 (r >>= h)
out_bind {made2 = made2} {rule2 = rule2} {types2 = types2} {more2 = more2} (Ok x) h o on up le =
    let g = o.out in subst (λ y. IsMadeOrBreaksRule made2 rule2 types2 more2 (h y)) (sym g.is)
    (on g.rest g.tokens g.keeps)
out_bind {rule = rule} {types = types} {rule2 = rule2} {types2 = types2} (Err e) h o on up le =
    record { out = lift e.kind rule rule2 types types2 up le o.out }

good_more : {X : Type 0} {made : List ℕ → X} {rule whole : FaultKind → Type 0} {types : List Node}
    {more : List Token} (r : Result X TokenError) → IsMadeOrBreaksRule made rule types more r
    → ((k : FaultKind) → rule k → whole k) → ((k : FaultKind) → whole k → rule k)
    → IsMadeOrBreaksRule made whole types more r
good_more (Ok x) o on up = search (arith)
good_more {rule = rule} {whole = whole} {types = types} (Err e) o on up =
    record { out = lift e.kind rule whole types types up within_same o.out }

-- the same for equivalent rules
pub out_more : {X : Type 0} {made : List ℕ → X} {rule whole : FaultKind →
    Type 0} {types : List Node}
    {more : List Token} {r : Result X TokenError} → IsMadeOrBreaksRule made rule types more r
    → ((k : FaultKind) → rule k → whole k) → ((k : FaultKind) → whole k → rule k)
    → IsMadeOrBreaksRule made whole types more r
out_more {r = r} o on up = good_more r o on up

-- ---- a text that was read

-- the text is spelled like this up to the rest, and its names are free
pub record SpellsUpTo (spelled : List Token → List Token) (Free : Type 0)
    (text rest : List ℕ) : Type 0 where
  pub free : Free
  pub front : (more : List Token) → AreTokens rest more → AreTokens text (spelled more)

-- ---- looking at the next token

-- the tokens don't begin with the mark
abbrev pub BeginsWithoutMark : (mark : Mark) (tokens : List Token) → Type 0
BeginsWithoutMark m [] = Unit {0}
BeginsWithoutMark m (t ∷ ts) = is_the_mark m t ≡ false

pub if_apart : (m : Mark) (text : List ℕ) (ts : List Token) → BeginsWithoutMark m ts
    → AreTokens text ts
    → mark_if m text ≡ Ok None
if_apart m text [] apart h = search (arith, if_ended)
if_apart m text (t ∷ ts) apart h = search (arith, if_other)
