use Rattle.std.proofs.Common.{List, ℕ, ◌≤◌, length}
use Rattle.giop_sig.proofs.Builtins.{some_numbered}
use Rattle.giop_sig.proofs.KindWords.{kind_short}
use Rattle.giop_sig.specs.Kinds.{kind_word}
use Rattle.giop_sig.proofs.kinds.kind_word.Goals as goal

pub returns-then-is_kind-clause-short : goal.returns-then-is_kind-clause-short
returns-then-is_kind-clause-short c =
    some_numbered (λ (xs : List ℕ). length xs ≤ 64) (λ x. x.now) c.word_of_kind.result
    (kind_word c.args.n) c.word_of_kind.ensures (kind_short c.args.n)
