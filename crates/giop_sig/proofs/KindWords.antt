-- The words of kinds are names.
use Rattle.std.proofs.Common.{◌≤◌, ℕ, Bool, true, false, List, length, Option, Some, cond, arith}
use Rattle.std.specs.Prelude.{IfSome, codes}
use Rattle.std.specs.List.{AllByRecursion}
use Rattle.giop_sig.proofs.Formed.{names_short}
use Rattle.giop_sig.specs.Kinds.{kind_word, kind_words}

abbrev IsShort : (word : List ℕ) → Type 0
IsShort word = length word ≤ 64

words_short : AllByRecursion IsShort kind_words
words_short = search (arith)

short_if : (b : Bool) (o : Option (List ℕ)) → IfSome o IsShort →
    IfSome (cond b (Some (codes "indirection")) o) IsShort
short_if true o short = search (arith)
short_if false o short = short

pub kind_short : (n : ℕ) → IfSome (kind_word n) IsShort
kind_short n = short_if _ _ (names_short kind_words n words_short)
