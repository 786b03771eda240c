use Rattle.std.proofs.Common.{◌≡◌, ◌+◌, drop}
use Rattle.std.specs.List.{prefix_len}
use Rattle.giop_tokens.specs.Tokens.{is_word_octet}
use Rattle.giop_tokens.proofs.lexer.word_len.Given as goal

abbrev pub invariant-loop-i : goal.invariant-loop-i
invariant-loop-i l = l.i + prefix_len is_word_octet (drop l.i l.text)
    ≡ prefix_len is_word_octet l.text
