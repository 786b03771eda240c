use Rattle.std.proofs.Common.{◌≡◌, ◌+◌, drop}
use Rattle.std.specs.List.{prefix_len}
use Rattle.giop_tokens.specs.Tokens.{is_id_octet}
use Rattle.giop_tokens.proofs.lexer.id_len.Given as goal

abbrev pub invariant-loop-i : goal.invariant-loop-i
invariant-loop-i l = l.i + prefix_len is_id_octet (drop l.i l.text) ≡ prefix_len is_id_octet l.text
