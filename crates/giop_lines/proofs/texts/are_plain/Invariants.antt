use Rattle.std.proofs.Common.{◌≡◌, take}
use Rattle.std.specs.List.{list_all}
use Rattle.giop_print.specs.Text.{is_plain}
use Rattle.giop_lines.proofs.texts.are_plain.Given as goal

abbrev pub invariant-loop-octet : goal.invariant-loop-octet
invariant-loop-octet l = l.are ≡ list_all is_plain (take l.octet-index l.text)
