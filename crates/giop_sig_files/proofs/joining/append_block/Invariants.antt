use Rattle.std.proofs.Common.{◌≡◌, ◌++◌, take}
use Rattle.giop_sig_files.specs.Joined.{line_feeds_of}
use Rattle.giop_sig_files.proofs.joining.append_block.Given as goal

abbrev pub invariant-loop-octet : goal.invariant-loop-octet
invariant-loop-octet l =
    l.text.items ≡ l.initial.text.items ++ line_feeds_of (take l.octet-index l.block.items)
