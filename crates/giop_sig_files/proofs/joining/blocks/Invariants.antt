use Rattle.std.proofs.Common.{◌≡◌, ◌++◌, map, drop}
use Rattle.giop_sig_files.specs.Blocks.{blocks, blocks_from}
use Rattle.giop_sig_files.proofs.joining.blocks.Given as goal

-- the blocks until now, and those of what is left
abbrev pub invariant-loop-octet : goal.invariant-loop-octet
invariant-loop-octet l =
    map (λ b. b.items) l.blocks.items
    ++ blocks_from l.front.octets.items (drop l.octet-index l.text) ≡ blocks l.text
