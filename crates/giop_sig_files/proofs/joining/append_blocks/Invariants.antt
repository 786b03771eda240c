use Rattle.std.proofs.Common.{◌≡◌, ◌++◌, map, take}
use Rattle.std.specs.Prelude.{flat_map}
use Rattle.giop_sig_files.specs.Joined.{block_or_line_feeds, with_line_feed}
use Rattle.giop_sig_files.proofs.joining.append_blocks.Given as goal

abbrev pub invariant-loop-block : goal.invariant-loop-block
invariant-loop-block l =
    l.text.items ≡ l.initial.text.items ++ flat_map with_line_feed
    (map (block_or_line_feeds (map (λ b. b.items) l.before))
    (map (λ b. b.items) (take l.block-index l.blocks)))
