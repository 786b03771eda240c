use Rattle.std.proofs.Common.{◌≡◌, ◌++◌, [], map, drop}
use Rattle.std.specs.Prelude.{flat_map}
use Rattle.giop_sig_files.specs.Joined.{blocks_taken, with_line_feed}
use Rattle.giop_sig_files.proofs.joining.joined.Given as goal

-- what is taken of the files until now, and of those that are left
abbrev pub invariant-loop-file : goal.invariant-loop-file
invariant-loop-file l =
    l.text.items ++ flat_map with_line_feed
    (blocks_taken (map (λ b. b.items) l.before.items)
    (map (λ f. f.text.items) (drop l.file-index l.files)))
    ≡ flat_map with_line_feed (blocks_taken [] (map (λ f. f.text.items) l.files))
