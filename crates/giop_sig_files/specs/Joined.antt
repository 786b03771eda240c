-- The text that several signature files are read as (docs/FORMATS.md, Several signature files;
-- meaning).
use Rattle.std.specs.Prelude.{ℕ, ◌==◌, Bool, ◌&&◌, if◌then◌else◌, List, [], ◌∷◌, ◌++◌, map, filter, flat_map, drop}
use Rattle.std.specs.List.{list_any}
use Rattle.std.specs.Str.{bytes_eq}
use Rattle.giop_sig_files.specs.Blocks.{begins_declaration, blocks}

-- what is left of a block that is taken from an earlier file: its LFs
abbrev pub line_feeds_of : (block : List ℕ) → List ℕ
line_feeds_of block = filter (λ x. x == 10) block

-- whether a block is a declaration that an earlier file has, octet for octet; it is taken from
-- there
abbrev pub is_repeated_declaration : (before : List (List ℕ)) (block : List ℕ) → Bool
is_repeated_declaration before block = begins_declaration block && list_any
    (λ other. bytes_eq other block) before

abbrev pub block_or_line_feeds : (before : List (List ℕ)) (block : List ℕ) → List ℕ
block_or_line_feeds before block = if is_repeated_declaration before block then line_feeds_of block
    else block

-- what is taken of texts that come after these blocks
abbrev pub blocks_taken : (before texts : List (List ℕ)) → List (List ℕ)
blocks_taken before [] = []
blocks_taken before (text ∷ texts) =
    map (block_or_line_feeds before) (blocks text) ++ blocks_taken (before ++ blocks text) texts

abbrev pub with_line_feed : (block : List ℕ) → List ℕ
with_line_feed block = 10 ∷ block

-- the blocks that are taken, with an LF between two
abbrev pub joined : (texts : List (List ℕ)) → List ℕ
joined texts = drop 1 (flat_map with_line_feed (blocks_taken [] texts))
