-- The blocks of a signature file: its lines, but the lines of a declaration are one block
-- (docs/FORMATS.md, Several signature files; meaning). The LFs between blocks belong to no block.
use Rattle.std.specs.Prelude.{ℕ, ◌==◌, Bool, ◌&&◌, ◌||◌, not, if◌then◌else◌, nat_eq, List, [], ◌∷◌, ◌++◌, codes}
use Rattle.std.specs.List.{starts_with, ends_with, count_by}

-- whether a block begins with these octets
abbrev pub begins_with : (word block : List ℕ) → Bool
begins_with word block = starts_with nat_eq block word

-- whether a block begins with the word of a declaration, or with the word of the version
unfoldable pub begins_declaration : (block : List ℕ) → Bool
begins_declaration block =
    begins_with (codes "operation ") block || begins_with (codes "exception ") block
    || begins_with (codes "struct ") block || begins_with (codes "union ") block
    || begins_with (codes "enum ") block || begins_with (codes "key ") block
    || begins_with (codes "signatures ") block

abbrev pub opens_bracket : (octet : ℕ) → Bool
opens_bracket octet = octet == 123 || octet == 40

abbrev pub closes_bracket : (octet : ℕ) → Bool
closes_bracket octet = octet == 125 || octet == 41

-- whether a block ends with a semicolon, and as many braces and parentheses close in it as open
abbrev pub has_balanced_end : (block : List ℕ) → Bool
has_balanced_end block =
    ends_with nat_eq block (codes ";")
    && (count_by opens_bracket block == count_by closes_bracket block)

-- whether a block is a declaration that goes on in the next line
abbrev pub continues_in_next_line : (block : List ℕ) → Bool
continues_in_next_line block = begins_declaration block && not (has_balanced_end block)

-- the blocks of a text that follows the front of a block
abbrev pub blocks_from : (block text : List ℕ) → List (List ℕ)
blocks_from block [] = block ∷ []
blocks_from block (x ∷ xs) =
    if (x == 10) && not (continues_in_next_line block) then block ∷ blocks_from [] xs
    else blocks_from (block ++ x ∷ []) xs

abbrev pub blocks : (text : List ℕ) → List (List ℕ)
blocks text = blocks_from [] text
