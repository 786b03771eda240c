-- How words of the command line are shown (docs/FORMATS.md, The program; meaning).
use Rattle.std.specs.Prelude.{ℕ, nat_lt, if◌then◌else◌, List, [], ◌∷◌, ◌++◌, codes, flat_map, map, ◌==◌}
use Rattle.giop_print.specs.Text.{hex_octet}

-- how an octet is shown: one from 20 to 7e as itself, another one as \x and its two digits
abbrev pub escaped_octet : (octet : ℕ) → List ℕ
escaped_octet octet = if nat_lt octet 32 then codes "\\x" ++ hex_octet octet else
    (if nat_lt 126 octet then codes "\\x" ++ hex_octet octet else octet ∷ [])

unfoldable pub escaped : (octets : List ℕ) → List ℕ
escaped octets = flat_map escaped_octet octets

-- a word with a zero for each line feed; no word has a zero of its own, because a zero ends a word
abbrev pub with_stand_ins : (word : List ℕ) → List ℕ
with_stand_ins word = map (λ x. if x == 10 then 0 else x) word

-- how an octet of a text about words with stand-ins is shown: a line feed as itself, a zero as the
-- line feed of a word, another octet as `escaped_octet` says
abbrev pub escaped_octet_or_stand_in : (octet : ℕ) → List ℕ
escaped_octet_or_stand_in octet = if octet == 10 then 10 ∷ [] else
    (if octet == 0 then escaped_octet 10 else escaped_octet octet)

unfoldable pub escaped_with_stand_ins : (text : List ℕ) → List ℕ
escaped_with_stand_ins text = flat_map escaped_octet_or_stand_in text
