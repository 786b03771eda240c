-- Lines with a tag in front of each, as the lines of a stream in a capture have it
-- (docs/FORMATS.md; meaning). A line ends in LF.
use Rattle.std.specs.Prelude.{ℕ, zero, suc, Bool, true, false, ◌==◌, List, [], ◌∷◌, ◌++◌, if◌then◌else◌, codes, decimal}

-- the tag of a stream, by its number
abbrev pub stream_tag : (stream_number : ℕ) → List ℕ
stream_tag number = codes "s" ++ (decimal number ++ codes " ")

-- what stands in front of an octet: the tag if the octet is the first of a line, else nothing
abbrev pub tag_if_first : (is_first_of_line : Bool) (tag : List ℕ) → List ℕ
tag_if_first true tag = tag
tag_if_first false tag = []

-- the text with the tag in front of each line that begins in it; the Bool tells whether its first
-- octet is the first of a line
unfoldable pub tagged : (text_begins_line : Bool) (tag text : List ℕ) → List ℕ
tagged first tag [] = []
tagged first tag (x ∷ xs) = tag_if_first first tag ++ x ∷ tagged (x == 10) tag xs

-- the lines of a text, the tag in front of each
abbrev pub with_tags : (tag text : List ℕ) → List ℕ
with_tags tag text = tagged true tag text

-- the text without its first `skip` octets and without the first `size` octets of each line that
-- begins in it
unfoldable pub untagged : (first_octets_to_skip tag_size : ℕ) (text : List ℕ) → List ℕ
untagged skip size [] = []
untagged zero size (x ∷ xs) = x ∷ untagged (if x == 10 then size else 0) size xs
untagged (suc skip) size (x ∷ xs) = untagged skip size xs

-- the lines of a text without their tags, each of `size` octets
abbrev pub without_tags : (tag_size : ℕ) (text : List ℕ) → List ℕ
without_tags size text = untagged size size text
