-- The names that lines declare (docs/FORMATS.md, Several signature files; meaning).
use Rattle.std.specs.Prelude.{◌≡◌, ℕ, zero, suc, ◌+◌, ◌-◌, ◌==◌, Bool, true, false, ◌&&◌, not, if◌then◌else◌, List, [], ◌∷◌, ◌++◌, take, drop, length, Option, None, Some, codes}
use Rattle.std.specs.List.{position_or_len}
use Rattle.std.specs.Option.{option_or}
use Rattle.std.specs.Str.{bytes_eq}
use Rattle.giop_sig_files.specs.Blocks.{begins_with}

-- ---- lines

abbrev pub is_lf : (octet : ℕ) → Bool
is_lf octet = octet == 10

abbrev pub first_line : (text : List ℕ) → List ℕ
first_line text = take (position_or_len is_lf text) text

abbrev pub after_line : (text : List ℕ) → List ℕ
after_line text = drop (position_or_len is_lf text + 1) text

-- what follows after the first `count` lines
abbrev pub after_lines : (count : ℕ) (text : List ℕ) → List ℕ
after_lines zero text = text
after_lines (suc count) text = after_line (after_lines count text)

-- the line of a text with this number, from 1
abbrev pub line_at : (text : List ℕ) (line : ℕ) → List ℕ
line_at text line = first_line (after_lines (line - 1) text)

-- ---- names

-- the word before the first octet that is `stop`; `word` is what was read of it already
unfoldable pub word_before : (stop : ℕ) (word text : List ℕ) → Option (List ℕ)
word_before stop word [] = None
word_before stop word (x ∷ xs) =
    if x == stop then Some word else
    (if x == 32 then word_before stop [] xs else word_before stop (word ++ x ∷ []) xs)

-- the name in a line that begins with this word
unfoldable pub name_after_word : (word : List ℕ) (stop : ℕ) (line : List ℕ) → Option (List ℕ)
name_after_word word stop line =
    if begins_with word line then word_before stop [] (drop (length word) line) else None

-- the name of the type that a line declares, if it declares one
abbrev pub declared_type : (line : List ℕ) → Option (List ℕ)
declared_type line =
    option_or (option_or
    (name_after_word (codes "struct ") 32 line) (name_after_word (codes "union ") 32 line))
    (name_after_word (codes "enum ") 32 line)

-- the name that a line declares, if it declares one: the name of an operation stands before its
-- parenthesis; another name follows the word of its declaration
abbrev pub declared_name : (line : List ℕ) → Option (List ℕ)
declared_name line =
    option_or (option_or (option_or
    (name_after_word (codes "operation ") 40 line) (name_after_word (codes "exception ") 32 line))
    (declared_type line)) (name_after_word (codes "key ") 32 line)

-- whether a line declares an operation; operations have a name space of their own
abbrev pub is_operation : (line : List ℕ) → Bool
is_operation line = begins_with (codes "operation ") line

abbrev pub same_name : (one other : Option (List ℕ)) → Bool
same_name (Some one) (Some other) = bytes_eq one other
same_name _ _ = false

abbrev pub same_name_space : (one other : Bool) → Bool
same_name_space true other = other
same_name_space false other = not other

-- whether two lines declare the same name
unfoldable pub declare_same_name : (above line : List ℕ) → Bool
declare_same_name above line =
    same_name_space (is_operation above) (is_operation line)
    && same_name (declared_name above) (declared_name line)

-- the lines of a text with these numbers declare the same name
abbrev pub DeclareSameName : (text : List ℕ) (above line : ℕ) → Type 0
DeclareSameName text above line = declare_same_name (line_at text above) (line_at text line) ≡ true
