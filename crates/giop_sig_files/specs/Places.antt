-- The file and the line that a line of the joined text comes from (meaning).
use Rattle.std.specs.Prelude.{ℕ, ◌+◌, ◌-◌, ◌==◌, if◌then◌else◌, nat_le, List, [], ◌∷◌}
use Rattle.std.specs.List.{count_by}
use Rattle.giop_sig_files.specs.declared.places.SignatureText.{SignatureText}

-- how many lines a text has; what follows its last LF is a line too
abbrev pub line_count : (text : List ℕ) → ℕ
line_count text = count_by (λ x. x == 10) text + 1

-- the file that a line of the joined text comes from, and the number of the line in the file; all
-- lines that are left are of the last file
abbrev pub place : (file : SignatureText) (others : List SignatureText) (line : ℕ) →
    SignatureText × ℕ
place file [] line = (file, line)
place file (next ∷ others) line =
    if nat_le line (line_count file.text.items) then (file, line)
    else place next others (line - line_count file.text.items)
