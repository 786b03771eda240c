-- Seconds as text (docs/FORMATS.md, Counts).

use Rattle.std.specs.Prelude.{ℕ, ◌+◌, ◌/◌, ◌%◌, List, ◌++◌, drop, codes, decimal}

-- the decimal digits of a number after the first one
abbrev pub digits_after_first : (number : ℕ) → List ℕ
digits_after_first number = drop 1 (decimal number)

-- a number of parts in decimal, if `parts` of them make one; `parts` is a power of ten, and as many
-- digits follow the point as it has zeros
abbrev pub fraction : (number_of_parts parts_of_one : ℕ) → List ℕ
fraction number parts =
    decimal (number / parts) ++ (codes "." ++ digits_after_first (parts + number % parts))
