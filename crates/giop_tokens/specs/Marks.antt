-- The marks, each of one octet (docs/FORMATS.md, Signature file; meaning).
use Rattle.std.specs.Prelude.{ℕ, Option, Some, None, ◌==◌, if◌then◌else◌}
use Rattle.giop_tokens.specs.declared.marks.Mark.{Mark}
use Rattle.giop_tokens.specs.declared.marks.Mark.TheVariants as marks

-- the octet that a mark is written as
abbrev pub octet_of : (mark : Mark) → ℕ
octet_of marks.OpenBrace = 123
octet_of marks.CloseBrace = 125
octet_of marks.OpenParenthesis = 40
octet_of marks.CloseParenthesis = 41
octet_of marks.OpenAngle = 60
octet_of marks.CloseAngle = 62
octet_of marks.OpenBracket = 91
octet_of marks.CloseBracket = 93
octet_of marks.Comma = 44
octet_of marks.Semicolon = 59
octet_of marks.Colon = 58

-- the mark that is written as this octet, if there is one
unfoldable pub mark_of : (octet : ℕ) → Option Mark
mark_of octet =
    if octet == 123 then Some marks.OpenBrace else
    (if octet == 125 then Some marks.CloseBrace else
    (if octet == 40 then Some marks.OpenParenthesis else
    (if octet == 41 then Some marks.CloseParenthesis else
    (if octet == 60 then Some marks.OpenAngle else
    (if octet == 62 then Some marks.CloseAngle else
    (if octet == 91 then Some marks.OpenBracket else
    (if octet == 93 then Some marks.CloseBracket else
    (if octet == 44 then Some marks.Comma else
    (if octet == 59 then Some marks.Semicolon else
    (if octet == 58 then Some marks.Colon else None))))))))))
