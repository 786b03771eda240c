use Rattle.std.proofs.Common.{ℕ, List, ◌∷◌, ◌++◌, refl, sym, ap, ◌∙◌}
use Rattle.std.specs.Prelude.{decimal}
use Rattle.giop_lines.proofs.Spelled.{octets_spaced}
use Rattle.giop_lines.proofs.pieces.offset_and_octets.Goals as goal

pub returns-in_ok-ulong-in-Some-clause-spelled : goal.returns-in_ok-ulong-in-Some-clause-spelled
returns-in_ok-ulong-in-Some-clause-spelled c =
    let digits = c.in-Some.digits.now in
    let are = c.if-are_hex_octets.ensures refl in
    c.in-Some.ensures ∙ ap (λ (xs : List ℕ). xs ++ (32 ∷ digits)) c.in_ok-ulong-in-Some.ensures
    ∙ ap (λ (xs : List ℕ). decimal c.in_ok-ulong-in-Some.field-0 ++ xs)
    (sym (octets_spaced digits are))
