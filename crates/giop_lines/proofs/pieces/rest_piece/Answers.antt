use Rattle.std.proofs.Common.{ℕ, List, ◌∷◌, ◌++◌, append-nil, refl, sym, ap, ◌∙◌}
use Rattle.std.specs.Prelude.{codes, decimal}
use Rattle.giop_lines.specs.Values.{spaced_digits}
use Rattle.giop_lines.proofs.Spelled.{octets_spaced}
use Rattle.giop_lines.proofs.pieces.rest_piece.Goals as goal

pub returns-clause-spelled : goal.returns-clause-spelled
returns-clause-spelled c =
    let octets = c.in_ok-offset.octets.now in
    let are = c.if-not-are_hex_octets.ensures refl in
    ap (λ (xs : List ℕ). codes "rest " ++ xs) (c.in_ok-after.ensures
    ∙ ap (λ (xs : List ℕ). 64 ∷ xs) (c.in_ok-offset.ensures
    ∙ ap (λ (xs : List ℕ). xs ++ (32 ∷ octets)) c.in_ok-ulong.ensures
    ∙ ap (λ (xs : List ℕ). decimal c.in_ok-ulong.field-0 ++ xs)
    (sym (append-nil (spaced_digits octets) ∙ octets_spaced octets are))))
