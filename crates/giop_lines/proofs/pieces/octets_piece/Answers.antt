use Rattle.std.proofs.Common.{ℕ, List, ◌∷◌, ◌++◌, sym, ap, ◌∙◌}
use Rattle.std.specs.Prelude.{decimal}
use Rattle.giop_print.specs.Lines.{more_word}
use Rattle.giop_lines.specs.Values.{content_word, spaced_digits}
use Rattle.giop_lines.proofs.Spelled.{hexadecimal_text, hexadecimal_content, joined_three}
use Rattle.giop_lines.proofs.pieces.octets_piece.Goals as goal

pub returns-clause-spelled : goal.returns-clause-spelled
returns-clause-spelled c =
    let n = c.in_ok-offset.offset in
    let octets = c.in_ok-offset.octets.now in
    let more = more_word c.without_more-more.result.1 in
    ap (λ (xs : List ℕ). content_word c.args.content ++ xs) (c.in_ok-after.ensures
    ∙ ap (λ (xs : List ℕ). 64 ∷ xs) (joined_three c.in_ok-after.field-0.now
    c.without_more-more.result.0.now more (decimal n) (spaced_digits octets)
    c.without_more-more.ensures c.in_ok-offset.ensures.spelled
    ∙ ap (λ (xs : List ℕ). decimal n ++ (xs ++ more))
    (sym (hexadecimal_text c.args.content octets c.requires))))

pub returns-clause-fields : goal.returns-clause-fields
returns-clause-fields c =
    hexadecimal_content c.args.content c.in_ok-offset.octets.now c.requires
    c.in_ok-offset.ensures.fields
