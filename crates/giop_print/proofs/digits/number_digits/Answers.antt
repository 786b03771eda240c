use Rattle.std.proofs.Common.{◌∙◌, ap, add-zero}
use Rattle.giop_print.specs.Text.{hex}
use Rattle.giop_print.proofs.Spelling.{number_octets, number_spelled}
use Rattle.giop_print.proofs.digits.number_digits.Goals as goal

pub returns : goal.returns
returns c = let n = c.args.n in
    c.digit_pairs.ensures.first ∙ (ap (λ x. hex (number_octets 8 x)) (add-zero n)
    ∙ number_spelled 8 n)
