use Rattle.std.proofs.Common.{◌+◌, ◌∙◌, ap}
use Rattle.giop_decode.proofs.Padding.{stands_whole}
use Rattle.giop_decode.proofs.lookahead.whole_octets.Goals as goal

pub returns-clause-stands : goal.returns-clause-stands
returns-clause-stands c =
    stands_whole c.args.width c.args.at c.from-padding.result _ c.args.octets.now c.requires.aligned
    c.requires.small
    (c.from-padding.ensures ∙ c.padding_at.ensures)
    (ap (λ w. c.from-padding.result + w) c.from.ensures) c.if-octets-count.false
