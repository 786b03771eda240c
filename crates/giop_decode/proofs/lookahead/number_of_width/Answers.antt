use Rattle.std.proofs.Common.{◌∙◌}
use Rattle.giop_decode.proofs.Whole.{whole_number}
use Rattle.giop_decode.proofs.lookahead.number_of_width.Goals as goal

pub returns-in-Ok : goal.returns-in-Ok
returns-in-Ok c =
    whole_number c.args.prim c.args.order c.args.at c.in-Some.count c.args.octets.now
    c.in-Some.whole.now c.in-Ok.number
    (rw c.requires.width at c.in-Some.ensures.stands) (c.in-Some.ensures.width ∙ c.requires.width)
    c.number_of.ensures.octets c.in-Ok.ensures.ok
