use Rattle.std.proofs.Common.{◌-◌, length, take, sym, ◌∙◌, ap, arith}
use Rattle.std.proofs.lemmas.List.{length-take-le, take_all}
use Rattle.giop_decode.proofs.Counting.{ahead_fewer, ahead_free}
use Rattle.giop_decode.proofs.frame.octets_to_end.Goals as goal

pub returns-in-Nothing-clause-head : goal.returns-in-Nothing-clause-head
returns-in-Nothing-clause-head c = sym (take_all (length c.args.octets.now) c.args.octets.now
    (omega arith))

pub returns-in-Nothing-clause-ahead : goal.returns-in-Nothing-clause-ahead
returns-in-Nothing-clause-ahead c =
    ahead_free (length c.args.octets.now - 1) c.args.outer.now
    (sym c.requires.inside ∙ c.in-Nothing.is) c.requires.ahead

pub returns-clause-head : goal.returns-clause-head
returns-clause-head c =
    sym (ap (λ n. take n c.args.octets.now)
    (length-take-le c.min-count.result c.args.octets.now (omega (arith, c.min-count.ensures))))

pub returns-clause-ahead : goal.returns-clause-ahead
returns-clause-ahead c =
    let size = length-take-le c.min-count.result c.args.octets.now
    (omega (arith, c.min-count.ensures)) in
    ahead_fewer (length (take c.min-count.result c.args.octets.now) - 1)
    c.octets_before_ends-before.result c.args.outer.now
    (omega (arith, size, c.min-count.ensures)) c.octets_before_ends-before.ensures.ahead
