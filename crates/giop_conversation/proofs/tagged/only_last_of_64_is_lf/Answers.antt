use Rattle.std.proofs.Common.{◌-◌, drop, length, length-drop, arith}
use Rattle.std.proofs.lemmas.List.{take_all}
use Rattle.giop_conversation.proofs.tagged.only_last_of_64_is_lf.Goals as goal

pub returns-then-no_lf_in_first_48 : goal.returns-then-no_lf_in_first_48
returns-then-no_lf_in_first_48 c = λ is.
    let octets = c.args.octets.now in
    let rest = take_all (length octets - 48) (drop 48 octets) (omega (arith, length-drop 48 octets))
    in
    c.no_lf_in_first_48.ensures c.if-no_lf_in_first_48.true 48 (omega arith)
    (rw rest at (c.only_last_of_16_is_lf.ensures is))
