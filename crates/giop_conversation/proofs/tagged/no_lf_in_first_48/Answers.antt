use Rattle.std.proofs.Common.{◌≡◌, Bool, true, false, not, arith}
use Rattle.std.proofs.lemmas.Bool.{eqb-true}
use Rattle.giop_conversation.proofs.WholeLines.{line_from}
use Rattle.giop_conversation.proofs.tagged.no_lf_in_first_48.Goals as goal

not_not : (b : Bool) → not (not b) ≡ true → b ≡ true
not_not true is = is
not_not false is = is

pub returns : goal.returns
returns c = λ is. line_from c.args.octets.now (omega (arith, c.if-octets-lt64.false))
    (eqb-true _ _ (not_not _ is))
