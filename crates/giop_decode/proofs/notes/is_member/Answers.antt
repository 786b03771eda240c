use Rattle.std.proofs.Common.{arith}
use Rattle.giop_decode.proofs.Noting.{no_member}
use Rattle.giop_decode.proofs.notes.is_member.Goals as goal

pub returns-in_default-2 : goal.returns-in_default-2
returns-in_default-2 c here =
    no_member c.args.name.now c.args.catalogue.now here c.args.outer.now
    (λ one. absurd (omega (arith, c.in_default.len_at_least, one)))
