use Rattle.std.proofs.Common.{◌==◌, ap, ◌∙◌}
use Rattle.giop_checkpoint.proofs.States.{mixed_is, mixed_told}
use Rattle.giop_checkpoint.proofs.state.is_mixed_at.Goals as goal

pub returns : goal.returns
returns c layout n owner is_mixed fits is =
    ap (λ octet. octet == 1) (c.octet_at.ensures _ _ (mixed_is layout n owner is_mixed _ is))
    ∙ mixed_told layout is_mixed fits
