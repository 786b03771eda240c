use Rattle.std.proofs.Common.{arith}
use Rattle.giop_sig.proofs.IdentityLaws.{repository_short}
use Rattle.giop_sig.proofs.read_items.identity_at.Goals as goal

pub has_identity-requires : goal.has_identity-requires
has_identity-requires c =
    repository_short c.args.text.now c.in-Some-Repository.id.now c.in_ok-token.rest.now
    (search (arith, c.in_ok-token.ensures, c.in-Some-Repository.is))
