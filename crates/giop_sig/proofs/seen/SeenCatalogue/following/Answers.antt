use Rattle.std.proofs.Common.{ap, sym, ◌∙◌}
use Rattle.giop_sig.specs.Hearings.{inferred_of_signal}
use Rattle.giop_sig.specs.Types.{sequel}
use Rattle.giop_sig.proofs.HearingLaws.{follow_any}
use Rattle.giop_sig.proofs.seen.SeenCatalogue.following.Goals as goal

pub returns-in-Led-clause-is : goal.returns-in-Led-clause-is
returns-in-Led-clause-is c =
    ap (λ h. sequel h (inferred_of_signal c.args.told))
    (follow_any c.args.self.now c.args.t.0 c.args.room (sym c.in-Led.ensures.is))
    ∙ c.following_any.ensures.is
