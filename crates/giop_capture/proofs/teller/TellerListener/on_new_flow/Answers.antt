-- It is noted who sends to whom. Nothing is written.
use Rattle.std.proofs.Common.{refl}
use Rattle.tcp_flow.specs.Flow.{Opens}
use Rattle.giop_capture.proofs.TellerLemmas.{seen_stays}
use Rattle.giop_capture.proofs.teller.TellerListener.on_new_flow.Goals as goal

pub returns-clause-does : goal.returns-clause-does
returns-clause-does g c =
    λ events h. (
      c.on_new_flow.ensures.follows events h.0,
      λ S written begins. c.on_new_flow.ensures.told S written events (h.1 S written begins),
      seen_stays events (Opens c.args.flow c.args.endpoints) _ refl refl refl h.2,
    )
