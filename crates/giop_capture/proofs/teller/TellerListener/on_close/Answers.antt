-- The last lines of the stream are written.
use Rattle.tcp_flow.specs.Flow.{Closes}
use Rattle.giop_capture.proofs.TellerLemmas.{seen_on, seen_closed}
use Rattle.giop_capture.proofs.teller.TellerListener.on_close.Goals as goal

pub returns-in-Ok-clause-does : goal.returns-in-Ok-clause-does
returns-in-Ok-clause-does g c =
    λ events h. (
      c.in-Ok.ensures.follows events h.0,
      λ S written begins. c.in-Ok.ensures.told S written events (h.1 S written begins),
      seen_on events (Closes c.args.flow c.args.cause) _ _ h.2
          (seen_closed _ c.args.flow c.args.cause _ c.has_made_room-self.ensures),
    )
