-- The line of the stream is written.
use Rattle.std.proofs.Common.{refl}
use Rattle.tcp_flow.specs.Flow.{Begins}
use Rattle.giop_capture.proofs.TellerLemmas.{seen_stays}
use Rattle.giop_capture.proofs.teller.TellerListener.on_begin.Goals as goal

pub returns-in-Ok-clause-does : goal.returns-in-Ok-clause-does
returns-in-Ok-clause-does g c =
    λ events h. (
      c.in-Ok.ensures.follows events h.0,
      λ S written begins. c.in-Ok.ensures.told S written events (h.1 S written begins),
      seen_stays events (Begins c.args.flow c.args.start) _ refl refl refl h.2,
    )
