-- The lines of the octets are written.
use Rattle.std.proofs.Common.{refl}
use Rattle.tcp_flow.specs.Flow.{Delivers}
use Rattle.giop_capture.proofs.TellerLemmas.{seen_stays}
use Rattle.giop_capture.proofs.teller.TellerListener.on_octets.Goals as goal

pub returns-in-Ok-clause-does : goal.returns-in-Ok-clause-does
returns-in-Ok-clause-does g c =
    λ events h.
    let follows = c.in-Ok.ensures.follows events h.0 in (
      (
        follows.0,
        λ S written begins. c.in-Ok.ensures.told S written events (h.1 S written begins),
        seen_stays events (Delivers c.args.flow c.args.octets.now) _ refl refl refl h.2,
      ),
      follows.1,
    )
