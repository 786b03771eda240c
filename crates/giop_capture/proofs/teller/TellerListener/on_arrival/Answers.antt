-- A packet changes no stream.
use Rattle.std.proofs.Common.{refl}
use Rattle.tcp_flow.specs.Flow.{OfCapture, ComesFrom}
use Rattle.giop_capture.proofs.TellerLemmas.{followed_on, seen_stays}
use Rattle.giop_capture.proofs.teller.TellerListener.on_arrival.Goals as goal

pub returns : goal.returns
returns g c =
    λ events h. (
      rw c.on_arrival.ensures.value (followed_on c.args.self.now.conversations.slots.items
          events _ h.0),
      λ S written begins. c.on_arrival.ensures.told S written events (h.1 S written begins),
      seen_stays events (OfCapture (ComesFrom c.args.arrival)) _ refl refl refl h.2,
    )
