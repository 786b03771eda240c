-- A payload in which no stream begins is counted.
use Rattle.tcp_flow.specs.Flow.{OfCapture, Passes}
use Rattle.giop_capture.proofs.TellerLemmas.{seen_on}
use Rattle.giop_capture.proofs.teller.TellerListener.on_looked_through.Goals as goal

pub returns : goal.returns
returns g c =
    λ events h. (
      c.on_looked_through.ensures.follows events _ h.0,
      λ S written begins. c.on_looked_through.ensures.told S written events _
          (h.1 S written begins),
      seen_on events (OfCapture (Passes c.args.octets.now)) _ _ h.2
          c.seen_after_payload-self.ensures,
    )
