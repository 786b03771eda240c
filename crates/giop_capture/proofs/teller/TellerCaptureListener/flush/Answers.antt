-- What was put stays.
use Rattle.giop_capture.proofs.TellerLemmas.{kept_on}
use Rattle.giop_capture.proofs.teller.TellerCaptureListener.flush.Goals as goal

pub returns-in-Ok-clause-does : goal.returns-in-Ok-clause-does
returns-in-Ok-clause-does g c =
    λ events h. kept_on _ _ _ events _ c.in-Ok.ensures.same c.in-Ok.ensures.none c.in-Ok.ensures.put
    h
