-- What was seen is known for all events.
use Rattle.giop_capture.proofs.teller.TellerCaptureListener.seen.Goals as goal

pub returns : goal.returns
returns g c = λ events h. h.2
