-- The text below is the text of all events, and then the last line.
use Rattle.giop_capture.proofs.TellerLemmas.{still_known}
use Rattle.giop_capture.proofs.teller.TellerCaptureListener.finish.Goals as goal

pub returns-clause-finished : goal.returns-clause-finished
returns-clause-finished g c =
    λ events h S written begins.
    let f = c.in-Ok.ensures.told S written events (h.1 S written begins) in
    record {
      dump = f.dump;
      leads = f.leads;
      text = still_known _ _ _ c.in-Ok-flush.ensures.put f.ready.known;
      is_faulty = f.faulted;
    }
