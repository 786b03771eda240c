-- A fault of the capture changes no stream. Its line is written.
use Rattle.std.proofs.Common.{refl}
use Rattle.capture_file.specs.FaultWords.{fault_word}
use Rattle.tcp_flow.specs.Flow.{OfCapture, HasFault}
use Rattle.giop_capture.proofs.TellerLemmas.{followed_on, seen_stays}
use Rattle.giop_capture.proofs.teller.TellerCaptureListener.on_fault.Goals as goal

pub returns-in-Ok-clause-does : goal.returns-in-Ok-clause-does
returns-in-Ok-clause-does g c =
    λ events h. (
      followed_on c.write_capture_fault.new.self.slots.items events _ (c.in-Ok.ensures.follows
          events h.0),
      λ S written begins. rw (← c.word.ensures)
          (c.in-Ok.ensures.told S written events (h.1 S written begins)),
      seen_stays events
          (OfCapture (HasFault (fault_word c.args.fault.kind) c.args.fault.place)) _ refl refl
          refl h.2,
    )
