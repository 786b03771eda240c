use Rattle.std.proofs.Common.{refl}
use Rattle.giop_stream.proofs.SlotSteps.Performing.{does_nothing}
use Rattle.giop_stream.proofs.SlotSteps.ReadingEffects.{close_writes, no_lines}
use Rattle.giop_stream.proofs.open_message.close_message.Goals as goal

pub returns-in-Some : goal.returns-in-Some
returns-in-Some g c =
    λ l w o k. close_writes c.args.catalogue.now l c.in-Some.m w o c.args.place c.close.result _ _
    (rw c.in-Some.is at k)
    (c.close.ensures.writes l) c.close.ensures.short

pub returns-in-None : goal.returns-in-None
returns-in-None g c =
    λ l w o k. rw (no_lines c.args.catalogue.now l w o _ (rw c.in-None.is at k))
    (does_nothing _ _ refl tt)
