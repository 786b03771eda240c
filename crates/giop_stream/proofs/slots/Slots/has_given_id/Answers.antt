use Rattle.giop_stream.proofs.SlotSteps.EventsOnSlots.{open_kept, asked_by_one, asked_by_none}
use Rattle.giop_stream.proofs.slots.Slots.has_given_id.Goals as goal

pub returns-in-Some : goal.returns-in-Some
returns-in-Some c =
    λ C l c' who o h here.
    asked_by_one C l _ o.opener (c'.known o.opener.number) c.args.id c.has_id.result
    (rw c.in-Some.is at (open_kept C l c.args.self.now _ c' who c.args.index o h here
    c.open_at.ensures))
    (λ kept k. c.has_id.ensures C l o.opener kept k)

pub returns-in-None : goal.returns-in-None
returns-in-None c =
    λ C l c' who o h here.
    asked_by_none C l o.opener (c'.known o.opener.number) c.args.id
    (rw c.in-None.is at (open_kept C l c.args.self.now _ c' who c.args.index o h here
    c.open_at.ensures))
