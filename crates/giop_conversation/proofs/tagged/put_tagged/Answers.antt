use Rattle.giop_conversation.proofs.FailingBelow.{counts_on}
use Rattle.giop_conversation.proofs.TaggedLemmas.{put_both}
use Rattle.giop_conversation.proofs.tagged.put_tagged.Goals as goal

pub returns-in-Ok-clause-does : goal.returns-in-Ok-clause-does
returns-in-Ok-clause-does g c =
    put_both c.put_part_of_line.result _ _ _ _ _ _ _ _ _ _ _ c.put_tag.ensures.stands
    c.put_part_of_line.ensures.does

pub returns-in-Ok-clause-cause : goal.returns-in-Ok-clause-cause
returns-in-Ok-clause-cause g c =
    counts_on c.put_part_of_line.result _ _ _ c.in-Ok.ensures.cause c.put_part_of_line.ensures.cause
