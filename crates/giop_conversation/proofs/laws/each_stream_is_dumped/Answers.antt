use Rattle.giop_conversation.proofs.StreamTextLemmas.{all_shown}
use Rattle.giop_conversation.proofs.StreamEnds.{all_end}
use Rattle.giop_conversation.proofs.StreamCloses.{all_close}
use Rattle.giop_conversation.proofs.StreamSlots.{all_have_slots}
use Rattle.giop_conversation.proofs.laws.each_stream_is_dumped.Goals as goal

pub returns-clause-shows : goal.returns-clause-shows
returns-clause-shows c = λ S written events d leads.
    all_shown S written (λ a b p agrees. c.answers_agree.ensures.text S.table a b S.messages p
    agrees) events d leads

pub returns-clause-ends : goal.returns-clause-ends
returns-clause-ends c = λ S written events d leads turn number is.
    all_end S written (λ a b p agrees. c.answers_agree.ensures.text S.table a b S.messages p agrees)
    events d leads turn number is

pub returns-clause-closes : goal.returns-clause-closes
returns-clause-closes c = all_close

pub returns-clause-slots : goal.returns-clause-slots
returns-clause-slots c = all_have_slots
