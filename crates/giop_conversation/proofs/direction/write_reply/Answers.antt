use Rattle.giop_print.proofs.Writing.{front-append}
use Rattle.giop_conversation.proofs.StreamReadLemmas.{writes_both}
use Rattle.giop_conversation.proofs.direction.write_reply.Goals as goal

pub returns-in-Ok : goal.returns-in-Ok
returns-in-Ok g c = writes_both c.write_raised.result _ _ _ _ _
    (rw c.answering.ensures at c.in-Ok.ensures) (rw c.raising.ensures at c.write_raised.ensures)

pub returns-in-Err : goal.returns-in-Err
returns-in-Err g c = front-append _ _ _ _ (rw c.answering.ensures at c.in-Err.ensures)
