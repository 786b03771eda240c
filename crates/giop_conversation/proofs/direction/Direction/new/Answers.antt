use Rattle.std.proofs.Common.{[]}
use Rattle.giop_message.specs.Signatures.{by_list}
use Rattle.giop_conversation.proofs.StreamReadLemmas.{agree_start}
use Rattle.giop_conversation.proofs.direction.Direction.new.Goals as goal

pub returns-clause-holds : goal.returns-clause-holds
returns-clause-holds c = λ a.
    let e = c.in_ok-new.field-0 in
    c.answers_agree.ensures.held e (by_list e.request_table) a []
    (agree_start e.table e.most (by_list e.request_table) a) c.in_ok-new.ensures.holds
