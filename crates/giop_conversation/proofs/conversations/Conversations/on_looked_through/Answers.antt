use Rattle.tcp_flow.specs.Flow.{OfCapture, Passes}
use Rattle.giop_conversation.proofs.FollowedLemmas.{none_of_passes, followed_still}
use Rattle.giop_conversation.proofs.WrittenLemmas.{passed_told}
use Rattle.giop_conversation.proofs.conversations.Conversations.on_looked_through.Goals as goal

pub returns-clause-follows : goal.returns-clause-follows
returns-clause-follows g c = λ events octets follows.
    followed_still c.args.self.now.slots.items events (OfCapture (Passes octets)) follows
    (none_of_passes octets)

pub returns-clause-told : goal.returns-clause-told
returns-clause-told g c = λ S written events octets told.
    let now = c.args.self.now in
    passed_told S written events now.slots.items now.out now.arrival now.first now.totals now.cut
    octets c.saturating_sum-self.result c.saturating_sum-self.ensures told
