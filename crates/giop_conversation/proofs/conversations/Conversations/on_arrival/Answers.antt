use Rattle.giop_conversation.proofs.WrittenLemmas.{packet_told}
use Rattle.giop_conversation.proofs.conversations.Conversations.on_arrival.Goals as goal

pub returns-clause-told : goal.returns-clause-told
returns-clause-told g c = λ S written events told.
    let now = c.args.self.now in
    let t = now.totals in
    packet_told S written events now.slots.items now.out now.arrival now.first t
    now.cut c.args.arrival told
