use Rattle.std.proofs.Common.{◌≡◌}
use Rattle.giop_conversation.specs.Captured.{live_stream}
use Rattle.giop_conversation.proofs.conversation.Conversation.begin.Goals as goal

pub returns-in-Even-clause-text : goal.returns-in-Even-clause-text
returns-in-Even-clause-text g c = λ S k w holds ready.
    let partner : c.live_stream.result ≡ live_stream k.odd =
    rw (c.opposite.ensures, c.in-Even.is) at (c.live_stream.ensures S k holds) in
    rw (c.in-Even.is, ← holds.even.flow, ← partner) (c.begin.ensures.text w ready)

pub returns-in-Odd-clause-text : goal.returns-in-Odd-clause-text
returns-in-Odd-clause-text g c = λ S k w holds ready.
    let partner : c.live_stream.result ≡ live_stream k.even =
    rw (c.opposite.ensures, c.in-Odd.is) at (c.live_stream.ensures S k holds) in
    rw (c.in-Odd.is, ← holds.odd.flow, ← partner) (c.begin-in-Odd.ensures.text w ready)
