use Rattle.giop_conversation.proofs.DumpLemmas.{close_in}
use Rattle.giop_conversation.proofs.conversation.Conversation.close.Goals as goal

pub returns-in-Even-clause-text : goal.returns-in-Even-clause-text
returns-in-Even-clause-text g c = λ S k w holds ready.
    rw c.in-Even.is (close_in c.write_close.result S c.args.self.now.even k.even c.args.cause
    c.write_close.new.out w holds.even
    ((rw c.mark_ended.ensures at c.write_close.ensures.text) k.even.answers k.even.octets w
    holds.even.holds ready))

pub returns-in-Odd-clause-text : goal.returns-in-Odd-clause-text
returns-in-Odd-clause-text g c = λ S k w holds ready.
    rw c.in-Odd.is (close_in c.write_close-in-Odd.result S c.args.self.now.odd k.odd c.args.cause
    c.write_close-in-Odd.new.out w holds.odd
    ((rw c.mark_ended-in-Odd.ensures at c.write_close-in-Odd.ensures.text) k.odd.answers
    k.odd.octets w
    holds.odd.holds ready))
