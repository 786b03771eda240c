use Rattle.std.proofs.Common.{◌≡◌, ◌∙◌}
use Rattle.giop_conversation.specs.declared.conversation.Side.TheVariants.{Even, Odd}
use Rattle.giop_conversation.specs.Captured.{calls_in}
use Rattle.giop_conversation.specs.DumpHeld.{HoldsHalf, HasCalls}
use Rattle.giop_conversation.proofs.DumpLemmas.{goes_on_by, reads_by}
use Rattle.giop_conversation.proofs.conversation.Conversation.read.Goals as goal

pub returns-in-Even-clause-text : goal.returns-in-Even-clause-text
returns-in-Even-clause-text g c = λ S k w holds ready.
    let octets = c.args.octets.now in
    let arrival = c.args.arrival.now in
    let d = c.turn_to.new.self.even in
    let t = c.turn_to.new.self.exchange in
    let h : HoldsHalf S d k.even = rw c.turn_to.ensures.even holds.even in
    let opposite : HoldsHalf S c.turn_to.new.self.odd k.odd = rw c.turn_to.ensures.odd holds.odd in
    let calls : HasCalls Even t k = rw c.in-Even.is at (c.turn_to.ensures.kept k holds.calls) in
    let here : c.turn_to.new.self.side ≡ Even = c.turn_to.ensures.value ∙ c.in-Even.is in
    let go = c.answers_go_on.ensures S.table k.even.answers S.messages k.even.octets octets
    (calls_in S Even arrival k) in
    let a = go.0 in
    let on = goes_on_by S k Even octets arrival d t a h calls
    (c.answers_agree.ensures.held d.engine k.even.answers a k.even.octets) go.1 go.2 in
    rw c.in-Even.is (reads_by c.read.result S k Even octets arrival w _ c.read.new.out d t a h
    calls on here
    c.read.ensures.same c.read.ensures.stream c.read.ensures.live c.read.ensures.flow opposite
    (c.read.ensures.text a k.even.octets w on.holds ready on.agrees))

pub returns-in-Odd-clause-text : goal.returns-in-Odd-clause-text
returns-in-Odd-clause-text g c = λ S k w holds ready.
    let octets = c.args.octets.now in
    let arrival = c.args.arrival.now in
    let d = c.turn_to.new.self.odd in
    let t = c.turn_to.new.self.exchange in
    let h : HoldsHalf S d k.odd = rw c.turn_to.ensures.odd holds.odd in
    let opposite : HoldsHalf S c.turn_to.new.self.even k.even = rw c.turn_to.ensures.even
    holds.even in
    let calls : HasCalls Odd t k = rw c.in-Odd.is at (c.turn_to.ensures.kept k holds.calls) in
    let here : c.turn_to.new.self.side ≡ Odd = c.turn_to.ensures.value ∙ c.in-Odd.is in
    let go = c.answers_go_on.ensures S.table k.odd.answers S.messages k.odd.octets octets
    (calls_in S Odd arrival k) in
    let a = go.0 in
    let on = goes_on_by S k Odd octets arrival d t a h calls
    (c.answers_agree.ensures.held d.engine k.odd.answers a k.odd.octets) go.1 go.2 in
    rw c.in-Odd.is (reads_by c.read-in-Odd.result S k Odd octets arrival w _ c.read-in-Odd.new.out
    d t a h calls on here
    c.read-in-Odd.ensures.same c.read-in-Odd.ensures.stream c.read-in-Odd.ensures.live
    c.read-in-Odd.ensures.flow opposite
    (c.read-in-Odd.ensures.text a k.odd.octets w on.holds ready on.agrees))
