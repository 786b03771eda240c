use Rattle.std.proofs.Common.{◌/◌, ◌<◌, length, refl, sym}
use Rattle.std.proofs.lemmas.Bool.{ltb-true}
use Rattle.giop_conversation.proofs.FailingBelow.{counted_more}
use Rattle.giop_conversation.proofs.FailingLemmas.{none_failed}
use Rattle.giop_conversation.proofs.FollowedLemmas.{element, lacking_told}
use Rattle.giop_conversation.proofs.conversations.Conversations.message_lacks.Goals as goal

pub returns-in-Some-clause-value : goal.returns-in-Some-clause-value
returns-in-Some-clause-value g c = λ events follows.
    let slots = c.args.self.now.slots.items in
    let old = c.in-Some.slot.now in
    let at = rw c.deref.ensures.value at c.in-Some.ensures.lookup in
    let below : c.args.flow / 2 < length slots =
    ltb-true (c.args.flow / 2) (length slots) (sym at.0) in
    let here = element slots (length slots) (c.args.flow / 2) old refl below at.1 in
    lacking_told slots events c.args.flow old c.lacking.result follows here
    (rw c.side_of.ensures at c.lacking.ensures)

pub returns-in-Some-clause-fails : goal.returns-in-Some-clause-fails
returns-in-Some-clause-fails g c =
    none_failed c.args.self.now.out.failures c.if-has_failed.ensures.1

pub returns-in-None-clause-fails : goal.returns-in-None-clause-fails
returns-in-None-clause-fails g c = rw c.refuse.ensures (counted_more c.args.self.now.out.failures)
