use Rattle.std.proofs.Common.{◌/◌, vec_len, refl}
use Rattle.giop_conversation.proofs.FailingBelow.{counted_more}
use Rattle.giop_conversation.proofs.FailingLemmas.{once, none_failed}
use Rattle.giop_conversation.proofs.FollowedLemmas.{element, octets_told}
use Rattle.giop_conversation.proofs.FollowedLemmas.{no_element}
use Rattle.giop_conversation.proofs.WrittenLemmas.{delivered_told, delivered_beyond, still_sound}
use Rattle.giop_conversation.proofs.conversations.Conversations.on_octets.Goals as goal

pub returns-in-Some-clause-follows : goal.returns-in-Some-clause-follows
returns-in-Some-clause-follows g c = λ events follows.
    let slots = c.args.self.now.slots in
    let old = c.in-Some.slot.now in
    let here = element slots.items (vec_len slots) (c.args.flow / 2) old slots.ok.0
    (c.in-Some.ensures.variant.0 refl) c.in-Some.ensures.value in
    octets_told c.read.result slots.items events c.args.flow c.args.octets.now old c.read.new.self
    follows here
    (rw c.side_of.ensures at c.read.ensures.read)
    (rw c.side_of.ensures at c.read.ensures.fault)
    (rw c.side_of.ensures at c.read.ensures.other)

pub returns-in-Some-clause-fails : goal.returns-in-Some-clause-fails
returns-in-Some-clause-fails g c =
    once c.read.result c.args.self.now.out c.read.new.out
    (none_failed c.args.self.now.out.failures c.if-has_failed.ensures.1) c.read.ensures.fails

pub returns-in-None-clause-fails : goal.returns-in-None-clause-fails
returns-in-None-clause-fails g c = rw c.refuse.ensures (counted_more c.args.self.now.out.failures)

pub returns-in-Some-clause-told : goal.returns-in-Some-clause-told
returns-in-Some-clause-told g c = λ S written events told.
    let now = c.args.self.now in
    let slots = now.slots in
    let old = c.in-Some.slot.now in
    let here = element slots.items (vec_len slots) (c.args.flow / 2) old slots.ok.0
    (c.in-Some.ensures.variant.0 refl) c.in-Some.ensures.value in
    delivered_told S written events slots.items now.out now.arrival now.first now.totals now.cut
    c.read.result c.args.flow c.args.octets.now
    old c.read.new.self c.read.new.out told here (λ k w holds ready.
    rw c.side_of.ensures at (c.read.ensures.text S k w holds ready))

pub returns-in-None-clause-told : goal.returns-in-None-clause-told
returns-in-None-clause-told g c = λ S written events told.
    let now = c.args.self.now in
    let slots = now.slots in
    let t = now.totals in
    delivered_beyond S written events slots.items now.out now.arrival now.first t
    now.cut c.args.flow c.args.octets.now
    c.refuse.new.self told (no_element slots.items (vec_len slots) (c.args.flow / 2) slots.ok.0
    c.in-None.ensures.variant.1)
    (rw c.refuse.ensures refl)

pub returns-then-has_failed-clause-told : goal.returns-then-has_failed-clause-told
returns-then-has_failed-clause-told g c = λ S written events told.
    absurd (still_sound c.args.self.now.out.failures told.holds.ready.sound
    (c.if-has_failed.ensures.0 refl))
