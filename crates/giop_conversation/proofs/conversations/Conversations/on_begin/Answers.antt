use Rattle.std.proofs.Common.{◌/◌, ◌++◌, ◌∷◌, [], vec_len, refl}
use Rattle.std.proofs.Math.ListN.{set}
use Rattle.tcp_flow.specs.Flow.{Begins}
use Rattle.giop_conversation.specs.Followed.{HaveFollowed}
use Rattle.giop_conversation.proofs.FailingLemmas.{once, none_failed}
use Rattle.giop_conversation.proofs.FollowedLemmas.{element, no_element, stream_begun, of_begins, followed_beyond, on_ok}
use Rattle.giop_conversation.proofs.WrittenLemmas.{begun_told, begun_beyond, still_sound}
use Rattle.giop_conversation.proofs.conversations.Conversations.on_begin.Goals as goal

pub returns-in-Some-clause-follows : goal.returns-in-Some-clause-follows
returns-in-Some-clause-follows g c = λ events follows.
    let slots = c.args.self.now.slots in
    let old = c.in-Some.slot.now in
    let new = c.begin.new.self in
    let here = element slots.items (vec_len slots) (c.args.flow / 2) old slots.ok.0
    (c.in-Some.ensures.variant.0 refl) c.in-Some.ensures.value in
    on_ok c.begin.result (HaveFollowed (set slots.items (c.args.flow / 2) new)
    (events ++ Begins c.args.flow c.args.start ∷ []))
    (stream_begun slots.items events c.args.flow c.args.start old new follows here
    (rw c.side_of.ensures at c.begin.ensures.read)
    (rw c.side_of.ensures at c.begin.ensures.other))

pub returns-in-Some-clause-fails : goal.returns-in-Some-clause-fails
returns-in-Some-clause-fails g c =
    once c.begin.result c.args.self.now.out c.begin.new.out
    (none_failed c.args.self.now.out.failures c.if-has_failed.ensures.1) c.begin.ensures.fails

pub returns-in-None-clause-follows : goal.returns-in-None-clause-follows
returns-in-None-clause-follows g c = λ events follows.
    let slots = c.args.self.now.slots in
    followed_beyond slots.items events (Begins c.args.flow c.args.start) c.args.flow follows
    (no_element slots.items (vec_len slots) (c.args.flow / 2) slots.ok.0
    c.in-None.ensures.variant.1)
    (of_begins c.args.flow c.args.start)

pub returns-in-Some-clause-told : goal.returns-in-Some-clause-told
returns-in-Some-clause-told g c = λ S written events told.
    let now = c.args.self.now in
    let slots = now.slots in
    let t = now.totals in
    let old = c.in-Some.slot.now in
    let here = element slots.items (vec_len slots) (c.args.flow / 2) old slots.ok.0
    (c.in-Some.ensures.variant.0 refl) c.in-Some.ensures.value in
    begun_told S written events slots.items now.out now.arrival now.first t
    now.cut c.begin.result c.args.flow c.args.start c.next_number-number.result
    c.saturating_sum-self.result old c.begin.new.self c.begin.new.out c.next_number-number.ensures
    c.saturating_sum-self.ensures told here
    (λ k. rw c.side_of.ensures at (c.begin.ensures.held S k))
    (λ k w. rw c.side_of.ensures at (c.begin.ensures.text S k w))

pub returns-in-None-clause-told : goal.returns-in-None-clause-told
returns-in-None-clause-told g c = λ S written events told.
    let now = c.args.self.now in
    let slots = now.slots in
    let t = now.totals in
    begun_beyond S written events slots.items now.out now.arrival now.first t
    now.cut c.args.flow c.args.start
    c.saturating_sum-self.result c.saturating_sum-self.ensures told
    (no_element slots.items (vec_len slots) (c.args.flow / 2) slots.ok.0
    c.in-None.ensures.variant.1)

pub returns-then-has_failed-clause-told : goal.returns-then-has_failed-clause-told
returns-then-has_failed-clause-told g c = λ S written events told.
    absurd (still_sound c.args.self.now.out.failures told.holds.ready.sound
    (c.if-has_failed.ensures.0 refl))
