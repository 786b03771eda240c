use Rattle.std.proofs.Common.{◌/◌, vec_len, refl, ℕ, Result, Ok}
use Rattle.tcp_flow.specs.Flow.{Closes}
use Rattle.giop_conversation.proofs.FailingBelow.{counted_more}
use Rattle.giop_conversation.proofs.FollowedLemmas.{element, no_element, engines_stay, none_of_closes, followed_still}
use Rattle.giop_conversation.proofs.WrittenLemmas.{closed_told, closed_front, closed_beyond, still_sound}
use Rattle.giop_conversation.proofs.conversations.Conversations.on_close.Goals as goal

pub returns-in-None-clause-follows : goal.returns-in-None-clause-follows
returns-in-None-clause-follows g c = λ events follows.
    followed_still c.args.self.now.slots.items events (Closes c.args.flow c.args.cause) follows
    (none_of_closes c.args.flow c.args.cause)

pub returns-in-Err-clause-fails : goal.returns-in-Err-clause-fails
returns-in-Err-clause-fails g c = rw c.in-Err.ensures.fails
    (counted_more c.args.self.now.out.failures)

pub returns-in-Ok-clause-follows : goal.returns-in-Ok-clause-follows
returns-in-Ok-clause-follows g c = λ events follows.
    let slots = c.args.self.now.slots in
    let old = c.in-Some.slot.now in
    let here = element slots.items (vec_len slots) (c.args.flow / 2) old slots.ok.0
    (c.in-Some.ensures.variant.0 refl) c.in-Some.ensures.value in
    engines_stay slots.items events (Closes c.args.flow c.args.cause) c.args.flow old
    c.close.new.self follows here c.close.ensures.even c.close.ensures.odd
    (none_of_closes c.args.flow c.args.cause)

pub returns-in-Ok-clause-told : goal.returns-in-Ok-clause-told
returns-in-Ok-clause-told g c = λ S written events told.
    let now = c.args.self.now in
    let slots = now.slots in
    let t = now.totals in
    let old = c.in-Some.slot.now in
    let here = element slots.items (vec_len slots) (c.args.flow / 2) old slots.ok.0
    (c.in-Some.ensures.variant.0 refl) c.in-Some.ensures.value in
    let done : Result ℕ ℕ = Ok 0 in
    closed_told S written events slots.items now.out now.arrival now.first t
    now.cut done c.args.flow c.args.cause
    old c.close.new.self c.close.new.out c.saturating_sum-self.result
    c.saturating_sum-self-in-Ok.result
    c.is_cut_after-self.result c.in-Ok.totals told here
    (λ k w. rw c.side_of.ensures at (c.in-Ok.ensures.text S k w))
    (λ k. rw c.side_of.ensures at (c.close.ensures.held S k))
    (λ k. rw c.side_of.ensures at (c.in-Ok.ensures.totals S k))
    c.saturating_sum-self.ensures c.saturating_sum-self-in-Ok.ensures c.is_cut_after-self.ensures

pub returns-in-None-clause-told : goal.returns-in-None-clause-told
returns-in-None-clause-told g c = λ S written events told.
    let now = c.args.self.now in
    let slots = now.slots in
    let t = now.totals in
    closed_beyond S written events slots.items now.out now.arrival now.first t
    now.cut c.args.flow c.args.cause told
    (no_element slots.items (vec_len slots) (c.args.flow / 2) slots.ok.0
    c.in-None.ensures.variant.1)

pub returns-in-Err-clause-told : goal.returns-in-Err-clause-told
returns-in-Err-clause-told g c = λ S written events told.
    let now = c.args.self.now in
    let slots = now.slots in
    let t = now.totals in
    let old = c.in-Some.slot.now in
    let here = element slots.items (vec_len slots) (c.args.flow / 2) old slots.ok.0
    (c.in-Some.ensures.variant.0 refl) c.in-Some.ensures.value in
    closed_front S written events slots.items now.out now.arrival now.first t
    now.cut c.args.flow c.args.cause
    old c.close.new.out told here (λ k w. rw c.side_of.ensures at (c.in-Err.ensures.text S k w))

pub returns-then-has_failed-clause-told : goal.returns-then-has_failed-clause-told
returns-then-has_failed-clause-told g c = λ S written events told.
    absurd (still_sound c.args.self.now.out.failures told.holds.ready.sound
    (c.if-has_failed.ensures.0 refl))
