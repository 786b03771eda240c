use Rattle.std.proofs.Common.{◌/◌, vec_len, refl}
use Rattle.tcp_flow.specs.Flow.{Opens}
use Rattle.giop_conversation.proofs.FollowedLemmas.{element, engines_stay, none_of_opens, followed_still}
use Rattle.giop_conversation.proofs.FollowedLemmas.{no_element}
use Rattle.giop_conversation.proofs.WrittenLemmas.{opened_told, opened_beyond}
use Rattle.giop_conversation.proofs.conversations.Conversations.on_new_flow.Goals as goal

pub returns-in-Some-clause-follows : goal.returns-in-Some-clause-follows
returns-in-Some-clause-follows g c = λ events follows.
    let slots = c.args.self.now.slots in
    let old = c.in-Some.slot.now in
    let here = element slots.items (vec_len slots) (c.args.flow / 2) old slots.ok.0
    (c.in-Some.ensures.variant.0 refl) c.in-Some.ensures.value in
    engines_stay slots.items events (Opens c.args.flow c.args.endpoints) c.args.flow old
    c.open.new.self follows here c.open.ensures.even c.open.ensures.odd
    (none_of_opens c.args.flow c.args.endpoints)

pub returns-in-None-clause-follows : goal.returns-in-None-clause-follows
returns-in-None-clause-follows g c = λ events follows.
    followed_still c.args.self.now.slots.items events (Opens c.args.flow c.args.endpoints) follows
    (none_of_opens c.args.flow c.args.endpoints)

pub returns-in-Some-clause-told : goal.returns-in-Some-clause-told
returns-in-Some-clause-told g c = λ S written events told.
    let now = c.args.self.now in
    let slots = now.slots in
    let t = now.totals in
    let old = c.in-Some.slot.now in
    let here = element slots.items (vec_len slots) (c.args.flow / 2) old slots.ok.0
    (c.in-Some.ensures.variant.0 refl) c.in-Some.ensures.value in
    opened_told S written events slots.items now.out now.arrival now.first t
    now.cut c.args.flow c.args.endpoints old c.open.new.self
    told here (λ k. rw c.side_of.ensures at (c.open.ensures.held S k))

pub returns-in-None-clause-told : goal.returns-in-None-clause-told
returns-in-None-clause-told g c = λ S written events told.
    let now = c.args.self.now in
    let slots = now.slots in
    let t = now.totals in
    opened_beyond S written events slots.items now.out now.arrival now.first t
    now.cut c.args.flow c.args.endpoints told
    (no_element slots.items (vec_len slots) (c.args.flow / 2) slots.ok.0
    c.in-None.ensures.variant.1)
