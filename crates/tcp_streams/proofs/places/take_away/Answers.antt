use Rattle.std.proofs.Common.{sym, ◌∙◌, arith}
use Rattle.tcp_streams.proofs.Placed.{stands, none_without, front_few, front_less, goes_front, goes_after}
use Rattle.tcp_streams.proofs.places.take_away.Goals as goal

pub returns-in_default-clause-items : goal.returns-in_default-clause-items
returns-in_default-clause-items c = sym (none_without c.args.flow c.args.ids.now.items
    (sym c.place_of.ensures ∙ c.in_default.is))

pub index_mut-requires : goal.index_mut-requires
index_mut-requires c =
    let s = stands _ _ c.args.ids.now.items (sym c.place_of.ensures ∙ c.in-Some.is) in
    omega arith

pub overflow_sub-front : goal.overflow_sub-front
overflow_sub-front c =
    let s = stands _ _ c.args.ids.now.items (sym c.place_of.ensures ∙ c.in-Some.is) in
    omega (arith, front_less _ _ _ _ _ _ c.requires s (omega arith))

pub overflow_add-front : goal.overflow_add-front
overflow_add-front c =
    let s = stands _ _ c.args.ids.now.items (sym c.place_of.ensures ∙ c.in-Some.is) in
    omega (arith, front_few _ _ _ _ c.requires)

pub overflow_add-front-else-index-front : goal.overflow_add-front-else-index-front
overflow_add-front-else-index-front c =
    let s = stands _ _ c.args.ids.now.items (sym c.place_of.ensures ∙ c.in-Some.is) in
    omega arith

pub returns-then-index-front-clause-queue : goal.returns-then-index-front-clause-queue
returns-then-index-front-clause-queue c =
    let s = stands _ _ c.args.ids.now.items (sym c.place_of.ensures ∙ c.in-Some.is) in
    rw c.note.ensures
    (goes_front _ _ _ _ _ _ c.requires s (omega arith))

pub returns-then-index-front-clause-items : goal.returns-then-index-front-clause-items
returns-then-index-front-clause-items c =
    (stands _ _ c.args.ids.now.items (sym c.place_of.ensures ∙ c.in-Some.is)).gone

pub returns-else-index-front-clause-queue : goal.returns-else-index-front-clause-queue
returns-else-index-front-clause-queue c =
    let s = stands _ _ c.args.ids.now.items (sym c.place_of.ensures ∙ c.in-Some.is) in
    rw c.note.ensures
    (goes_after _ _ _ _ _ _ c.requires s (omega arith))

pub returns-else-index-front-clause-items : goal.returns-else-index-front-clause-items
returns-else-index-front-clause-items c =
    (stands _ _ c.args.ids.now.items (sym c.place_of.ensures ∙ c.in-Some.is)).gone
