use Rattle.std.proofs.Common.{rules, ◌≡◌, sym, subst}
use Rattle.std.proofs.lemmas.Fn.{filter_same}
use Rattle.tcp_streams.specs.Places.{is_id, ids_of}
use Rattle.tcp_streams.specs.Stamped.{AreStamped}
use Rattle.tcp_streams.proofs.Placed.{packed}
use Rattle.tcp_streams.proofs.places.pack.Goals as goal

pub stamp-requires-clause-stamped : goal.stamp-requires-clause-stamped
stamp-requires-clause-stamped c =
    let kept : c.retain.new.self.items ≡ ids_of c.args.ids.now.items =
    filter_same _ is_id _ (λ x b f' k. search rules) c.args.ids.now.items
    c.retain.new.self.items c.retain.ensures.filtered in
    subst (AreStamped c.args.stamps.now.flows.items) (sym kept) c.requires.stamped

pub returns-clause-queue : goal.returns-clause-queue
returns-clause-queue c =
    let kept : c.retain.new.self.items ≡ ids_of c.args.ids.now.items =
    filter_same _ is_id _ (λ x b f' k. search rules) c.args.ids.now.items
    c.retain.new.self.items c.retain.ensures.filtered in
    rw kept (packed c.args.ids.now.items c.stamp.new.stamps.flows.items c.requires.few
    c.requires.distinct (subst (AreStamped c.stamp.new.stamps.flows.items) kept c.stamp.ensures))

pub returns-clause-items : goal.returns-clause-items
returns-clause-items c = filter_same _ is_id _ (λ x b f' k. search rules) c.args.ids.now.items
    c.retain.new.self.items c.retain.ensures.filtered
