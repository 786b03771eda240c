use Rattle.std.proofs.Common.{rules, ℕ, ◌≡◌, get_or}
use Rattle.tcp_connections.specs.Ranks.{room_class_among, rank_among}
use Rattle.tcp_connections.proofs.Ranked.{ranks_before}
use Rattle.tcp_connections.proofs.flows.Flows.makes_room_before.Goals as goal

pub returns : goal.returns
returns c =
    let f = c.args.self.now in
    let a : ℕ = c.args.slot in
    let b : ℕ = c.args.other in
    let rank = rank_among f.states.items f.came.ids.items f.stamps.last.items in
    let own : c.rank_of.result ≡ rank a = search rules in
    let other : c.rank_of-2.result ≡ rank b = search rules in
    rw (own, other) (ranks_before (room_class_among f.states.items f.came.ids.items a)
    (room_class_among f.states.items f.came.ids.items b) (get_or f.stamps.last.items a 0)
    (get_or f.stamps.last.items b 0) (f.small a) (f.small b))
