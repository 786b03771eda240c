use Rattle.std.proofs.Common.{rules, ◌≡◌, [], sym, ◌∙◌}
use Rattle.tcp_connections.specs.State.{state_of}
use Rattle.tcp_connections.proofs.Slots.{known_slot}
use Rattle.tcp_connections.proofs.connections.Connections.is_slot_of.Goals as goal

pub returns-then-eq : goal.returns-then-eq
returns-then-eq c begun =
    let same : c.in-Some.key.now ≡ c.args.pair.now = search rules in
    known_slot (state_of c.args.self.now []) c.args.pair.now c.args.slot c.requires.sound
    (sym c.has_begun.ensures ∙ begun) (λ index d l r. c.in-Some.ensures index d l r ∙ same)
