use Rattle.std.proofs.Common.{sym, ap}
use Rattle.tcp_waiting.specs.Payload.{no_payload, Payload}
use Rattle.tcp_waiting.proofs.Held.{length_held, get_held}
use Rattle.tcp_waiting.proofs.pool.Pool.number.Goals as goal

pub at-requires : goal.at-requires
at-requires c = rw (← c.self.view_is, length_held) at c.requires

pub returns : goal.returns
returns c =
    let h = rw (← c.self.view_is, length_held) at c.requires in
    rw (← c.self.view_is) (sym (ap (λ (p : Payload). p.number) (get_held
    c.self.inside.octets.items c.self.inside.waiting.items _ _ no_payload h c.at.ensures)))
