use Rattle.std.proofs.Common.{refl}
use Rattle.giop_stream.specs.Rules.{rules_by}
use Rattle.giop_stream.specs.EngineState.{state_of}
use Rattle.giop_stream.proofs.engine.Engine.lacking.Goals as goal

pub returns : goal.returns
returns c = λ a p h.
    let k = rw (← c.self.view_is) at h in
    let C = c.self.inside.catalogue.now in
    let most = c.self.inside.framing.slots.slots.most in
    c.lacking.ensures C a most (state_of (rules_by C a most) p)
    (record { stream = p; octets = k.octets; held = refl }) k.shows
