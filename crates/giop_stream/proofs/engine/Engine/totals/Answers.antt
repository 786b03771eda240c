use Rattle.std.proofs.Common.{refl}
use Rattle.giop_stream.specs.Rules.{rules_by}
use Rattle.giop_stream.specs.EngineState.{state_of}
use Rattle.giop_stream.specs.FramingView.{framing_view}
use Rattle.giop_stream.proofs.CodeSteps.MessageOctets.{messages_at}
use Rattle.giop_stream.proofs.engine.Engine.totals.Goals as goal

pub returns-clause-messages : goal.returns-clause-messages
returns-clause-messages c a p h =
    let k = rw (← c.self.view_is) at h in
    let C = c.self.inside.catalogue.now in
    let most = c.self.inside.framing.slots.slots.most in
    messages_at C a most (state_of (rules_by C a most) p)
    (record { stream = p; octets = k.octets; held = refl }) (framing_view c.self.inside.framing)
    k.shows
