use Rattle.std.proofs.Common.{refl, sym, ◌∙◌}
use Rattle.giop_stream.specs.Rules.{asks_by}
use Rattle.giop_stream.proofs.slots.has_id.Goals as goal

pub returns-in-Some : goal.returns-in-Some
unfolding asks_by
returns-in-Some c =
    λ C l w kept k.
    rw (sym (c.request_id.ensures C l kept.phase w.number w.header kept.octets k) ∙ c.in-Some.is)
    refl

pub returns-in-None : goal.returns-in-None
unfolding asks_by
returns-in-None c =
    λ C l w kept k.
    rw (sym (c.request_id.ensures C l kept.phase w.number w.header kept.octets k) ∙ c.in-None.is)
    refl
