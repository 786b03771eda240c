use Rattle.std.proofs.Common.{Some, sym, ap, ◌∙◌}
use Rattle.giop_stream.specs.declared.status.Totals.{Totals}
use Rattle.giop_conversation.specs.Directions.{HasRead}
use Rattle.giop_conversation.proofs.StreamReadLemmas.{fault_place_is}
use Rattle.giop_conversation.proofs.direction.Direction.fault_place.Goals as goal

pub returns-in-Stopped : goal.returns-in-Stopped
returns-in-Stopped c = λ p read is.
    let inside : HasRead c.self.inside.engine p = rw (← c.self.view_is) at read in
    ap (λ (t : Totals). Some t.octets) c.totals.ensures.value
    ∙ fault_place_is c.self.inside.engine p c.in-Stopped.field-0 inside (sym c.in-Stopped.is ∙ is)
