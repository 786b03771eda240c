use Rattle.giop_conversation.specs.Directions.{HasRead}
use Rattle.giop_conversation.proofs.direction.Direction.lacking.Goals as goal

pub returns : goal.returns
returns c = λ p read.
    let inside : HasRead c.self.inside.engine p = rw (← c.self.view_is) at read in
    c.lacking.ensures inside.answers p inside.holds
