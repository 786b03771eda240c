use Rattle.giop_message.proofs.RequestIdLine.{id_line_is}
use Rattle.giop_message.proofs.request_id.request_id_line.Goals as goal

pub returns : goal.returns
returns g c = rw (id_line_is c.args.number c.args.id, ← c.from.ensures) c.value_line.ensures
