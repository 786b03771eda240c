use Rattle.tcp_connections.proofs.Gone.{after_gone}
use Rattle.tcp_connections.proofs.laws.nothing_else_forgets.Goals as goal

pub returns : goal.returns
returns c = after_gone
