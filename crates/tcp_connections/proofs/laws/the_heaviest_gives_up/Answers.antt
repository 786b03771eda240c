use Rattle.tcp_streams.specs.Lives.{lives}
use Rattle.tcp_connections.proofs.Heaviest.{heaviest_first}
use Rattle.tcp_connections.proofs.laws.the_heaviest_gives_up.Goals as goal

pub returns : goal.returns
returns c w some = heaviest_first w.held (lives w.events) some
