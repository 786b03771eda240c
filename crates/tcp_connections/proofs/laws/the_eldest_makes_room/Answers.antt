use Rattle.tcp_connections.proofs.Eldest.{eldest_makes_room}
use Rattle.tcp_connections.proofs.laws.the_eldest_makes_room.Goals as goal

pub returns : goal.returns
returns c = eldest_makes_room
