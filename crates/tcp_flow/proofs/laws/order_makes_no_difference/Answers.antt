use Rattle.tcp_flow.proofs.Order.{order_makes_no_difference}
use Rattle.tcp_flow.proofs.laws.order_makes_no_difference.Goals as goal

pub returns : goal.returns
returns c = order_makes_no_difference
