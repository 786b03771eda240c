use Rattle.std.proofs.Common.{◌∷◌}
use Rattle.giop_sig.proofs.FrontLaws.{front_put}
use Rattle.giop_sig.proofs.fronts.add_front.Goals as goal

pub returns-clause-added : goal.returns-clause-added
returns-clause-added c =
    front_put c.args.fronts.now.keys c.insert.new.self.keys c.front_of.result
    (c.args.kind ∷ c.args.octets.now) c.front_of.ensures c.in_ok-insert.ensures.keys
