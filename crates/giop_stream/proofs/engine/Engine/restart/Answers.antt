use Rattle.std.proofs.Common.{◌<◌, refl}
use Rattle.std.proofs.lemmas.List.Elements.{All-nil}
use Rattle.giop_stream.specs.Rules.{rules_by}
use Rattle.giop_stream.proofs.CodeSteps.EngineLaws.{start_is}
use Rattle.giop_stream.proofs.engine.Engine.restart.Goals as goal

pub invariant_of-self : goal.invariant_of-self
invariant_of-self c = (c.self.invariant.0, c.restart.ensures.ready c.self.inside.catalogue.now)

pub returns-clause-holds : goal.returns-clause-holds
returns-clause-holds c a =
    let C = c.self.inside.catalogue.now in
    record {
      sound = refl;
      octets = All-nil (λ x. x < 256);
      shows = rw (start_is (rules_by C a c.restart.new.self.slots.slots.most))
          (c.restart.ensures.shows C a c.restart.new.self.slots.slots.most c.joins_1_1.ensures);
    }
