use Rattle.std.proofs.Common.{◌<◌, refl}
use Rattle.std.proofs.lemmas.List.Elements.{All-nil}
use Rattle.giop_message.specs.Signatures.{by_list}
use Rattle.giop_stream.specs.Rules.{rules}
use Rattle.giop_stream.proofs.CodeSteps.EngineLaws.{start_is}
use Rattle.giop_stream.proofs.engine.Engine.new.Goals as goal

pub invariant_of-result : goal.invariant_of-result
invariant_of-result c = (c.requires.of, c.in-Ok.ensures.ready c.args.catalogue.now)

pub returns-clause-holds : goal.returns-clause-holds
returns-clause-holds c =
    let C = c.args.catalogue.now in
    let l = c.args.requests.now in
    record {
      sound = refl;
      octets = All-nil (λ x. x < 256);
      shows =
          rw (start_is (rules C l c.in-Ok.framing.slots.slots.most))
          (c.in-Ok.ensures.shows C (by_list l) c.in-Ok.framing.slots.slots.most
          c.joins_1_1.ensures);
    }
