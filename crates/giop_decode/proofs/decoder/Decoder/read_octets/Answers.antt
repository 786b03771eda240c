use Rattle.giop_decode.proofs.FirstTaken.{none_taken, so_far, takes_so_far, then_broken, then_some}
use Rattle.giop_decode.proofs.decoder.Decoder.read_octets.Goals as goal
use Rattle.giop_print.proofs.Writing.{rest_from}

pub loop-taken-init : goal.loop-taken-init
loop-taken-init g c = none_taken c.args.catalogue.now c.args.self.now c.args.octets.now _ c.requires

pub returns-in_err-count-clause-writes : goal.returns-in_err-count-clause-writes
returns-in_err-count-clause-writes g c =
    (then_broken c.args.catalogue.now c.args.self.now c.loop-taken.self c.args.octets.now
    c.loop-taken.taken _ _ c.loop-taken.invariant
    c.take_some.new.self _ c.from_residual.result _ c.from_residual.ensures.0
    (rw (rest_from c.loop-taken.taken c.args.octets.now) at c.in_err-count.ensures)).writes

pub returns-in_default-clause-writes : goal.returns-in_default-clause-writes
returns-in_default-clause-writes g c =
    (then_some c.args.catalogue.now c.args.self.now c.loop-taken.self c.args.octets.now
    c.loop-taken.taken _ _ c.loop-taken.invariant
    c.take_some.new.self _ c.in_ok-count.count c.in_ok-count.progress
    (rw (rest_from c.loop-taken.taken c.args.octets.now) at c.in_ok-count.ensures)).writes

pub returns-in_default-clause-takes : goal.returns-in_default-clause-takes
returns-in_default-clause-takes g c =
    (then_some c.args.catalogue.now c.args.self.now c.loop-taken.self c.args.octets.now
    c.loop-taken.taken _ _ c.loop-taken.invariant
    c.take_some.new.self _ c.in_ok-count.count c.in_ok-count.progress
    (rw (rest_from c.loop-taken.taken c.args.octets.now) at c.in_ok-count.ensures)).takes

pub loop-taken-preserved : goal.loop-taken-preserved
loop-taken-preserved g c =
    so_far c.args.catalogue.now c.args.self.now c.take_some.new.self c.args.octets.now
    _ c.in_ok-count.progress _ _ c.in-More.is
    (then_some c.args.catalogue.now c.args.self.now c.loop-taken.self c.args.octets.now
    c.loop-taken.taken _ _ c.loop-taken.invariant
    c.take_some.new.self _ c.in_ok-count.count c.in_ok-count.progress
    (rw (rest_from c.loop-taken.taken c.args.octets.now) at c.in_ok-count.ensures))

pub returns-clause-takes : goal.returns-clause-takes
returns-clause-takes g c =
    takes_so_far c.args.catalogue.now c.args.self.now c.loop-taken.self c.args.octets.now
    c.loop-taken.taken _ _ c.loop-taken.invariant
