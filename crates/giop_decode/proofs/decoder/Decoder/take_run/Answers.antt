use Rattle.giop_decode.proofs.Versions.{run_fits, run_keeps, run_own}
use Rattle.giop_decode.proofs.decoder.Decoder.take_run.Goals as goal

pub read_octets-requires : goal.read_octets-requires
read_octets-requires g c = rw c.seen.ensures.is c.requires

pub returns-clause-writes : goal.returns-clause-writes
returns-clause-writes g c T coding at message root s r =
    c.read_octets.ensures.writes T coding at message root s (rw c.seen.ensures.is r)

pub returns-clause-takes : goal.returns-clause-takes
returns-clause-takes g c =
    run_own c.args.catalogue.now c.args.self.now c.read_octets.new.self c.args.octets.now
    c.read_octets.result (rw c.seen.ensures.is at c.read_octets.ensures.takes)

pub returns-clause-fits : goal.returns-clause-fits
returns-clause-fits g c =
    run_fits c.args.catalogue.now c.args.self.now c.read_octets.new.self c.args.octets.now
    c.read_octets.result (rw c.seen.ensures.is at c.read_octets.ensures.fits)

pub returns-clause-version : goal.returns-clause-version
returns-clause-version g c =
    run_keeps c.args.catalogue.now c.args.self.now c.read_octets.new.self c.args.octets.now
    c.read_octets.result (rw c.seen.ensures.is at c.read_octets.ensures.fits)
