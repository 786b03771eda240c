use Rattle.giop_decode.proofs.FirstTaken.{near_some}
use Rattle.giop_decode.proofs.decoder.Decoder.take_one_unit.Goals as goal

pub take_unit_coded-requires-clause-some : goal.take_unit_coded-requires-clause-some
take_unit_coded-requires-clause-some g c = c.octets_to_end-near.ensures.some c.requires.some

pub returns : goal.returns
returns g c =
    near_some c.take_unit_coded.result c.args.catalogue.now c.args.self.now
    c.take_unit_coded.new.self c.octets_to_end-near.result.now c.args.octets.now _ _
    c.octets_to_end-near.ensures.head c.take_unit_coded.ensures
