use Rattle.giop_decode.proofs.Counting.{coding_small}
use Rattle.giop_decode.proofs.decoder.Decoder.take_unit_coded.Goals as goal

pub take_number-requires-clause-small : goal.take_number-requires-clause-small
take_number-requires-clause-small g c =
    let d = c.args.self.now in
    rw c.requires.coded at (coding_small d.order d.at d.outer.items c.requires.fits.at)
