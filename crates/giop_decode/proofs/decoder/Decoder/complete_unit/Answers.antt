use Rattle.giop_decode.proofs.Whole.{held_now}
use Rattle.giop_decode.proofs.decoder.Decoder.complete_unit.Goals as goal

pub complete_held_unit-requires : goal.complete_held_unit-requires
complete_held_unit-requires g c =
    let a = c.args.ahead in (
      c.args.self.now,
      held_now c.args.catalogue.now c.args.self.now c.args.octets.now a.of a.count a.step a.rest.now
          c.args.self.now.carry c.args.self.now.piece c.requires.fits c.requires.ahead,
    )

pub returns : goal.returns
returns g c =
    let a = c.args.ahead in
    c.complete_held_unit.ensures c.args.self.now
    (held_now c.args.catalogue.now c.args.self.now c.args.octets.now a.of a.count a.step a.rest.now
    c.args.self.now.carry c.args.self.now.piece c.requires.fits c.requires.ahead)
