use Rattle.std.proofs.Common.{[], length}
use Rattle.giop_decode.proofs.Whole.{held_now, part_waits}
use Rattle.giop_decode.proofs.decoder.Decoder.gather_piece_apart.Goals as goal

pub complete_held_unit-requires : goal.complete_held_unit-requires
complete_held_unit-requires g c =
    let C = c.args.catalogue.now in
    let d = c.args.self.now in
    let octets = c.args.octets.now in
    let e = c.held_ahead.ensures in (
      d,
      rw (e.of, e.count, e.step, e.rest) (held_now C d octets c.of.result (length octets) _ []
          d.carry c.try_extend_from_slice.new.self c.requires.fits
          (rw c.in-Ok.ensures.ok (part_waits C d octets c.args.leaf c.of.result c.of.ensures
          c.requires.fits c.requires.leaf c.requires.some c.requires.ahead c.requires.parted))),
    )

pub returns : goal.returns
returns g c =
    let C = c.args.catalogue.now in
    let d = c.args.self.now in
    let octets = c.args.octets.now in
    let e = c.held_ahead.ensures in
    c.complete_held_unit.ensures d (rw (e.of, e.count, e.step, e.rest)
    (held_now C d octets c.of.result
    (length octets) _ [] d.carry c.try_extend_from_slice.new.self c.requires.fits
    (rw c.in-Ok.ensures.ok (part_waits C d octets c.args.leaf c.of.result c.of.ensures
    c.requires.fits c.requires.leaf c.requires.some c.requires.ahead c.requires.parted))))
