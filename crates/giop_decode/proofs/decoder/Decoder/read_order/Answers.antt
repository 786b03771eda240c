use Rattle.std.proofs.Common.{◌-◌, length}
use Rattle.giop_decode.proofs.Rooms.{held_in_room}
use Rattle.giop_decode.specs.declared.leaf.Leaf.TheVariants as innermost
use Rattle.giop_decode.proofs.Advancing.{stands_at}
use Rattle.giop_decode.proofs.Whole.{comes_order}
use Rattle.giop_decode.proofs.decoder.Decoder.read_order.Goals as goal

pub order_step-step-requires-clause-kind : goal.order_step-step-requires-clause-kind
order_step-step-requires-clause-kind g c =
    held_in_room c.args.catalogue.now (24 - length c.args.self.now.outer.items) 24 c.args.of.0
    (stands_at c.args.catalogue.now c.args.self.now c.requires.fits
    (innermost.Opening c.args.of c.args.count)
    c.requires.leaf).fits.kind

pub order_step-step-requires-clause-fit : goal.order_step-step-requires-clause-fit
order_step-step-requires-clause-fit g c = (
  _,
  _,
  (stands_at c.args.catalogue.now c.args.self.now c.requires.fits
      (innermost.Opening c.args.of c.args.count)
      c.requires.leaf).fit,
)

pub complete_unit-requires-clause-ahead : goal.complete_unit-requires-clause-ahead
complete_unit-requires-clause-ahead g c =
    let v = c.order_step-step.ensures in
    let a = c.lookahead_of.ensures in
    rw (a.of, a.count, a.step, a.rest) (comes_order c.args.catalogue.now c.args.self.now
    c.args.of c.args.count c.args.octets.now c.order_step-step.result c.requires.fits
    c.requires.leaf c.requires.some v.fits v.transitions)
