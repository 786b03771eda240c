use Rattle.std.proofs.Common.{arith}
use Rattle.giop_decode.proofs.NextParts.{place_next}
use Rattle.giop_decode.proofs.decoder.Decoder.next_primitive.Goals as goal

pub part-next-requires-clause-index : goal.part-next-requires-clause-index
part-next-requires-clause-index c =
    let h = c.requires.ahead in
    place_next c.args.catalogue.now c.args.self.now c.args.part.of c.args.part.frame c.requires.fits
    h.leaf h.outside h.outer 24
    (omega (arith, c.if-frame-saturating_sub.false, c.saturating_sub.ensures))
