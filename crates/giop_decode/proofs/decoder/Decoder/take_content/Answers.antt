use Rattle.std.proofs.Common.{◌≡◌, ◌+◌, ◌-◌, length, Some, refl, ◌∙◌, ap, arith}
use Rattle.giop_decode.proofs.Whole.{comes_full, comes_last, comes_unended}
use Rattle.giop_decode.proofs.decoder.Decoder.take_content.Goals.{else-behind-gt0-via-then-behind-gt0+else-octets-size-ne0, else-behind-gt0-via-else-behind-gt0}
use Rattle.giop_decode.proofs.decoder.Decoder.take_content.Goals as goal

pub complete_unit-requires-clause-ahead : goal.complete_unit-requires-clause-ahead
complete_unit-requires-clause-ahead g c =
    let a = c.lookahead_of-ahead.ensures in
    let left = c.saturating_sub-left.ensures in
    let large = c.if-left-gt32.true in
    let size = c.saturating_sub-size.result in
    let none = c.octets_after_piece-behind.ensures.full (omega (arith, large)) in
    let counted : c.lookahead_of-ahead.result.count ≡ size = omega (arith, a.count, none) in
    rw (a.of, counted, a.step, a.rest) (comes_full c.args.catalogue.now c.args.self.now
    c.in-Content.of c.in-Content.total c.in-Content.offset c.args.octets.now size c.requires.fits
    (c.requires.leaf ∙ ap Some c.in-Content.is) c.requires.ahead (omega (arith, left, large))
    (omega (arith, large, c.saturating_sub-size.ensures, c.min.ensures, c.len.ensures.value))
    (omega (arith, c.if-octets-size.false)))

pub complete_unit-requires-then-octets-size-ne0-clause-ahead :
    goal.complete_unit-requires-then-octets-size-ne0-clause-ahead
complete_unit-requires-then-octets-size-ne0-clause-ahead g c =
    let a = c.lookahead_of-ahead-then-octets-size-ne0.ensures in
    let left = c.saturating_sub-left.ensures in
    let small = c.if-left-gt32.false in
    let size = c.saturating_sub-size.result in
    let behind = c.octets_after_piece-behind.result in
    rw (a.of, a.count, a.step, a.rest) (comes_unended c.args.catalogue.now c.args.self.now
    c.in-Content.of c.in-Content.total c.in-Content.offset c.args.octets.now (size + behind)
    c.requires.fits (c.requires.leaf ∙ ap Some c.in-Content.is) c.requires.ahead size behind
    c.refused_step.result c.refused_step.ensures.transition c.refused_step.ensures.output
    (c.octets_after_piece-behind.ensures.last (24 - length c.args.self.now.outer.items) (omega (
      arith,
      small,
    ))) (omega (arith, left, small))
    (omega (arith, small, left, c.saturating_sub-size.ensures, c.min.ensures, c.len.ensures.value))
    refl (omega (arith, c.if-octets-size.false)) (omega (arith, c.if-behind-gt0.true))
    c.if-octets-size-ne0.true)

pub complete_unit-requires-2-clause-ahead : goal.complete_unit-requires-2-clause-ahead
complete_unit-requires-2-clause-ahead g c =
    let a = c.lookahead_of.ensures in
    let left = c.saturating_sub-left.ensures in
    let small = c.if-left-gt32.false in
    let size = c.saturating_sub-size.result in
    let behind = c.octets_after_piece-behind.result in
    rw (a.of, a.count, a.step, c.ended_step-step.ensures, a.rest) (comes_last c.args.catalogue.now
    c.args.self.now c.in-Content.of c.in-Content.total c.in-Content.offset c.args.octets.now
    (size + behind) c.requires.fits (c.requires.leaf ∙ ap Some c.in-Content.is) c.requires.ahead
    size behind (c.octets_after_piece-behind.ensures.last (24 - length c.args.self.now.outer.items)
    (omega (arith, small)))
    (omega (arith, left, small))
    (omega (arith, small, left, c.saturating_sub-size.ensures, c.min.ensures, c.len.ensures.value))
    refl (omega (arith, c.if-octets-size.false))
    (λ some. elim c.else-behind-gt0.branch [
      | else-behind-gt0-via-then-behind-gt0+else-octets-size-ne0 w ↦ w.if-octets-size-ne0.false
      | else-behind-gt0-via-else-behind-gt0 w ↦ absurd (omega (arith, some, w.if-behind-gt0.false))
    ]))
