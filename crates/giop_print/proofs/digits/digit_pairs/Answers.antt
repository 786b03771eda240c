use Rattle.std.proofs.Common.{Fits, w8, ◌<◌, map, take, drop, ap, sym, ◌∙◌, subst, arith, length-drop}
use Rattle.std.proofs.lemmas.Simd.{Each1-chunk}
use Rattle.std.proofs.lemmas.List.{take_all}
use lib.Lanes.{Each1}
use Rattle.giop_print.specs.Text.{hex_digit}
use Rattle.giop_print.proofs.DigitLanes.{halves_below, halves_spelled, first_halves, other_halves}
use Rattle.giop_print.proofs.digits.digit_pairs.Goals as goal

pub hex_digits-requires : goal.hex_digits-requires
hex_digits-requires c =
    let v = c.args.octets in
    subst (λ xs. Each1 (λ half. half < 16) xs) (sym (first_halves v c.fits-octets.0))
    (halves_below (take 8 v) (Each1-chunk (Fits w8) 0 8 v c.fits-octets.1))

pub hex_digits-requires-2 : goal.hex_digits-requires-2
hex_digits-requires-2 c =
    let v = c.args.octets in
    let all = take_all 8 (drop 8 v) (omega (arith, length-drop 8 v, c.fits-octets.0)) in
    subst (λ xs. Each1 (λ half. half < 16) xs) (sym (other_halves v c.fits-octets.0))
    (halves_below (drop 8 v)
    (subst (Each1 (Fits w8)) all (Each1-chunk (Fits w8) 8 8 v c.fits-octets.1)))

pub returns-clause-first : goal.returns-clause-first
returns-clause-first c =
    let v = c.args.octets in
    c.hex_digits.ensures ∙ (ap (map hex_digit) (first_halves v c.fits-octets.0)
    ∙ halves_spelled (take 8 v))

pub returns-clause-others : goal.returns-clause-others
returns-clause-others c =
    let v = c.args.octets in
    c.hex_digits-2.ensures ∙ (ap (map hex_digit) (other_halves v c.fits-octets.0)
    ∙ halves_spelled (drop 8 v))
