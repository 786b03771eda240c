use Rattle.std.proofs.Common.{◌≡◌, [], length, take, drop, arith, length-drop, length-append, ap, min, refl, inl, inr}
use Rattle.std.proofs.lemmas.List.{length-take-le}
use Rattle.std.proofs.lemmas.Bool.{cases_lt, false≢true}
use Rattle.giop_print.proofs.Writing.{rest_from}
use Rattle.giop_cdr.specs.Alignment.{padding}
use Rattle.giop_decode.proofs.Padding.{first_stand, more_stand}
use Rattle.giop_decode.proofs.leading_numbers.hold_number.Goals as goal

pub returns-then-not-is_empty-clause-size : goal.returns-then-not-is_empty-clause-size
returns-then-not-is_empty-clause-size c =
    let n = c.hold_octets.result in
    let size = length-take-le n c.args.octets.now c.hold_octets.ensures.within in
    let all = length-append c.args.carry.now (take n c.args.octets.now) in
    rw c.hold_octets.ensures.held (omega (arith, size, all, c.hold_octets.ensures.room))

pub returns-then-not-is_empty-clause-stands : goal.returns-then-not-is_empty-clause-stands
returns-then-not-is_empty-clause-stands c =
    let e = c.hold_octets.ensures in
    rw e.held (more_stand c.args.width c.args.at c.hold_octets.result c.args.octets.now
    c.requires.width c.args.carry.now (λ none. false≢true (c.if-not-is_empty.ensures.1 none))
    (e.some c.requires.some) e.within e.room)

pub returns-clause-size : goal.returns-clause-size
returns-clause-size c =
    let p = c.min-padding.result in
    let n = c.hold_octets-2.result in
    let octets = c.args.octets.now in
    let none : c.args.carry.now ≡ [] = c.if-not-is_empty.ensures.0 refl in
    let within = rw (rest_from p octets) at c.hold_octets-2.ensures.within in
    let size = length-take-le n (drop p octets) within in
    let held = rw (rest_from p octets, none) at c.hold_octets-2.ensures.held in
    rw held (omega (arith, size, c.hold_octets-2.ensures.room, ap length none))

pub returns-clause-stands : goal.returns-clause-stands
returns-clause-stands c =
    let p = c.min-padding.result in
    let n = c.hold_octets-2.result in
    let octets = c.args.octets.now in
    let none : c.args.carry.now ≡ [] = c.if-not-is_empty.ensures.0 refl in
    let within = rw (rest_from p octets) at c.hold_octets-2.ensures.within in
    let some = rw (rest_from p octets) at c.hold_octets-2.ensures.some in
    let held = rw (rest_from p octets, none) at c.hold_octets-2.ensures.held in
    let l = length-drop p octets in
    let few : p ≡ min (padding c.args.at c.args.width) (length octets) =
    omega (arith, c.min-padding.ensures, c.from.ensures, c.padding_at.ensures) in
    rw (held, none) (first_stand c.args.width c.args.at n octets c.requires.width p
    c.requires.small (omega (arith, few)) (λ more. omega (arith, few, within, l, more))
    (elim (cases_lt 0 (length (drop p octets))) [
      | inl h ↦ omega (arith, some h)
      | inr h ↦ omega (arith, few, l, h, c.requires.some)
    ])
    (omega (arith, few, within, l)) (omega (arith, c.hold_octets-2.ensures.room, ap length none)))
