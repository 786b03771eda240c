use Rattle.std.proofs.Common.{◌≡◌, ◌-◌, ◌++◌, length, take, drop, sym, ap, ◌∙◌, arith, length-drop, length-take-le, take-take, take-append-drop}
use Rattle.std.proofs.lemmas.List.{take_all}
use Rattle.std.proofs.lemmas.Simd.{take_more_put_chunk, length-put_chunk}
use lib.Lanes.{chunk, put_chunk}
use Rattle.giop_run.proofs.buffer.copy_first_and_last.Goals as goal

pub returns-clause-head : goal.returns-clause-head
returns-clause-head g c =
    let half = g.row.N in
    let octets = c.args.octets.now in
    let size = length octets in
    let last = size - half in
    let first = put_chunk 0 c.args.room.now (chunk 0 half octets) in
    let front : length (take half octets) ≡ half = length-take-le half octets c.requires.within.0 in
    let behind : length (drop last octets) ≡ half =
    omega (arith, length-drop last octets, c.requires.within.0) in
    let all : take half (drop last octets) ≡ drop last octets =
    take_all half (drop last octets) (omega (arith, behind)) in
    let kept : take last first ≡ take last octets =
    sym (take-take last half first (omega (arith, c.requires.within.1)))
    ∙ ap (take last) (take_more_put_chunk 0 c.args.room.now (take half octets) half
    (omega (arith, front)) (omega (arith, c.requires.fits, c.requires.within.0)))
    ∙ take-take last half octets (omega (arith, c.requires.within.1)) in
    take_more_put_chunk last first (take half (drop last octets)) size
    (omega (arith, ap length all, behind, c.requires.within.0))
    (omega (arith, length-put_chunk 0 c.args.room.now (take half octets), c.requires.fits))
    ∙ ap (λ xs. xs ++ take half (drop last octets)) kept
    ∙ ap (λ ys. take last octets ++ ys) all
    ∙ take-append-drop last octets
