-- The octets of a tag are the end of the array that it stands in.
use Rattle.std.proofs.Common.{◌≡◌, ℕ, ◌+◌, ◌-◌, ◌≤◌, List, length, drop, ap, ◌∙◌, arith, length-drop}
use Rattle.std.proofs.lemmas.List.{drop-drop, take_all}
use borrow.Rule.Slice.PartMut.{mid_of}

pub block_is : (octets : List ℕ) (at : ℕ) → length octets ≡ 32 → at ≤ 32 →
    length (drop at octets) ≤ 16 →
    drop (16 - length (drop at octets)) (mid_of 16 16 octets) ≡ drop at octets
block_is octets at room within short =
    let size = length-drop at octets in
    let last : mid_of 16 16 octets ≡ drop 16 octets =
    take_all 16 (drop 16 octets) (omega (arith, length-drop 16 octets, room)) in
    let from : 16 + (16 - length (drop at octets)) ≡ at =
    omega (arith, size, room, within, short) in
    rw last (drop-drop (16 - length (drop at octets)) 16 octets ∙ ap (λ n. drop n octets) from)
