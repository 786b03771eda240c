-- A block of octets that is copied before a line, the last octets of a line, and the two blocks of
-- a head.
use Rattle.std.proofs.Common.{◌≡◌, ℕ, ◌+◌, ◌-◌, ◌≤◌, ◌<◌, List, [], ◌∷◌, ◌++◌, length, take, drop, sym, ap, ◌∙◌, arith, append_assoc, append-nil, length-take, length-drop, refl}
use Rattle.std.proofs.Math.Seq.{drop-append-add}
use Rattle.std.proofs.lemmas.List.{drop_all, drop-drop, drop-append-le, drop-set, take-append-drop, take_all}
use Rattle.std.proofs.lemmas.Simd.{put_chunk_is}
use borrow.Rule.Slice.PartMut.{put_mid, mid_of}
use lib.Lanes.{put_chunk}
use lib.ListN.{set}

-- all octets of an array from index `a` on
all_from : (octets : List ℕ) (a : ℕ) → a ≤ 256 → length octets ≡ 256 →
    mid_of a (256 - a) octets ≡ drop a octets
all_from octets a within size =
    take_all (256 - a) (drop a octets) (omega (arith, length-drop a octets, size))

pub last_from : (octets : List ℕ) (at : ℕ) → 192 ≤ at → length octets ≡ 256 →
    drop (at - 192) (mid_of 192 64 octets) ≡ drop at octets
last_from octets at within size =
    let at_last : 192 + (at - 192) ≡ at = omega (arith, within) in
    rw (all_from octets 192 (omega arith) size)
    (drop-drop (at - 192) 192 octets ∙ ap (λ n. drop n octets) at_last)

pub last_behind : (octets : List ℕ) (at : ℕ) → at ≤ 192 → length octets ≡ 256 →
    mid_of 192 64 octets ≡ drop (192 - at) (drop at octets)
last_behind octets at within size =
    let at_last : at + (192 - at) ≡ 192 = omega (arith, within) in
    all_from octets 192 (omega arith) size
    ∙ sym (drop-drop (192 - at) at octets ∙ ap (λ n. drop n octets) at_last)

-- the array after a block was copied into it, up to the end of the block
placed : (octets block : List ℕ) (a : ℕ) → length octets ≡ 256 → length block ≡ 16 → a ≤ 240 →
    put_mid a (256 - a) octets (put_chunk 0 (mid_of a (256 - a) octets) block)
    ≡ take a octets ++ (block ++ drop (a + 16) octets)
placed octets block a size few within =
    let from : mid_of a (256 - a) octets ≡ drop a octets =
    all_from octets a (omega (arith, within)) size in
    let rest = length-drop a octets in
    let none : drop (256 - a) (drop a octets) ≡ [] =
    drop_all (256 - a) (drop a octets) (omega (arith, rest, size)) in
    let room : 0 + length block ≤ length (drop a octets) = omega (arith, few, rest, size, within) in
    rw (from, put_chunk_is 0 (drop a octets) block room, none, few, drop-drop 16 a octets)
    (ap (λ t. take a octets ++ t) (append-nil (block ++ drop (a + 16) octets)))

pub block_before : (octets block : List ℕ) (at count : ℕ) → length octets ≡ 256 →
    length block ≡ 16 → 16 ≤ at → at ≤ 256 → count ≤ 16 →
    drop (at - count) (put_mid (at - 16) (256 - (at - 16)) octets
    (put_chunk 0 (mid_of (at - 16) (256 - (at - 16)) octets) block))
    ≡ drop (16 - count) block ++ drop at octets
block_before octets block at count size few room within less =
    let before = take (at - 16) octets in
    let start : at - 16 + 16 ≡ at = omega (arith, room) in
    let from : at - count ≡ length before + (16 - count) =
    omega (arith, length-take (at - 16) octets, size, room, within, less) in
    rw (placed octets block (at - 16) size few (omega (arith, within)), start, from)
    (drop-append-add before (block ++ drop at octets) (16 - count)
    ∙ drop-append-le (16 - count) block (drop at octets) (omega (arith, few)))

-- ---- the two blocks of a head, whose text is at the end of the blocks

last_block : (octets : List ℕ) → mid_of 16 (length octets - 16) octets ≡ drop 16 octets
last_block octets =
    take_all (length octets - 16) (drop 16 octets) (omega (arith, length-drop 16 octets))

pub one_block : (octets rest : List ℕ) (count : ℕ) → count ≤ 16 →
    drop (16 - count) (mid_of 16 (length octets - 16) octets) ++ rest
    ≡ drop (32 - count) octets ++ rest
one_block octets rest count few =
    let from : 16 + (16 - count) ≡ 32 - count = omega (arith, few) in
    rw (last_block octets, drop-drop (16 - count) 16 octets, from) refl

pub two_blocks : (octets rest : List ℕ) (count : ℕ) → length octets ≡ 32 → 16 < count →
    drop (16 - (count - 16)) (take 16 octets) ++ (mid_of 16 (length octets - 16) octets ++ rest)
    ≡ drop (32 - count) octets ++ rest
two_blocks octets rest count size more =
    let front = drop (16 - (count - 16)) (take 16 octets) in
    let all : front ++ drop 16 octets ≡ drop (16 - (count - 16)) octets =
    sym (drop-append-le (16 - (count - 16)) (take 16 octets) (drop 16 octets)
    (omega (arith, length-take 16 octets, size, more)))
    ∙ ap (drop (16 - (count - 16))) (take-append-drop 16 octets) in
    let from : 16 - (count - 16) ≡ 32 - count = omega (arith, more) in
    rw (last_block octets)
    (sym (append_assoc front (drop 16 octets) rest)
    ∙ ap (λ t. t ++ rest) (all ∙ ap (λ n. drop n octets) from))

-- the last 32 of 64 octets have the same text at their end
pub last_half : (last text rest : List ℕ) (room : ℕ) → length last ≡ 64 → 256 - room ≤ 32 →
    room ≤ 256 → drop (room - 192) last ≡ text →
    drop (32 - (256 - room)) (mid_of 32 (length last - 32) last) ++ rest ≡ text ++ rest
last_half last text rest room size few most is =
    let from : 32 + (32 - (256 - room)) ≡ room - 192 = omega (arith, few, most) in
    let all : mid_of 32 (length last - 32) last ≡ drop 32 last =
    take_all (length last - 32) (drop 32 last) (omega (arith, length-drop 32 last)) in
    ap (λ t. t ++ rest) (rw (all, drop-drop (32 - (256 - room)) 32 last, from) is)

-- the length of a text that is the last `count` of 32 octets
pub text_size : (octets text : List ℕ) (count : ℕ) → length octets ≡ 32 → count ≤ 32 →
    drop (32 - count) octets ≡ text → length text ≡ count
text_size octets text count size few is =
    rw (← is) (omega (arith, length-drop (32 - count) octets, size, few))

-- the digits of a number come before a word, and a letter comes before the digits
pub head_spelled : (octets before number word : List ℕ) (at end : ℕ) → length octets ≡ 32 →
    1 ≤ at → at ≤ 32 → drop at octets ≡ number ++ drop end before → drop end before ≡ 32 ∷ word →
    drop (32 - (33 - at)) (set octets (at - 1) 109) ≡ 109 ∷ (number ++ 32 ∷ (word ++ []))
head_spelled octets before number word at end size some within digits is =
    let from : 32 - (33 - at) ≡ at - 1 = omega (arith, some, within) in
    let next : at - 1 + 1 ≡ at = omega (arith, some) in
    rw from
    (drop-set octets (at - 1) 109 (omega (arith, size, some, within))
    ∙ ap (λ t. 109 ∷ t) (ap (λ n. drop n octets) next ∙ (digits
    ∙ ap (λ t. number ++ t) (is ∙ ap (λ t. 32 ∷ t) (sym (append-nil word))))))
