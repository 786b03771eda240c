-- Copying the payloads without holes: each keeps its octets.
use Rattle.std.proofs.Common.{◌≡◌, ℕ, zero, suc, ◌+◌, ◌-◌, ◌*◌, ◌<◌, ◌≤◌, List, [], ◌∷◌, ◌++◌, length, take, drop, get_or, set, refl, ap, sym, ◌∙◌, subst, arith, length-append, append_assoc, append-nil, add-zero, add-one}
use Rattle.std.proofs.lemmas.List.{take_more, length-take, length-drop, get_or-append_right, get_or-drop}
use Rattle.std.proofs.lemmas.List.Elements.{All-from_recursion, recursion_from_All, All-take}
use Rattle.std.proofs.Math.Seq.{take-append_seam, drop-append_seam, drop-cons, set-append_seam, take-length, drop-length}
use Rattle.tcp_waiting.specs.declared.pool.Waiting.{Waiting}
use Rattle.tcp_waiting.specs.Payload.{Payload, blocks_of}
use Rattle.tcp_waiting.specs.Layout.{octets_at, held_in, AreWithin, AreSmall, packed, placed_from, total_octets}
use Rattle.tcp_waiting.proofs.Held.{length_octets, within_more}
use Rattle.tcp_waiting.proofs.Queries.{here}

length_packed : (all : List ℕ) (ws : List Waiting) → AreWithin (length all) ws →
    length (packed all ws) ≡ total_octets ws
unfolding packed total_octets
length_packed all [] h = refl
length_packed all (w ∷ ws) h =
    length-append (octets_at all w.from w.count) (packed all ws)
    ∙ rw (length_octets all w.from w.count h.0, length_packed all ws h.1) refl

packed_more : (all : List ℕ) (ws : List Waiting) (w : Waiting) →
    packed all (ws ++ w ∷ []) ≡ packed all ws ++ octets_at all w.from w.count
unfolding packed
packed_more all [] w = append-nil (octets_at all w.from w.count)
packed_more all (v ∷ ws) w =
    ap (λ (r : List ℕ). octets_at all v.from v.count ++ r) (packed_more all ws w)
    ∙ sym (append_assoc (octets_at all v.from v.count) (packed all ws)
    (octets_at all w.from w.count))

moved_more : (to : ℕ) (ws : List Waiting) (w : Waiting) →
    placed_from to (ws ++ w ∷ []) ≡ placed_from to ws
    ++ record w { from = to + total_octets ws } ∷ []
unfolding placed_from total_octets
moved_more to [] w = rw add-zero refl
moved_more to (v ∷ ws) w =
    let e : to + (v.count + total_octets ws) ≡ to + v.count + total_octets ws = omega arith in
    rw (e, moved_more (to + v.count) ws w) refl

length_moved : (to : ℕ) (ws : List Waiting) → length (placed_from to ws) ≡ length ws
unfolding placed_from
length_moved to [] = refl
length_moved to (w ∷ ws) = ap suc (length_moved (to + w.count) ws)

-- the payloads are the same after the copy
held_moved : (c all : List ℕ) (ws : List Waiting) → AreWithin (length all) ws →
    held_in (c ++ packed all ws) (placed_from (length c) ws) ≡ held_in all ws
unfolding packed placed_from
held_moved c all [] h = refl
held_moved c all (w ∷ ws) h =
    let octets : List ℕ = octets_at all w.from w.count in
    let rest : List ℕ = packed all ws in
    let e : length octets ≡ w.count = length_octets all w.from w.count h.0 in
    let here : take w.count (drop (length c) (c ++ (octets ++ rest))) ≡ octets =
    rw (drop-append_seam c (octets ++ rest))
    (subst (λ (k : ℕ). take k (octets ++ rest) ≡ octets) e (take-append_seam octets rest)) in
    let l : length (c ++ octets) ≡ length c + w.count =
    length-append c octets ∙ ap (λ (k : ℕ). length c + k) e in
    let others : held_in (c ++ (octets ++ rest)) (placed_from (length c + w.count) ws)
    ≡ held_in all ws =
    subst (λ (xs : List ℕ). held_in xs (placed_from (length c + w.count) ws) ≡ held_in all ws)
    (append_assoc c octets rest)
    (subst (λ (k : ℕ). held_in ((c ++ octets) ++ rest) (placed_from k ws) ≡ held_in all ws) l
    (held_moved (c ++ octets) all ws h.1)) in
    rw (here, others) refl

within_moved : (to : ℕ) (ws : List Waiting) → AreWithin (to + total_octets ws) (placed_from to ws)
unfolding placed_from total_octets
within_moved to [] = tt
within_moved to (w ∷ ws) = (
  omega arith,
  within_more (to + w.count + total_octets ws) (to + (w.count + total_octets ws))
      (placed_from (to + w.count) ws)
      (omega arith) (within_moved (to + w.count) ws),
)

-- the octets fit into the blocks
pub counts_blocks : (all : List ℕ) (ws : List Waiting) → AreWithin (length all) ws →
    total_octets ws ≤ 1024 * blocks_of (held_in all ws)
unfolding total_octets blocks_of
counts_blocks all [] h = omega arith
counts_blocks all (w ∷ ws) h =
    rw (length_octets all w.from w.count h.0) (omega (arith, counts_blocks all ws h.1))

-- each payload takes at least one block
pub length_blocks : (ps : List Payload) → AreSmall ps → length ps ≤ blocks_of ps
unfolding blocks_of
length_blocks [] h = omega arith
length_blocks (p ∷ ps) h = omega (arith, length_blocks ps h.1)

-- the loop: `k` payloads were copied
pub record IsPacking (all : List ℕ) (waitings : List Waiting) (copied : ℕ) (now : List ℕ)
    (places : List Waiting) : Type 0 where
  pub some : copied ≤ length waitings
  pub octets : now ≡ packed all (take copied waitings)
  pub moves : places ≡ placed_from 0 (take copied waitings) ++ drop copied waitings

within_take : (top k : ℕ) (ws : List Waiting) → AreWithin top ws → AreWithin top (take k ws)
within_take top k ws h =
    let P = λ (w : Waiting). w.from + w.count ≤ top in
    recursion_from_All P (take k ws) (All-take P k ws (All-from_recursion P ws h))

-- one more payload fits too
pub counts_take : (k : ℕ) (ws : List Waiting) (w : Waiting) → k < length ws →
    w ≡ get_or ws k w → total_octets (take k ws) + w.count ≤ total_octets ws
unfolding total_octets
counts_take k [] w h is = absurd (omega arith)
counts_take zero (v ∷ ws) w h is = omega (arith, ap (λ (u : Waiting). u.count) is)
counts_take (suc k) (v ∷ ws) w h is = omega (arith, counts_take k ws w (omega arith) is)

pub length_copied : (all : List ℕ) (ws : List Waiting) (k : ℕ) (now : List ℕ)
    (places : List Waiting) → AreWithin (length all) ws → IsPacking all ws k now places
    → length now ≡ total_octets (take k ws)
length_copied all ws k now places h p =
    ap length p.octets ∙ length_packed all (take k ws) (within_take (length all) k ws h)

pub length_places : (all : List ℕ) (ws : List Waiting) (k : ℕ) (now : List ℕ)
    (places : List Waiting) → IsPacking all ws k now places → length places ≡ length ws
length_places all ws k now places p =
    ap length p.moves ∙ length-append (placed_from 0 (take k ws)) (drop k ws)
    ∙ rw (length_moved 0 (take k ws)) (simp (length-take, length-drop) (omega arith))

-- the next payload in the loop is unchanged
pub next_of : (all : List ℕ) (ws : List Waiting) (k : ℕ) (now : List ℕ) (places : List Waiting) →
    IsPacking all ws k now places → k < length ws → (w : Waiting) → w ≡ get_or places k w
    → w ≡ get_or ws k w
next_of all ws k now places p h w is =
    let l : length (placed_from 0 (take k ws)) ≡ k =
    length_moved 0 (take k ws) ∙ simp length-take (omega arith) in
    is ∙ rw p.moves (get_or-append_right (placed_from 0 (take k ws)) (drop k ws) k k w l
    (omega arith)
    ∙ get_or-drop k ws (k - k) w ∙ (let e : k + (k - k) ≡ k = omega arith in rw e refl))

pub next_ends : (all : List ℕ) (ws : List Waiting) (k : ℕ) (now : List ℕ) (places : List Waiting) →
    IsPacking all ws k now places → AreWithin (length all) ws → k < length places →
    (w : Waiting) → w ≡ get_or places k w → w.from + w.count ≤ length all
next_ends all ws k now places p within h w is =
    let l : k < length ws = omega (arith, length_places all ws k now places p) in
    (here all ws k w within l (next_of all ws k now places p l w is)).ends

pub pack_step : (all : List ℕ) (ws : List Waiting) (k : ℕ) (now : List ℕ)
    (places : List Waiting) → AreWithin (length all) ws → IsPacking all ws k now places →
    k < length ws → (w : Waiting) → w ≡ get_or places k w
    → IsPacking all ws (k + 1) (now ++ octets_at all w.from w.count)
    (set places k (record w { from = length now }))
pack_step all ws k now places within p h w is =
    let same : w ≡ get_or ws k w = next_of all ws k now places p h w is in
    let behind : drop k ws ≡ w ∷ drop (k + 1) ws =
    rw add-one (drop-cons ws k w h ∙ ap (λ (v : Waiting). v ∷ drop (suc k) ws) (sym same)) in
    let more : take (k + 1) ws ≡ take k ws ++ w ∷ [] =
    take_more ws k w h ∙ ap (λ (v : Waiting). take k ws ++ v ∷ []) (sym same) in
    let l : length (placed_from 0 (take k ws)) ≡ k =
    length_moved 0 (take k ws) ∙ simp length-take (omega arith) in
    let f : 0 + total_octets (take k ws) ≡ length now =
    omega (arith, length_copied all ws k now places within p) in
    let xs : List Waiting = placed_from 0 (take k ws) in
    let v : Waiting = record w { from = length now } in
    let rhs : placed_from 0 (take (k + 1) ws) ++ drop (k + 1) ws ≡ xs ++ v ∷ drop (k + 1) ws =
    rw (more, moved_more 0 (take k ws) w, f) (append_assoc xs (v ∷ []) (drop (k + 1) ws)) in
    let lhs : set places k v ≡ xs ++ v ∷ drop (k + 1) ws =
    rw (p.moves, behind) (subst (λ (j : ℕ). set (xs ++ w ∷ drop (k + 1) ws) j v ≡ xs
    ++ v ∷ drop (k + 1) ws) l (set-append_seam xs w (drop (k + 1) ws) v)) in
    record {
      some = omega arith;
      octets = rw (p.octets, more) (sym (packed_more all (take k ws) w));
      moves = lhs ∙ sym rhs;
    }

pub pack_start : (all : List ℕ) (ws : List Waiting) (now : List ℕ) → now ≡ [] →
    IsPacking all ws 0 now ws
unfolding packed placed_from
pack_start all ws now e = record { some = omega arith; octets = e; moves = refl }

-- all payloads were copied
pub record IsPacked (all : List ℕ) (waitings : List Waiting) (now : List ℕ) (places : List Waiting)
    : Type 0 where
  pub held : held_in now places ≡ held_in all waitings
  pub within : AreWithin (length now) places
  pub fits : length now ≡ total_octets waitings

pub pack_end : (all : List ℕ) (ws : List Waiting) (k : ℕ) (now : List ℕ)
    (places : List Waiting) → AreWithin (length all) ws → IsPacking all ws k now places →
    length ws ≤ k → IsPacked all ws now places
pack_end all ws k now places within p h =
    let e : length ws ≡ k = omega arith in
    let t : take k ws ≡ ws = subst (λ (j : ℕ). take j ws ≡ ws) e (take-length ws) in
    let d : drop k ws ≡ [] = subst (λ (j : ℕ). drop j ws ≡ []) e (drop-length ws) in
    let moves : places ≡ placed_from 0 ws = p.moves ∙ rw (t, d) (append-nil (placed_from 0 ws)) in
    let octets : now ≡ packed all ws = p.octets ∙ ap (packed all) t in
    let fits : length now ≡ total_octets ws = ap length octets ∙ length_packed all ws within in
    record {
      held = rw (octets, moves) (held_moved [] all ws within);
      within = rw moves (within_more (0 + total_octets ws) (length now) (placed_from 0 ws)
          (omega arith) (within_moved 0 ws));
      fits = fits;
    }
