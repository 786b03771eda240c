-- How many payloads and how many blocks a flow holds.
use Rattle.std.proofs.Common.{◌≡◌, ℕ, ◌+◌, ◌/◌, ◌<◌, ◌≤◌, false, cond, nat_eq, List, [], ◌∷◌, length, get_or, None, refl, subst, arith}
use Rattle.std.specs.List.{insert, remove, sum_by}
use Rattle.std.proofs.lemmas.List.Recursion.{is_sum_by}
use Rattle.std.proofs.lemmas.List.Sums.{sum_by-insert, sum_by-remove}
use Rattle.std.proofs.lemmas.Bool.{eq-eqb}
use Rattle.tcp_waiting.specs.declared.pool.Waiting.{Waiting}
use Rattle.tcp_waiting.specs.Layout.{payload_in, held_in, AreWithin, AreSmall}
use Rattle.tcp_waiting.proofs.Held.{length_held, get_held, remove_held}
use Rattle.tcp_waiting.proofs.Queries.{here}
use Rattle.tcp_waiting.specs.Payload.{Payload, count_of, load_of, blocks_of, oldest_index, holds_beyond_window, holds_as_long}

-- the blocks that a payload takes, if it is one of this flow
abbrev load_by : (id : ℕ) (p : Payload) → ℕ
load_by id p = cond (nat_eq p.flow id) ((length p.octets + 1023) / 1024) 0

load_is : (id : ℕ) (ps : List Payload) → load_of id ps ≡ sum_by (load_by id) ps
unfolding load_of
load_is id ps = is_sum_by (load_of id) (load_by id) refl (λ p ps. refl) ps

-- after one more payload waits: its flow has its blocks
pub load_insert : (id : ℕ) (ps : List Payload) (i : ℕ) (p : Payload) → load_of id (insert ps i p)
    ≡ load_of id ps + cond (nat_eq p.flow id) ((length p.octets + 1023) / 1024) 0
load_insert id ps i p = simp (load_is id) (sum_by-insert (load_by id) ps i p)

-- after a payload was removed: its flow has its blocks no more
pub load_remove : (id : ℕ) (ps : List Payload) (i : ℕ) (d : Payload) → i < length ps →
    load_of id (remove ps i)
    + cond (nat_eq (get_or ps i d).flow id) ((length (get_or ps i d).octets + 1023) / 1024) 0
    ≡ load_of id ps
load_remove id ps i d h = simp (load_is id) (sum_by-remove (load_by id) ps i d h)

-- a flow holds no more blocks than all flows
pub load_most : (id : ℕ) (ps : List Payload) → load_of id ps ≤ blocks_of ps
unfolding load_of blocks_of
load_most id [] = omega arith
load_most id (p ∷ ps) = grind (arith, load_most id ps)

-- a flow without blocks holds no payload, since each takes a block at least
pub none_loaded : (id : ℕ) (ps : List Payload) → AreSmall ps → load_of id ps ≡ 0 →
    count_of id ps ≡ 0
unfolding load_of count_of
none_loaded id [] s h = refl
none_loaded id (p ∷ ps) s h = grind (arith, h, s.0.some, none_loaded id ps s.1)

pub first_none : (id next : ℕ) (ps : List Payload) → count_of id ps ≡ 0 →
    oldest_index id next ps ≡ None
unfolding count_of oldest_index
first_none id next [] h = refl
first_none id next (p ∷ ps) h = grind (arith, h, first_none id next ps)

pub far_none : (id next : ℕ) (ps : List Payload) → count_of id ps ≡ 0 →
    holds_beyond_window id next ps ≡ false
unfolding count_of holds_beyond_window
far_none id next [] h = refl
far_none id next (p ∷ ps) h = grind (arith, h, far_none id next ps)

pub has_none : (id number count : ℕ) (ps : List Payload) → count_of id ps ≡ 0 →
    holds_as_long id number count ps ≡ false
unfolding count_of holds_as_long
has_none id number count [] h = refl
has_none id number count (p ∷ ps) h = grind (arith, h, has_none id number count ps)

-- the blocks of a flow after a payload was removed, from where it is in memory
pub removed_loads : (all : List ℕ) (ws : List Waiting) (i : ℕ) (w : Waiting) (id : ℕ) →
    AreWithin (length all) ws → i < length ws → w ≡ get_or ws i w
    → load_of id (held_in all (remove ws i)) + cond (nat_eq w.flow id) ((w.count + 1023) / 1024) 0
    ≡ load_of id (held_in all ws)
removed_loads all ws i w id laid h is =
    let d : Payload = payload_in all w in
    let same : get_or (held_in all ws) i d ≡ d = get_held all ws i w d h is in
    let count : length d.octets ≡ w.count = (here all ws i w laid h is).count in
    rw (remove_held all ws i, ← count)
    (subst (λ (p : Payload). load_of id (remove (held_in all ws) i)
    + cond (nat_eq p.flow id) ((length p.octets + 1023) / 1024) 0 ≡ load_of id (held_in all ws))
    same (load_remove id (held_in all ws) i d (omega (arith, length_held all ws))))

pub own_load : (id n : ℕ) → cond (nat_eq id id) n 0 ≡ n
own_load id n = rw (eq-eqb id id refl) refl
