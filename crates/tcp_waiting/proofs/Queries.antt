-- Searches through all payloads, from the first to the last.
use Rattle.std.proofs.Common.{◌≡◌, ℕ, suc, ◌+◌, ◌-◌, ◌/◌, ◌<◌, ◌≤◌, false, cond, nat_eq, ◌&&◌, ◌||◌, List, [], ◌∷◌, length, drop, get_or, refl, ap, sym, subst, ◌∙◌, arith, add-one}
use Rattle.std.specs.List.{insert, remove, sum_by}
use Rattle.std.proofs.lemmas.List.Recursion.{is_sum_by}
use Rattle.std.proofs.lemmas.List.Sums.{sum_by-insert, sum_by-remove}
use Rattle.std.proofs.Math.Seq.{drop-cons}
use Rattle.std.proofs.Math.ListN.{drop_of_length-le}
use Rattle.tcp_waiting.specs.declared.pool.Waiting.{Waiting}
use Rattle.tcp_waiting.specs.Payload.{Payload, blocks_of, load_of, holds_beyond_window, ends_beyond_window, key, key_of, AreYounger}
use Rattle.tcp_waiting.specs.Layout.{octets_at, payload_in, held_in, AreWithin, CameNotBefore}
use Rattle.tcp_waiting.proofs.Held.{length_held, get_held, remove_held, all_at, length_octets}

-- the payload at an index, and those after it
pub record IsAtIndex (all : List ℕ) (waitings : List Waiting) (index : ℕ)
    (waiting : Waiting) : Type 0 where
  pub behind : drop index (held_in all waitings) ≡ payload_in all waiting
      ∷ drop (index + 1) (held_in all waitings)
  pub count : length (octets_at all waiting.from waiting.count) ≡ waiting.count
  pub ends : waiting.from + waiting.count ≤ length all

pub here : (all : List ℕ) (ws : List Waiting) (k : ℕ) (w : Waiting) → AreWithin (length all) ws →
    k < length ws → w ≡ get_or ws k w → IsAtIndex all ws k w
here all ws k w within h is =
    let ends : w.from + w.count ≤ length all =
    subst (λ (v : Waiting). v.from + v.count ≤ length all) (sym is)
    (all_at (λ (v : Waiting). v.from + v.count ≤ length all) ws k w within h) in
    let h' : k < length (held_in all ws) = omega (arith, length_held all ws) in
    record {
      behind =
          rw add-one (drop-cons (held_in all ws) k (payload_in all w) h'
          ∙ ap (λ (p : Payload). p ∷ drop (suc k) (held_in all ws))
          (get_held all ws k w (payload_in all w) h is));
      count = length_octets all w.from w.count ends;
      ends = ends;
    }

-- the key of a payload, from where it is in memory
pub key_here : (all : List ℕ) (ws : List Waiting) (k : ℕ) (w : Waiting) (d : Payload) →
    AreWithin (length all) ws → k < length ws → w ≡ get_or ws k w
    → key_of (get_or (held_in all ws) k d) ≡ key w.flow w.number w.count
key_here all ws k w d within h is = ap key_of (get_held all ws k w d h is)
    ∙ ap (key w.flow w.number) (here all ws k w within h is).count

pub far_turn : (all : List ℕ) (ws : List Waiting) (k : ℕ) (w : Waiting) (id next : ℕ) →
    IsAtIndex all ws k w
    → holds_beyond_window id next (drop k (held_in all ws))
    ≡ ((nat_eq w.flow id && ends_beyond_window next w.number w.count)
    || holds_beyond_window id next (drop (k + 1) (held_in all ws)))
unfolding holds_beyond_window
far_turn all ws k w id next h = rw (h.behind, h.count) refl

nothing_left : (all : List ℕ) (ws : List Waiting) (k : ℕ) → length ws ≤ k →
    drop k (held_in all ws) ≡ []
nothing_left all ws k h = drop_of_length-le (held_in all ws) (omega (arith, length_held all ws))

pub far_end : (all : List ℕ) (ws : List Waiting) (k id next : ℕ) → length ws ≤ k →
    holds_beyond_window id next (drop k (held_in all ws)) ≡ false
unfolding holds_beyond_window
far_end all ws k id next h =
    rw (nothing_left all ws k h) refl

-- what came at a time or later also came at any time before that or later
pub since_before : (since before : ℕ) (ps : List Payload) → before ≤ since →
    CameNotBefore since ps →
    CameNotBefore before ps
since_before since before [] l h = tt
since_before since before (p ∷ ps) l h =
    (λ came e. omega (arith, h.0 came e), since_before since before ps l h.1)

pub young : (since age time : ℕ) (ps : List Payload) → time - since < age → CameNotBefore since ps →
    AreYounger age time ps
young since age time [] l h = tt
young since age time (p ∷ ps) l h =
    (λ came e. omega (arith, h.0 came e), young since age time ps l h.1)

abbrev blocks_by : (p : Payload) → ℕ
blocks_by p = (length p.octets + 1023) / 1024

blocks_is : (ps : List Payload) → blocks_of ps ≡ sum_by blocks_by ps
unfolding blocks_of
blocks_is ps = is_sum_by blocks_of blocks_by refl (λ p ps. refl) ps

-- the blocks after one more payload waits
pub blocks_insert : (ps : List Payload) (i : ℕ) (p : Payload) →
    blocks_of (insert ps i p) ≡ blocks_of ps + (length p.octets + 1023) / 1024
blocks_insert ps i p = simp blocks_is (sum_by-insert blocks_by ps i p)

-- the blocks after a payload was removed
pub blocks_remove : (ps : List Payload) (i : ℕ) (d : Payload) → i < length ps →
    blocks_of (remove ps i) + (length (get_or ps i d).octets + 1023) / 1024 ≡ blocks_of ps
blocks_remove ps i d h = simp blocks_is (sum_by-remove blocks_by ps i d h)

-- the blocks of a removed payload are free, from where it was in memory
pub removed_blocks : (all : List ℕ) (ws : List Waiting) (i : ℕ) (w : Waiting) →
    AreWithin (length all) ws → i < length ws → w ≡ get_or ws i w
    → blocks_of (held_in all (remove ws i)) + (w.count + 1023) / 1024 ≡ blocks_of (held_in all ws)
removed_blocks all ws i w laid h is =
    let d : Payload = payload_in all w in
    let at = here all ws i w laid h is in
    let count : length (get_or (held_in all ws) i d).octets ≡ w.count =
    ap (λ (p : Payload). length p.octets) (get_held all ws i w d h is) ∙ at.count in
    rw (remove_held all ws i, ← count) (blocks_remove (held_in all ws) i d
    (omega (arith, length_held all ws)))

-- the load of a flow, from an index on
pub load_turn : (all : List ℕ) (ws : List Waiting) (k : ℕ) (w : Waiting) (id : ℕ) →
    IsAtIndex all ws k w
    → load_of id (drop k (held_in all ws)) ≡ cond (nat_eq w.flow id) ((w.count + 1023) / 1024) 0
    + load_of id (drop (k + 1) (held_in all ws))
unfolding load_of
load_turn all ws k w id h = rw (h.behind, h.count) refl

pub load_end : (all : List ℕ) (ws : List Waiting) (k id : ℕ) → length ws ≤ k →
    load_of id (drop k (held_in all ws)) ≡ 0
unfolding load_of
load_end all ws k id h = rw (nothing_left all ws k h) refl
