-- Several flows: a step of one leaves what the others hold, so they stay settled and without gaps.
use Rattle.std.proofs.Common.{◌≡◌, ℕ, zero, suc, ◌<◌, ◌≤◌, ◌^◌, Bool, true, false, cond, nat_eq, List, [], ◌∷◌, length, get_or, is_some, refl, sym, ◌∙◌, ap, subst, arith}
use Rattle.std.specs.List.{insert, remove}
use Rattle.std.proofs.lemmas.Bool.{or_parts, eq-eqb, ne_eqb, eqb-true}
use Rattle.tcp_waiting.specs.Payload.{Payload, no_payload, oldest_index, blocks_of, place_of, key_of}
use Rattle.tcp_waiting.specs.Numbers.{rank}
use Rattle.tcp_flow.specs.Flow.{Flow, Reader, Arrival, Octets, End, Hears, held_by_others, oldest_held, without_old_octets, with_gap, with_held, payload_came, step}
use Rattle.tcp_flow.specs.Laws.{AreLater, HoldsOnlyToCome}
use Rattle.tcp_flow.proofs.Preserving.{StepsKeep, came_keeps, fin_keeps, gap_keeps, heard_keeps}
use Rattle.tcp_flow.proofs.Room.{HeldSatisfies, held_keeps, left_flow}
use Rattle.tcp_flow.proofs.Firsts.{first_some}

-- after a payload of the flow was removed
pub others_keep : (id : ℕ) (ps : List Payload) (i : ℕ) → i < length ps →
    (get_or ps i no_payload).flow ≡ id →
    held_by_others id (remove ps i) ≡ held_by_others id ps
unfolding held_by_others
others_keep id [] i h own = absurd (omega (arith, h))
others_keep id (p ∷ ps) zero h own = search (arith, eq-eqb)
others_keep id (p ∷ ps) (suc i) h own = search (
  arith,
  cond,
  nat_eq,
  others_keep id ps i (omega
      (arith, h)) own,
)

-- if the flow holds nothing, all is held by others
pub others_all : (id next : ℕ) (ps : List Payload) → is_some (oldest_index id next ps) ≡ false →
    held_by_others id ps ≡ ps
unfolding held_by_others
others_all id next [] h = refl
others_all id next (p ∷ ps) h =
    let e : (nat_eq p.flow id ≡ false) × (is_some (oldest_index id next ps) ≡ false) =
    or_parts (nat_eq p.flow id) (is_some (oldest_index id next ps))
    (sym (first_some id next p ps) ∙ h)
    in
    rw e.0 (ap (λ (qs : List Payload). p ∷ qs) (others_all id next ps e.1))

either_less : (b : Bool) (ps qs : List Payload) (p : Payload) → blocks_of qs ≤ blocks_of ps →
    blocks_of (cond b qs (p ∷ qs)) ≤ blocks_of (p ∷ ps)
unfolding blocks_of
either_less true ps qs p h = omega (arith, h)
either_less false ps qs p h = omega (arith, h)

-- what others hold takes no more blocks
pub others_blocks : (id : ℕ) (ps : List Payload) → blocks_of (held_by_others id ps) ≤ blocks_of ps
unfolding held_by_others
others_blocks id [] = omega arith
others_blocks id (p ∷ ps) = search (arith, either_less, nat_eq, others_blocks id ps)

-- after a payload of the flow came
others_put : (id : ℕ) (ps : List Payload) (i : ℕ) (q : Payload) → q.flow ≡ id →
    held_by_others id (insert ps i q) ≡ held_by_others id ps
unfolding held_by_others
others_put id [] zero q own = search (arith, eq-eqb)
others_put id [] (suc i) q own = search (arith, eq-eqb)
others_put id (p ∷ ps) zero q own = search (arith, eq-eqb)
others_put id (p ∷ ps) (suc i) q own = search (arith, cond, nat_eq, others_put id ps i q own)

OthersHold : List Payload → ℕ → List Payload → Type 0
OthersHold rest id ps = held_by_others id ps ≡ rest

others_keeps : (F : Reader) (rest : List Payload) (id : ℕ) →
    StepsKeep F (HeldSatisfies (OthersHold rest) id)
unfolding OthersHold
others_keeps F rest id = search (arith, held_keeps, others_keep)

same_others : (f : Flow) → HeldSatisfies (OthersHold (held_by_others f.id f.held)) f.id f
unfolding OthersHold
same_others f = search (arith)

came_others : (F : Reader) (f : Flow) (p : Payload) → p.flow ≡ f.id →
    HeldSatisfies (OthersHold (held_by_others f.id f.held)) f.id (payload_came F f p)
unfolding with_held OthersHold
came_others F f p own =
    let q : Payload = without_old_octets f.next (is_some f.live) p in
    came_keeps F (HeldSatisfies (OthersHold (held_by_others f.id f.held)) f.id)
    (others_keeps F (held_by_others f.id f.held) f.id) f p (same_others f) (record {
      own = refl;
      held =
          others_put f.id f.held (place_of (key_of q) f.held) q
          (left_flow f.next (is_some f.live) p ∙ own);
    })

step_holds : (F : Reader) (f : Flow) (a : Arrival) →
    HeldSatisfies (OthersHold (held_by_others f.id f.held)) f.id (step F f a)
unfolding step OthersHold
step_holds F f (Octets n octets arrival) = search (arith, came_others)
step_holds F f (End n) =
    fin_keeps F (HeldSatisfies (OthersHold (held_by_others f.id f.held)) f.id)
    (others_keeps F (held_by_others f.id f.held) f.id) f n (same_others f)
step_holds F f (Hears h) =
    heard_keeps F (HeldSatisfies (OthersHold (held_by_others f.id f.held)) f.id)
    (others_keeps F (held_by_others f.id f.held) f.id) (length f.held) h f
    (same_others f)

-- a step leaves what others hold
pub step_others : (F : Reader) (f : Flow) (a : Arrival) →
    held_by_others f.id (step F f a).held ≡ held_by_others f.id f.held
unfolding OthersHold
step_others F f a = (step_holds F f a).held

pub gap_others : (F : Reader) (f : Flow) →
    held_by_others f.id (with_gap F f).held ≡ held_by_others f.id f.held
unfolding OthersHold
gap_others F f = (gap_keeps F (HeldSatisfies (OthersHold (held_by_others f.id f.held)) f.id)
    (others_keeps F (held_by_others f.id f.held) f.id) f (same_others f)).held

others_twice_by : (id : ℕ) (p : Payload) (qs : List Payload) (b : Bool) → nat_eq p.flow id ≡ b →
    held_by_others id qs ≡ qs → held_by_others id (cond b qs (p ∷ qs)) ≡ cond b qs (p ∷ qs)
unfolding held_by_others
others_twice_by id p qs true e h = h
others_twice_by id p qs false e h = search (arith)

-- to leave out the flow's payloads twice is to do it once
pub others_twice : (id : ℕ) (ps : List Payload) →
    held_by_others id (held_by_others id ps) ≡ held_by_others id ps
unfolding held_by_others
others_twice id [] = refl
others_twice id (p ∷ ps) = search (arith, others_twice_by, nat_eq, others_twice id ps)

-- the first payload of another flow is among those that others hold
first_beside_by : (a b next : ℕ) (p : Payload) (ps : List Payload) (here : Bool) → (a ≡ b → ⊥) →
    nat_eq p.flow a ≡ here
    → is_some (oldest_index b next (held_by_others a ps)) ≡ is_some (oldest_index b next ps) →
    is_some (oldest_index b next (cond here (held_by_others a ps) (p ∷ held_by_others a ps)))
    ≡ is_some (oldest_index b next (p ∷ ps))
first_beside_by a b next p ps true apart e h = search (arith, nat_eq, ne_eqb, eqb-true, first_some)
first_beside_by a b next p ps false apart e h = search (arith, first_some)

first_beside : (a b next : ℕ) (ps : List Payload) → (a ≡ b → ⊥) →
    is_some (oldest_index b next (held_by_others a ps)) ≡ is_some (oldest_index b next ps)
unfolding held_by_others
first_beside a b next [] apart = refl
first_beside a b next (p ∷ ps) apart = search (
  arith,
  first_beside_by,
  nat_eq,
  first_beside a b
      next ps apart,
)

fewer_later_by : (b next least : ℕ) (p : Payload) (qs : List Payload) (here : Bool) →
    (p.flow ≡ b → least < rank next p.number) → AreLater b next least qs →
    AreLater b next least (cond here qs (p ∷ qs))
unfolding AreLater
fewer_later_by b next least p qs true h t = t
fewer_later_by b next least p qs false h t = (h, t)

fewer_later : (a b next least : ℕ) (ps : List Payload) → AreLater b next least ps →
    AreLater b next least (held_by_others a ps)
unfolding AreLater held_by_others
fewer_later a b next least [] t = tt
fewer_later a b next least (p ∷ ps) t = search (
  arith,
  fewer_later_by,
  nat_eq,
  fewer_later a b next
      least ps t.1,
)

all_later_by : (a b next least : ℕ) (p : Payload) (ps : List Payload) (here : Bool) → (a ≡ b → ⊥) →
    nat_eq p.flow a ≡ here → (AreLater b next least (held_by_others a ps) →
    AreLater b next least ps)
    → AreLater b next least (cond here (held_by_others a ps) (p ∷ held_by_others a ps)) →
    (p.flow ≡ b → least < rank next p.number) × AreLater b next least ps
unfolding AreLater
all_later_by a b next least p ps true apart e h t = search (arith, eqb-true)
all_later_by a b next least p ps false apart e h t = (t.0, h t.1)

all_later : (a b next least : ℕ) (ps : List Payload) → (a ≡ b → ⊥) →
    AreLater b next least (held_by_others a ps) → AreLater b next least ps
unfolding AreLater held_by_others
all_later a b next least [] apart t = tt
all_later a b next least (p ∷ ps) apart t =
    all_later_by a b next least p ps (nat_eq p.flow a) apart refl
    (all_later a b next least ps apart) t

-- a flow stays settled, whatever another flow does
pub settled_beside : (a : ℕ) (f : Flow) (held : List Payload) → (a ≡ f.id → ⊥) →
    held_by_others a held ≡ held_by_others a f.held → HoldsOnlyToCome f →
    HoldsOnlyToCome (record f { held = held })
unfolding oldest_held
settled_beside a f held apart e t =
    record {
      live = λ l. all_later a f.id f.next (2 ^ 31) held apart
          (subst (AreLater f.id f.next (2 ^ 31)) (sym e)
          (fewer_later a f.id f.next (2 ^ 31) f.held (t.live l)));
      dead = λ d. sym (first_beside a f.id f.next held apart)
          ∙ ap (λ (ps : List Payload). is_some (oldest_index f.id f.next ps)) e
          ∙ first_beside a f.id f.next f.held apart ∙ t.dead d;
    }
