-- The numbers of a capture's streams, and the flows that have them.
use Rattle.std.proofs.Common.{◌≡◌, ℕ, zero, suc, ◌+◌, ◌*◌, ◌-◌, ◌^◌, ◌/◌, ◌==◌, ◌<◌, ◌≤◌, arith, Bool, true, false, List, [], ◌∷◌, length, Option, Some, None, IfSome, refl, sym, subst, ◌∙◌, slice_get, set}
use Rattle.std.proofs.Math.ListN.{length-set}
use Rattle.std.proofs.Math.Nat.{min-le_right}
use Rattle.std.proofs.lemmas.Bool.{eqb-true, eqb-false, eq-eqb, cases_lt, false_from_ne_true}
use Rattle.std.proofs.lemmas.Option.{slice_get_cases}
use Rattle.giop_print.specs.Output.{saturating_next}
use Rattle.giop_message.specs.Signatures.{Answers}
use Rattle.giop_stream.specs.Stream.{text, closing}
use Rattle.giop_conversation.specs.declared.conversation.Side.{Side}
use Rattle.giop_conversation.specs.declared.conversation.Side.TheVariants.{Even, Odd}
use Rattle.giop_conversation.specs.Followed.{side_of, other}
use Rattle.giop_conversation.specs.Captured.{Setup, Half, Connection, half, with_half, rules_in, next_stream_number}
use Rattle.giop_conversation.specs.StreamTexts.{StreamHistory, new_stream, History, with_begun, with_stream, IsUnique}

-- ---- the flows of connections

-- the id of a flow, by the index of its connection and its side
abbrev pub flow_id : (i : ℕ) (side : Side) → ℕ
flow_id i Even = 2 * i
flow_id i Odd = 2 * i + 1

id_is : (id : ℕ) → flow_id (id / 2) (side_of id) ≡ id
id_is id = search (arith, eqb-true, eqb-false)

other_id : (i : ℕ) (side : Side) → flow_id i (other side) ≡ flow_id i side → ⊥
other_id i Even same = omega (arith, same)
other_id i Odd same = omega (arith, same)

place_is : (i j : ℕ) (p q : Side) → flow_id j q ≡ flow_id i p → j ≡ i
place_is i j Even Even same = omega (arith, same)
place_is i j Even Odd same = absurd (omega (arith, same))
place_is i j Odd Even same = absurd (omega (arith, same))
place_is i j Odd Odd same = omega (arith, same)

set_each : {X : Type 0} (P : ℕ → X → Type 0) (xs : List X) (i : ℕ) (x : X) →
    ((j : ℕ) → (j ≡ i → ⊥) → IfSome (slice_get xs j) (P j)) → P i x → (j : ℕ) →
    IfSome (slice_get (set xs i x) j) (P j)
set_each P [] i x others here j = tt
set_each P (y ∷ ys) zero x others here zero = here
set_each P (y ∷ ys) zero x others here (suc j) = search (arith)
set_each P (y ∷ ys) (suc i) x others here zero = search (arith)
set_each P (y ∷ ys) (suc i) x others here (suc j) =
    set_each (λ k. P (suc k)) ys i x (λ k apart. others (suc k) (λ is. apart (omega (arith, is))))
    here j

-- The flow has the stream that the history gives it. If no other stream has its number, its octets
-- are those of the history, and its answers give the same text and closing as those of the history.
pub record IsHalf (S : Setup) (h : History) (id stream : ℕ) (octets : List ℕ) (answers : Answers) :
    Type 0 where
  pub stream_is : stream ≡ h.stream_of id
  pub octets_are : IsUnique stream → octets ≡ (h.stream stream).octets
  pub text_is : IsUnique stream → text (rules_in S answers) octets
      ≡ text (rules_in S (h.stream stream).answers) octets
  pub closing_is : IsUnique stream → closing (rules_in S answers) octets
      ≡ closing (rules_in S (h.stream stream).answers) octets

abbrev pub HasHalf : (S : Setup) (h : History) (id : ℕ) (s : Half) → Type 0
HasHalf S h id s = IsHalf S h id s.stream s.octets s.answers

abbrev pub HasHalves : (S : Setup) (h : History) (i : ℕ) (c : Connection) → Type 0
HasHalves S h i c = (p : Side) → HasHalf S h (flow_id i p) (half p c)

pub record AreHalves (S : Setup) (h : History) (cs : List Connection) : Type 0 where
  pub slots : length cs ≡ S.connections
  pub halves : (i : ℕ) → IfSome (slice_get cs i) (HasHalves S h i)

-- ---- the numbers of streams

pub record AreNumbered (S : Setup) (h : History) : Type 0 where
  pub most : h.begun ≤ 2 ^ 64 - 1
  pub within : (f : ℕ) → IsUnique (h.stream_of f) → h.stream_of f < next_stream_number S h.begun
  pub apart : (f g : ℕ) → IsUnique (h.stream_of f) → h.stream_of f ≡ h.stream_of g → f ≡ g
  pub fresh : (n : ℕ) → IsUnique n → next_stream_number S h.begun ≤ n → h.stream n ≡ new_stream
  pub beyond : (f : ℕ) → S.connections ≤ f / 2 → h.stream_of f ≡ 0

-- ---- the count of streams

counted_most : (n : ℕ) → saturating_next n ≤ 2 ^ 64 - 1
unfolding saturating_next
counted_most n = search (arith, min-le_right)

-- the number of the next stream doesn't fall, and rises if it isn't the greatest
next_up : (S : Setup) (n : ℕ) → n ≤ 2 ^ 64 - 1 → next_stream_number S n ≤ next_stream_number S
    (saturating_next n)
unfolding saturating_next
next_up S n most = omega (arith, most)

next_new : (S : Setup) (n : ℕ) → n ≤ 2 ^ 64 - 1 → next_stream_number S n < 2 ^ 64 - 1 →
    next_stream_number S n < next_stream_number S (saturating_next n)
unfolding saturating_next
next_new S n most few = omega (arith, most, few)

pub numbers_begun : (S : Setup) (h : History) (id : ℕ) (b : Bool) →
    (b ≡ true → id / 2 < S.connections) → AreNumbered S h →
    AreNumbered S (with_begun h id (next_stream_number S h.begun) b)
numbers_begun S h id false room k = search (arith, counted_most, next_up)
numbers_begun S h id true room k = search (arith, counted_most, next_up, next_new, eqb-true)

pub stream_at : (h : History) (n : ℕ) (s : StreamHistory) → (with_stream h n s).stream n ≡ s
stream_at h n s = rw (eq-eqb n n refl) refl

pub stream_else : (h : History) (n : ℕ) (s : StreamHistory) (m : ℕ) → (n == m) ≡ false →
    (with_stream h n s).stream m ≡ h.stream m
stream_else h n s m apart = rw apart refl

pub unequal : (n m : ℕ) → (n ≡ m → ⊥) → (n == m) ≡ false
unequal n m apart = search (arith, false_from_ne_true, eqb-true)

pub numbers_with : (S : Setup) (h : History) (n : ℕ) (s : StreamHistory) →
    (IsUnique n → n < next_stream_number S h.begun) →
    AreNumbered S h → AreNumbered S (with_stream h n s)
numbers_with S h n s within k = search (arith, stream_else, unequal)

-- ---- a connection in which a flow changes

with_both : (P : Side → Half → Type 0) (side : Side) (c : Connection) (s opposite : Half) →
    P side s → P (other side) opposite →
    (p : Side) → P p (half p (with_half (other side) (with_half side c s) opposite))
with_both P Even c s opposite own rest Even = own
with_both P Even c s opposite own rest Odd = rest
with_both P Odd c s opposite own rest Even = rest
with_both P Odd c s opposite own rest Odd = own

alone : (side : Side) (c : Connection) (s : Half) →
    with_half (other side) (with_half side c s) (half (other side) c) ≡ with_half side c s
alone Even c s = refl
alone Odd c s = refl

module _ (S : Setup) (h behind : History) (cs : List Connection) (id : ℕ) (c : Connection) where
  -- what each flow has: the flow itself, and the other one of its connection
  pub own_half : slice_get cs (id / 2) ≡ Some c → AreHalves S h cs →
      HasHalf S h id (half (side_of id) c)
  own_half is k = search (arith, id_is)

  pub halves_on : (s opposite : Half) → slice_get cs (id / 2) ≡ Some c → AreHalves S h cs →
      ((g n : ℕ) (p : List ℕ) (a : Answers) → (g ≡ id → ⊥) → IsHalf S h g n p a →
      IsHalf S behind g n p a) →
      HasHalf S behind id s →
      ((g : ℕ) → HasHalf S behind g (half (other (side_of id)) c) → HasHalf S behind g opposite) →
      AreHalves S behind (set cs (id / 2) (with_half (other (side_of id))
      (with_half (side_of id) c s) opposite))
  halves_on s opposite is k others own alike = record {
    slots = length-set cs (id / 2) (with_half (other (side_of id)) (with_half (side_of id) c s)
        opposite) ∙ k.slots;
    halves = set_each (HasHalves S behind) cs (id / 2)
        (with_half (other (side_of id)) (with_half (side_of id) c s) opposite)
        (λ j apart. by j apart (slice_get cs j) (k.halves j))
        (with_both (λ p. HasHalf S behind (flow_id (id / 2) p)) (side_of id) c s opposite
        (subst (λ f. HasHalf S behind f s) (sym (id_is id)) own)
        (alike across (others across (half (other (side_of id)) c).stream
        (half (other (side_of id)) c).octets
        (half (other (side_of id)) c).answers
        (λ same. other_id (id / 2) (side_of id) (same ∙ sym (id_is id)))
        (subst (λ (o : Option Connection). IfSome o (HasHalves S h (id / 2))) is (k.halves (id / 2))
        (other (side_of id))))));
  }
    where
      across : ℕ
      across = flow_id (id / 2) (other (side_of id))

      by : (j : ℕ) → (j ≡ id / 2 → ⊥) → (o : Option Connection) → IfSome o (HasHalves S h j) →
          IfSome o (HasHalves S behind j)
      by j apart None has = tt
      by j apart (Some d) has = λ q. others (flow_id j q) (half q d).stream (half q d).octets
          (half q d).answers
          (λ same. apart (place_is (id / 2) j (side_of id) q (same ∙ sym (id_is id)))) (has q)

  -- the same if the other one stays
  pub half_on : (s : Half) → slice_get cs (id / 2) ≡ Some c → AreHalves S h cs →
      ((g n : ℕ) (p : List ℕ) (a : Answers) → (g ≡ id → ⊥) → IsHalf S h g n p a →
      IsHalf S behind g n p a) →
      HasHalf S behind id s → AreHalves S behind (set cs (id / 2) (with_half (side_of id) c s))
  half_on s is k others own =
      subst (λ (x : Connection). AreHalves S behind (set cs (id / 2) x)) (alone (side_of id) c s)
      (halves_on s (half (other (side_of id)) c) is k others own (λ g has. has))

-- ---- a flow whose connection has no slot

pub no_slot : {X : Type 0} (xs : List X) (i : ℕ) → slice_get xs i ≡ None → length xs ≤ i
no_slot xs i beyond = search (arith, cases_lt, slice_get_cases)
