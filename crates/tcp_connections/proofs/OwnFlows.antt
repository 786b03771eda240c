-- What a flow delivers is of its own segments, and it changes nothing of what other ids stand for.
use Rattle.std.proofs.Common.{◌≡◌, ℕ, ◌^◌, ◌<◌, true, false, cond, nat_eq, List, [], ◌∷◌, ◌++◌, drop, Option, Some, None, refl, sym, ◌∙◌, ap, subst, arith, true≢false}
use Rattle.std.specs.List.{AllByRecursion}
use Rattle.std.proofs.lemmas.Bool.{cond-true, cond-false, eq-eqb, ne_eqb}
use Rattle.std.proofs.lemmas.List.{drop-drop}
use Rattle.tcp_segment.specs.declared.endpoint.Flow.{Flow as Endpoints}
use Rattle.tcp_segment.specs.Segments.{Segment}
use Rattle.tcp_waiting.specs.Numbers.{onward}
use Rattle.tcp_waiting.specs.Payload.{Payload}
use Rattle.tcp_flow.specs.declared.tail.Tail.{Tail}
use Rattle.tcp_flow.specs.Flow.{Event, Begins, Delivers, Closes, OfCapture}
use Rattle.tcp_flow.specs.Laws.{IsTailOf}
use Rattle.tcp_flow.proofs.Obeying.{FlowLaw}
use Rattle.tcp_flow.proofs.Tails.{some_same}
use Rattle.tcp_connections.specs.Owned.{IsPartOf, Standing, Unopened, Idle, Live, owner, is_of, behind, MayCome, standing, AllMayCome}

-- ---- One more event.

standing_more : (id : ℕ) (s : Standing) (es : List Event) (e : Event) →
    standing id s (es ++ e ∷ [])
    ≡ cond (is_of id e) (behind (standing id s es) e) (standing id s es)
unfolding standing
standing_more id s [] e = refl
standing_more id s (x ∷ es) e = standing_more id (cond (is_of id x) (behind s x) s) es e

come_more : (segments : List Segment) (id : ℕ) (s : Standing) (es : List Event) (e : Event) →
    AllMayCome segments id s es → (is_of id e ≡ true → MayCome segments (standing id s es) e) →
    AllMayCome segments id s (es ++ e ∷ [])
unfolding standing AllMayCome
come_more segments id s [] e h m = (m, tt)
come_more segments id s (x ∷ es) e h m =
    (h.0, come_more segments id (cond (is_of id x) (behind s x) s) es e h.1 m)

-- what an id stands for after events, all of which might come
pub record StandsAfter (segments : List Segment) (id : ℕ) (events : List Event) (now : Standing)
    : Type 0 where
  pub come : AllMayCome segments id Unopened events
  pub is : standing id Unopened events ≡ now

-- one more event of the id's flow
pub own_more : (segments : List Segment) (id : ℕ) (es : List Event) (s : Standing) (e : Event) →
    is_of id e ≡ true → MayCome segments s e → StandsAfter segments id es s →
    StandsAfter segments id (es ++ e ∷ []) (behind s e)
own_more segments id es s e own may t = search (arith, come_more, standing_more, cond-true)

-- one more event of another flow
pub other_more : (segments : List Segment) (id : ℕ) (es : List Event) (s : Standing) (e : Event) →
    is_of id e ≡ false → StandsAfter segments id es s → StandsAfter segments id (es ++ e ∷ []) s
other_more segments id es s e other t = search (
  arith,
  come_more,
  true≢false,
  standing_more,
  cond-false,
)

-- what an id stands for after these events
abbrev pub standing_after : (events : List Event) (id : ℕ) → Standing
standing_after es id = standing id Unopened es

abbrev pub owner_of : (events : List Event) (id : ℕ) → Option Endpoints
owner_of es id = owner (standing_after es id)

-- the ids of other flows stand for what they did
abbrev pub OthersStand : (segments : List Segment) (id : ℕ) (before events : List Event) → Type 0
OthersStand segments id before events =
    (j : ℕ) → (j ≡ id → ⊥) → StandsAfter segments j events (standing_after before j)

pub others_more : (segments : List Segment) (id : ℕ) (before es : List Event) (e : Event) →
    ((j : ℕ) → (j ≡ id → ⊥) → is_of j e ≡ false) → OthersStand segments id before es →
    OthersStand segments id before (es ++ e ∷ [])
others_more segments id before es e apart t j n =
    other_more segments j es (standing_after before j) e (apart j n) (t j n)

pub other_id : (k id j : ℕ) → k ≡ id → (j ≡ id → ⊥) → nat_eq k j ≡ false
other_id k id j own n = ne_eqb k j (λ o. n (sym o ∙ own))

-- ---- A flow.

-- a held payload, of whichever flow, is part of a segment of its flow
abbrev pub IsPartOfOwn : (segments : List Segment) (owners : ℕ → Option Endpoints)
    (payload : Payload) → Type 0
IsPartOfOwn segments owners p =
    (o : Endpoints) → owners p.flow ≡ Some o → IsPartOf segments o p.number p.octets

-- what the id of a flow between these endpoints stands for, if this number is due in its live
-- stream, or if it has none
abbrev pub standing_of : (endpoints : Endpoints) (due : Option ℕ) → Standing
standing_of o None = Idle o
standing_of o (Some n) = Live o n

-- a tail consists of parts of segments of the flow
abbrev pub HasOwnTail : (segments : List Segment) (endpoints : Endpoints) (tail : Option Tail) →
    Type 0
HasOwnTail segments o tail = (t : Tail) → tail ≡ Some t → IsTailOf (IsPartOf segments o) t

pub part_more : (segments : List Segment) (o : Endpoints) (n a : ℕ) (xs : List ℕ) →
    IsPartOf segments o n xs → IsPartOf segments o (onward n a) (drop a xs)
part_more segments o n a xs h = search (arith, drop-drop)

pub part_small : (segments : List Segment) (o : Endpoints) (n : ℕ) (xs : List ℕ) →
    IsPartOf segments o n xs → n < 2 ^ 32
part_small segments o n xs h = search (arith)

-- what is delivered to a flow between these endpoints is of its own segments
unfoldable pub own_law : (segments : List Segment) (owners : ℕ → Option Endpoints) (id : ℕ)
    (endpoints : Endpoints) → owners id ≡ Some endpoints → (before : List Event) → FlowLaw
own_law segments owners id o own before = record {
  id = id;
  Holds = IsPartOf segments o;
  Waits = IsPartOfOwn segments owners;
  Runs = λ es due. StandsAfter segments id es (standing_of o due)
      × OthersStand segments id before es;
  skips = part_more segments o;
  small = part_small segments o;
  shows = λ p mine h. h o (ap owners mine ∙ own);
  waits = λ p mine h x e. subst (λ (y : Endpoints). IsPartOf segments y p.number p.octets)
      (some_same o x (sym (ap owners mine ∙ own) ∙ e)) h;
  begins = λ k es start mine r. (
    own_more segments id es (Idle o) (Begins k start) (eq-eqb k id mine) tt r.0,
    others_more segments id before es (Begins k start) (λ j n. other_id k id j mine n) r.1,
  );
  delivers = λ k es n xs mine part r. (
    own_more segments id es (Live o n) (Delivers k xs) (eq-eqb k id mine) part r.0,
    others_more segments id before es (Delivers k xs) (λ j n. other_id k id j mine n) r.1,
  );
  closes = λ k es n cause mine r. (
    own_more segments id es (Live o n) (Closes k cause) (eq-eqb k id mine) tt r.0,
    others_more segments id before es (Closes k cause) (λ j n. other_id k id j mine n) r.1,
  );
  tells = λ es due event r. (
    other_more segments id es (standing_of o due) (OfCapture event) refl r.0,
    others_more segments id before es (OfCapture event) (λ j n. refl) r.1,
  );
}

pub all_push : (P : Payload → Type 0) (ps : List Payload) (p : Payload) → AllByRecursion P ps →
    P p → AllByRecursion P (ps ++ p ∷ [])
all_push P [] p h x = (x, tt)
all_push P (q ∷ ps) p h x = (h.0, all_push P ps p h.1 x)
