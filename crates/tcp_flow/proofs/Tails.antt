-- Octets that are looked through: what each step keeps, and the tail of a flow.
use Rattle.std.proofs.Common.{◌≡◌, ℕ, ◌+◌, ◌^◌, ◌<◌, ◌≤◌, Bool, true, false, cond, nat_eq, nat_lt, min, List, [], ◌∷◌, ◌++◌, length, take, drop, set, get_or, Option, Some, None, is_some, unwrap_or, refl, sym, ◌∙◌, ap, subst, arith, inl, inr, true≢false, length-append, length-set}
use Rattle.std.proofs.lemmas.Bool.{cases_Bool, cases_lt, lt-ltb, le-ltb, cond-true, cond-false, and_parts, eqb-true}
use Rattle.std.proofs.lemmas.List.{drop-drop, drop-take, length-take, length-take-le, take_all, length-drop, take_more_set}
use Rattle.std.proofs.Math.Seq.{take-length, drop-append_seam}
use Rattle.tcp_waiting.specs.declared.arrival.Arrival as origin
use Rattle.tcp_waiting.specs.Numbers.{onward}
use Rattle.tcp_waiting.specs.Payload.{Payload, payload, without_first}
use Rattle.tcp_flow.specs.declared.tail.Tail.{Tail}
use Rattle.tcp_flow.specs.Flow.{Flow, Reader, Passes, OfCapture, lives, with_event, closed_at_fault, delivered, started, begun_in_payload, all_delivered, joined_to_tail, looked_through, stream_begin_in, may_be_header, is_header_beginning, first_five, cut_up, octets_of, parts_of, tail_of, lengthened, is_continued_by, tail_continued_by}
use Rattle.tcp_flow.specs.Laws.{StandFrom, total, IsTailOf}

-- ---- What single steps keep.

pub all_delivered_by : (F : Reader) (I : Flow → Type 0) → ((g : Flow) (p : Payload) → I g →
    I (delivered F g p))
    → (f : Flow) (a : origin.Arrival) (xss : List (List ℕ)) → I f → I (all_delivered F f a xss)
unfolding all_delivered
all_delivered_by F I k f a [] i = i
all_delivered_by F I k f a (xs ∷ xss) i =
    let d : Flow = delivered F f (payload f.id f.next xs a) in
    elim (lives f.live f.waits) as (λ (b : Bool). I (cond b (all_delivered F d a xss) f)) [
      | true ↦ all_delivered_by F I k d a xss (k f (payload f.id f.next xs a) i)
      | false ↦ i
    ]

-- a flow after octets were looked through in vain, with the tail that it then has
abbrev pub looked_in_vain : (flow : Flow) (tail : Option Tail) (octets : List ℕ) → Flow
looked_in_vain f t xs = with_event (record f { tail = t }) (OfCapture (Passes xs))

begun_by : (F : Reader) (I : Flow → Type 0) → ((g : Flow) (p : Payload) → I g →
    I (delivered F g p))
    → ((g : Flow) (n : ℕ) → I g → I (started g n))
    → ((g : Flow) (t : Option Tail) (xs : List ℕ) → I g → I (looked_in_vain g t xs))
    → (f : Flow) (p : Payload) (r : Option ℕ) → I f → I (begun_in_payload F f p r)
unfolding begun_in_payload
begun_by F I k s v f p None i = search (arith, cond)
begun_by F I k s v f p (Some n) i = search (arith)

pub looked_by : (F : Reader) (I : Flow → Type 0) → ((g : Flow) (p : Payload) → I g →
    I (delivered F g p))
    → ((g : Flow) (n : ℕ) → I g → I (started g n))
    → ((g : Flow) (t : Option Tail) (xs : List ℕ) → I g → I (looked_in_vain g t xs))
    → (f : Flow) (p : Payload) (o : Option Tail) → I f → I (looked_through F f p o)
unfolding looked_through joined_to_tail
looked_by F I k s v f p None i = begun_by F I k s v f p (stream_begin_in p.octets) i
looked_by F I k s v f p (Some t) i =
    let all : Flow =
    all_delivered F (started f t.number) p.arrival (parts_of t ++ p.octets ∷ []) in
    let more : Flow =
    looked_in_vain f (Some (lengthened t (length p.octets))) (octets_of t ++ p.octets) in
    elim (nat_lt (t.octets + length p.octets) 6) as (λ (b : Bool). I (cond b more all)) [
      | true ↦ v f (Some (lengthened t (length p.octets))) (octets_of t ++ p.octets) i
      | false ↦ all_delivered_by F I k (started f t.number) p.arrival
          (parts_of t ++ p.octets ∷ []) (s f t.number i)
    ]

-- ---- The octets of a tail.

front_by : (ys : List ℕ) → get_or ys 0 71 ≡ 71 → get_or ys 1 73 ≡ 73 → get_or ys 2 79 ≡ 79 →
    get_or ys 3 80 ≡ 80 → get_or ys 4 1 ≡ 1 → length ys ≤ 5 → ys ≡ take (length ys) first_five
front_by [] a b c d e l = refl
front_by (u ∷ []) a b c d e l = rw a refl
front_by (u ∷ v ∷ []) a b c d e l = rw (a, b) refl
front_by (u ∷ v ∷ w ∷ []) a b c d e l = rw (a, b, c) refl
front_by (u ∷ v ∷ w ∷ x ∷ []) a b c d e l = rw (a, b, c, d) refl
front_by (u ∷ v ∷ w ∷ x ∷ y ∷ []) a b c d e l = rw (a, b, c, d, e) refl
front_by (u ∷ v ∷ w ∷ x ∷ y ∷ z ∷ zs) a b c d e l = absurd (omega (arith, l))

-- octets that begin as the six octets do, and are at most five, are the first of them
pub front_is : (ys : List ℕ) → may_be_header ys ≡ true → length ys ≤ 5 →
    ys ≡ take (length ys) first_five
front_is ys h l = search (arith, get_or, front_by)

pub onward_small : (n k : ℕ) → onward n k < 2 ^ 32
onward_small n k = omega arith

total_more : (ns : List ℕ) (k : ℕ) → total (ns ++ k ∷ []) ≡ total ns + k
unfolding total
total_more [] k = omega arith
total_more (n ∷ ns) k = omega (arith, total_more ns k)

-- after one more part
pub cut_more : (xs ns : List ℕ) (k : ℕ) →
    cut_up xs (ns ++ k ∷ []) ≡ cut_up xs ns ++ take k (drop (total ns) xs) ∷ []
unfolding cut_up total
cut_more xs [] k = refl
cut_more xs (n ∷ ns) k = search (arith, take, drop, drop-drop, cut_more (drop n xs) ns k)

pub stand_more : (P : ℕ → List ℕ → Type 0) (n : ℕ) (xs ns ys : List ℕ) → n < 2 ^ 32 →
    total ns ≤ length xs → StandFrom P n (cut_up xs ns) → P (onward n (total ns)) ys →
    StandFrom P n (cut_up xs ns ++ ys ∷ [])
unfolding cut_up total StandFrom
stand_more P n xs [] ys small l s p = search (arith)
stand_more P n xs (m ∷ ns) ys small l s p =
    let long : length (take m xs) ≡ m = omega (arith, length-take m xs, l) in
    let e : onward n (m + total ns) ≡ onward (onward n (length (take m xs))) (total ns) =
    omega (arith, long) in (
      s.0,
      stand_more P (onward n (length (take m xs))) (drop m xs) ns ys
          (onward_small n (length (take m xs))) (omega (arith, length-drop m xs, l)) s.1
          (subst (λ (k : ℕ). P k ys) e p),
    )

-- ---- The octets of each payload are delivered.

pub all_none : (F : Reader) (f : Flow) (a : origin.Arrival) (xs ks : List ℕ) →
    nat_eq (length ks) 0 ≡ true → all_delivered F f a (cut_up xs ks) ≡ f
unfolding cut_up all_delivered
all_none F f a xs [] e = refl
all_none F f a xs (k ∷ ks) e = search (arith, eqb-true)

pub all_dead : (F : Reader) (f : Flow) (a : origin.Arrival) (xss : List (List ℕ)) →
    lives f.live f.waits ≡ false → all_delivered F f a xss ≡ f
unfolding all_delivered
all_dead F f a [] e = refl
all_dead F f a (xs ∷ xss) e = search (arith, cond-false)

pub all_live : (F : Reader) (f : Flow) (a : origin.Arrival) (xs : List ℕ) (xss : List (List ℕ)) →
    lives f.live f.waits ≡ true → all_delivered F f a (xs ∷ xss)
    ≡ all_delivered F (delivered F f (payload f.id f.next xs a)) a xss
unfolding all_delivered
all_live F f a xs xss e = search (arith, cond-true)

-- parts of these lengths, the first one by itself
pub cut_first : (xs ks : List ℕ) → nat_eq (length ks) 0 ≡ false →
    cut_up xs ks ≡ take (get_or ks 0 0) xs ∷ cut_up (drop (get_or ks 0 0) xs) (drop 1 ks)
unfolding cut_up
cut_first xs [] e = absurd (true≢false e)
cut_first xs (k ∷ ks) e = refl

pub all_more : (F : Reader) (f : Flow) (a : origin.Arrival) (xss yss : List (List ℕ)) →
    all_delivered F f a (xss ++ yss) ≡ all_delivered F (all_delivered F f a xss) a yss
unfolding all_delivered
all_more F f a [] yss = refl
all_more F f a (xs ∷ xss) yss =
    elim (cases_Bool (lives f.live f.waits)) [
      | inl e ↦ (let d : Flow = delivered F f (payload f.id f.next xs a) in
          all_live F f a xs (xss ++ yss) e ∙ all_more F d a xss yss
          ∙ sym (ap (λ (g : Flow). all_delivered F g a yss) (all_live F f a xs xss e)))
      | inr e ↦ all_dead F f a (xs ∷ xss ++ yss) e
          ∙ sym (ap (λ (g : Flow). all_delivered F g a yss) (all_dead F f a (xs ∷ xss) e)
          ∙ all_dead F f a yss e)
    ]

pub taken_up : (a m : ℕ) (xs : List ℕ) → m ≡ min a (length xs) → take m xs ≡ take a xs
taken_up a m xs e = search (arith, cases_lt, take, take-length, take_all)

-- the tail that octets go on from
pub before_some : (o : Option Tail) (t : Tail) (n : ℕ) (xs : List ℕ) → o ≡ Some t →
    is_continued_by t n xs ≡ true → tail_continued_by o n xs ≡ Some t
unfolding tail_continued_by
before_some o t n xs e g = search (arith, cond-true)

pub before_other : (o : Option Tail) (t : Tail) (n : ℕ) (xs : List ℕ) → o ≡ Some t →
    is_continued_by t n xs ≡ false → tail_continued_by o n xs ≡ None
unfolding tail_continued_by
before_other o t n xs e g = search (arith, cond-false)

pub before_none : (o : Option Tail) (n : ℕ) (xs : List ℕ) → o ≡ None →
    tail_continued_by o n xs ≡ None
unfolding tail_continued_by
before_none o n xs e = search (arith)

none_some : {X : Type 0} (t : X) → ◌≡◌ {A = Option X} None (Some t) → ⊥
none_some t e = true≢false (sym (ap is_some e))

pub some_same : {X : Type 0} (x y : X) → Some x ≡ Some y → x ≡ y
some_same {X = X} x y e = ap (λ (o : Option X). unwrap_or o x) e

pub before_is : (o : Option Tail) (t : Tail) (n : ℕ) (xs : List ℕ) →
    tail_continued_by o n xs ≡ Some t → (o ≡ Some t) × (is_continued_by t n xs ≡ true)
unfolding tail_continued_by
before_is None t n xs e = absurd (none_some t e)
before_is (Some u) t n xs e = search (
  arith,
  cases_Bool,
  some_same,
  cond-true,
  none_some,
  cond-false,
)

-- a tail and the octets that go on from it are the first of the six octets, if there are at most
-- five
pub together : (t : Tail) (n : ℕ) (xs : List ℕ) → is_continued_by t n xs ≡ true →
    t.octets + length xs ≤ 5 → octets_of t ++ xs ≡ take (t.octets + length xs) first_five
together t n xs g l =
    let front : may_be_header (octets_of t ++ xs) ≡ true =
    (and_parts (nat_eq (onward t.number t.octets) n) (may_be_header (octets_of t ++ xs)) g).1 in
    let long : length (octets_of t ++ xs) ≡ t.octets + length xs =
    omega (arith, length-append (octets_of t) xs, length-take t.octets first_five, l) in
    front_is (octets_of t ++ xs) front (omega (arith, long, l))
    ∙ ap (λ (k : ℕ). take k first_five) long

-- ---- Octets that are looked through alone.

abbrev tail_after_vain : (flow : Flow) (payload : Payload) (is_beginning : Bool) → Option Tail
tail_after_vain f p b = cond b (Some (tail_of p.number (length p.octets))) f.tail

pub looked_vain : (F : Reader) (f : Flow) (p : Payload) (o : Option Tail) (b : Bool) → o ≡ None →
    stream_begin_in p.octets ≡ None → is_header_beginning p.octets ≡ b →
    looked_through F f p o ≡ looked_in_vain f (tail_after_vain f p b) p.octets
unfolding looked_through begun_in_payload
looked_vain F f p o b e n is = search (arith)

pub looked_begun : (F : Reader) (f : Flow) (p : Payload) (o : Option Tail) (i : ℕ) → o ≡ None →
    stream_begin_in p.octets ≡ Some i → looked_through F f p o
    ≡ delivered F (started f (onward p.number i)) (without_first i p)
unfolding looked_through begun_in_payload
looked_begun F f p o i e n = search (arith)

-- ---- Octets that go on from a tail.

pub rejoined_begun : (F : Reader) (f : Flow) (p : Payload) (t : Tail) →
    nat_lt (t.octets + length p.octets) 6 ≡ false → joined_to_tail F f p t
    ≡ all_delivered F (all_delivered F (started f t.number) p.arrival (parts_of t)) p.arrival
    (p.octets ∷ [])
unfolding joined_to_tail
rejoined_begun F f p t e = search (arith, cond-false, nat_lt, all_more)

pub rejoined_vain : (F : Reader) (f : Flow) (p : Payload) (t : Tail) →
    nat_lt (t.octets + length p.octets) 6 ≡ true → joined_to_tail F f p t
    ≡ looked_in_vain f (Some (lengthened t (length p.octets))) (octets_of t ++ p.octets)
unfolding joined_to_tail
rejoined_vain F f p t e = search (arith, cond-true, nat_lt)

pub last_live : (F : Reader) (f : Flow) (a : origin.Arrival) (xs : List ℕ) →
    lives f.live f.waits ≡ true → all_delivered F f a (xs ∷ [])
    ≡ delivered F f (payload f.id f.next xs a)
unfolding all_delivered
last_live F f a xs e = all_live F f a xs [] e

-- ---- What is true of each payload of a flow's tail.

parts_new : (xs : List ℕ) → is_header_beginning xs ≡ true →
    (length xs ≤ 5) × (xs ≡ take (length xs) first_five)
parts_new xs h = search (arith, front_is)

pub tail_new : (P : ℕ → List ℕ → Type 0) (n : ℕ) (xs : List ℕ) → n < 2 ^ 32 →
    is_header_beginning xs ≡ true → P n xs → IsTailOf P (tail_of n (length xs))
unfolding total cut_up StandFrom
tail_new P n xs small h p = search (arith, parts_new)

longer : (P : ℕ → List ℕ → Type 0) (t : Tail) (n : ℕ) (xs : List ℕ) → IsTailOf P t →
    is_continued_by t n xs ≡ true → t.octets + length xs ≤ 5 → t.count < 5 → P n xs →
    IsTailOf P (record t {
      octets = t.octets + length xs;
      count = t.count + 1;
      parts = set t.parts t.count (length xs);
    })
longer P t n xs h g l few p =
    let k : ℕ = length xs in
    let ks : List ℕ = take t.count t.parts in
    let more : take (t.count + 1) (set t.parts t.count k) ≡ ks ++ k ∷ [] =
    take_more_set t.parts t.count k (omega (arith, h.room, few)) in
    let ends : onward t.number t.octets ≡ n =
    eqb-true (onward t.number t.octets) n
    (and_parts (nat_eq (onward t.number t.octets) n) (may_be_header (octets_of t ++ xs)) g).0 in
    let part : xs ≡ take k (drop (total ks) first_five) =
    sym (drop-append_seam (octets_of t) xs)
    ∙ ap (λ (ys : List ℕ). drop (length (octets_of t)) ys) (together t n xs g l)
    ∙ ap (λ (m : ℕ). drop m (take (t.octets + k) first_five))
    (length-take-le t.octets first_five h.most)
    ∙ drop-take t.octets k first_five
    ∙ ap (λ (m : ℕ). take k (drop m first_five)) (sym h.all) in
    record {
      number = h.number;
      most = l;
      room = length-set t.parts t.count k ∙ h.room;
      all = ap total more ∙ total_more ks k ∙ ap (λ (m : ℕ). m + k) h.all;
      stand = subst (StandFrom P t.number)
          (sym (ap (cut_up first_five) more ∙ cut_more first_five ks k
          ∙ ap (λ (ys : List ℕ). cut_up first_five ks ++ ys ∷ []) (sym part)))
          (stand_more P t.number first_five ks xs h.number (omega (arith, h.all, h.most)) h.stand
          (subst (λ (m : ℕ). P m xs) (sym ends ∙ ap (onward t.number) (sym h.all)) p));
    }

pub tail_longer : (P : ℕ → List ℕ → Type 0) (t : Tail) (n : ℕ) (xs : List ℕ) → IsTailOf P t →
    is_continued_by t n xs ≡ true → t.octets + length xs ≤ 5 → P n xs →
    IsTailOf P (lengthened t (length xs))
tail_longer P t n xs h g l p =
    let more : Tail = record t {
      octets = t.octets + length xs;
      count = t.count + 1;
      parts = set t.parts t.count (length xs);
    } in
    elim (cases_lt t.count 5) [
      | inl few ↦ subst (IsTailOf P)
          (sym (cond-true (nat_lt t.count 5) more t (lt-ltb t.count 5 few)))
          (longer P t n xs h g l few p)
      | inr many ↦ subst (IsTailOf P)
          (sym (cond-false (nat_lt t.count 5) more t (le-ltb t.count 5 many))) h
    ]

-- P is true of the payloads of a tail and of the one that goes on from it
together_stand : (P : ℕ → List ℕ → Type 0) (t : Tail) (n : ℕ) (xs : List ℕ) → IsTailOf P t →
    is_continued_by t n xs ≡ true → P n xs → StandFrom P t.number (parts_of t ++ xs ∷ [])
together_stand P t n xs h g p = search (arith, eqb-true, and_parts, nat_eq, stand_more, take)

-- another relation that follows
stand_map : (P Q : ℕ → List ℕ → Type 0) (n : ℕ) (xss : List (List ℕ)) →
    ((m : ℕ) (xs : List ℕ) → P m xs → Q m xs) → StandFrom P n xss → StandFrom Q n xss
unfolding StandFrom
stand_map P Q n [] k h = tt
stand_map P Q n (xs ∷ xss) k h = (k n xs h.0, stand_map P Q (onward n (length xs)) xss k h.1)

pub tail_map : (P Q : ℕ → List ℕ → Type 0) (t : Tail) →
    ((m : ℕ) (xs : List ℕ) → P m xs → Q m xs) → IsTailOf P t → IsTailOf Q t
tail_map P Q t k h = search (arith, stand_map)

checked_next : (f : Flow) (r : Option ℕ) → (closed_at_fault f r).next ≡ f.next
unfolding closed_at_fault with_event
checked_next f None = refl
checked_next f (Some at) = refl

delivered_next : (F : Reader) (f : Flow) (p : Payload) →
    (delivered F f p).next ≡ onward p.number (length p.octets)
unfolding delivered with_event
delivered_next F f p = search (arith, checked_next)

checked_id : (f : Flow) (r : Option ℕ) → (closed_at_fault f r).id ≡ f.id
unfolding closed_at_fault with_event
checked_id f None = refl
checked_id f (Some at) = refl

pub delivered_id : (F : Reader) (f : Flow) (p : Payload) → (delivered F f p).id ≡ f.id
unfolding delivered with_event
delivered_id F f p = search (arith, checked_id)

-- what looking for a stream keeps of a flow (I), if P is true of each payload of its tail and of
-- those that it takes
pub record LookingKeeps (F : Reader) (P : ℕ → List ℕ → Type 0) (I : Flow → Type 0) : Type 0 where
  pub delivers : (g : Flow) (p : Payload) → I g → lives g.live g.waits ≡ true → p.number ≡ g.next →
      P p.number p.octets → I (delivered F g p)
  pub starts : (g : Flow) (n : ℕ) → n < 2 ^ 32 → is_some g.live ≡ false → I g → I (started g n)
  pub passes : (g : Flow) (t : Option Tail) (xs : List ℕ) →
      ((u : Tail) → t ≡ Some u → IsTailOf P u) → I g → I (looked_in_vain g t xs)
  pub tail : (g : Flow) (t : Tail) → I g → g.tail ≡ Some t → IsTailOf P t
  pub skips : (n i : ℕ) (xs : List ℕ) → P n xs → P (onward n i) (drop i xs)
  pub small : (n : ℕ) (xs : List ℕ) → P n xs → n < 2 ^ 32

module _ (F : Reader) (P : ℕ → List ℕ → Type 0) (I : Flow → Type 0) (k : LookingKeeps F P I) where
  all_delivered_looks : (f : Flow) (a : origin.Arrival) (xss : List (List ℕ)) →
      StandFrom P f.next xss → I f → I (all_delivered F f a xss)
  unfolding all_delivered StandFrom
  all_delivered_looks f a [] h i = i
  all_delivered_looks f a (xs ∷ xss) h i =
      let p : Payload = payload f.id f.next xs a in
      let d : Flow = delivered F f p in
      elim (cases_Bool (lives f.live f.waits)) [
        | inl e ↦ subst I (sym (all_live F f a xs xss e))
            (all_delivered_looks d a xss
            (subst (λ (n : ℕ). StandFrom P n xss) (sym (delivered_next F f p)) h.1)
            (k.delivers f p i e refl h.0))
        | inr e ↦ subst I (sym (all_dead F f a (xs ∷ xss) e)) i
      ]

  begun_looks : (f : Flow) (p : Payload) (r : Option ℕ) → is_some f.live ≡ false →
      P p.number p.octets → I f → I (begun_in_payload F f p r)
  unfolding begun_in_payload with_event
  begun_looks f p None dead part i =
      let new : Option Tail = Some (tail_of p.number (length p.octets)) in
      let t : Option Tail = cond (is_header_beginning p.octets) new f.tail in
      k.passes f t p.octets (λ u e.
      elim (cases_Bool (is_header_beginning p.octets)) [
        | inl b ↦ subst (IsTailOf P) (some_same (tail_of p.number (length p.octets)) u
            (sym (cond-true (is_header_beginning p.octets) new f.tail b) ∙ e))
            (tail_new P p.number p.octets (k.small p.number p.octets part) b part)
        | inr b ↦ k.tail f u i (sym (cond-false (is_header_beginning p.octets) new f.tail b) ∙ e)
      ]) i
  begun_looks f p (Some n) dead part i = search (arith, onward_small)

  rejoined_looks : (f : Flow) (p : Payload) (t : Tail) → is_some f.live ≡ false →
      is_continued_by t p.number p.octets ≡ true → IsTailOf P t → P p.number p.octets → I f →
      I (joined_to_tail F f p t)
  unfolding joined_to_tail with_event
  rejoined_looks f p t dead on tail part i =
      let xs : List ℕ = p.octets in
      let more : Flow = looked_in_vain f (Some (lengthened t (length xs))) (octets_of t ++ xs) in
      let all : Flow = all_delivered F (started f t.number) p.arrival (parts_of t ++ xs ∷ []) in
      elim (cases_lt (t.octets + length xs) 6) [
        | inl few ↦ subst I (sym (cond-true (nat_lt (t.octets + length xs) 6) more all
            (lt-ltb (t.octets + length xs) 6 few)))
            (k.passes f (Some (lengthened t (length xs))) (octets_of t ++ xs)
            (λ u e. subst (IsTailOf P) (some_same (lengthened t (length xs)) u e)
            (tail_longer P t p.number xs tail on (omega (arith, few)) part)) i)
        | inr many ↦ subst I (sym (cond-false (nat_lt (t.octets + length xs) 6) more all
            (le-ltb (t.octets + length xs) 6 many)))
            (all_delivered_looks (started f t.number) p.arrival (parts_of t ++ xs ∷ [])
            (together_stand P t p.number xs tail on part)
            (k.starts f t.number tail.number dead i))
      ]

  pub looked_keeps : (f : Flow) (p : Payload) → is_some f.live ≡ false → P p.number p.octets →
      I f → I (looked_through F f p (tail_continued_by f.tail p.number p.octets))
  unfolding looked_through
  looked_keeps f p dead part i = search (arith, begun_looks, before_is, rejoined_looks)
