-- What the TypeCode of an any tells, as signals and as what they stand for.
use Rattle.std.proofs.lemmas.Slice.Eq.{bytes_eq-Decides}
use Rattle.std.proofs.Common.{◌≡◌, ℕ, zero, suc, ◌+◌, ◌-◌, ◌<◌, ◌≤◌, Bool, true, false, cond, nat_lt, not, ◌&&◌, take, drop, nat_le, List, [], ◌∷◌, ◌++◌, length, map, get_or, Option, Some, None, refl, sym, ap, ◌∙◌, ◌⊎◌, inl, inr, subst, arith}
use Rattle.std.specs.Prelude.{position, slice_index_or}
use Rattle.std.specs.Str.{bytes_eq}
use Rattle.std.specs.List.{All}
use Rattle.std.specs.Option.{option_map}
use Rattle.std.proofs.Math.Seq.{take-length}
use Rattle.std.proofs.lemmas.Bool.{cases_lt, false≢true, ltb-true}
use Rattle.std.proofs.lemmas.List.{get_or_past}
use Rattle.std.proofs.lemmas.List.Quantifiers.{position-Some}
use Rattle.giop_cdr.specs.declared.prim.Primitive.TheVariants.{Octet}
use Rattle.giop_sig.specs.declared.types.Shape.{Shape}
use Rattle.giop_sig.specs.declared.types.Shape.TheVariants as shapes
use Rattle.giop_sig.specs.declared.types.Sign.{Sign as Heard}
use Rattle.giop_sig.specs.declared.types.Signal.{Signal}
use Rattle.giop_sig.specs.declared.types.TypeId.{TypeId}
use Rattle.giop_sig.specs.declared.types.Signal.TheVariants as signals
use Rattle.giop_sig.specs.HeaderTypes.{IsIdentity, IsTable}
use Rattle.giop_sig.specs.Heard.{inferred_after_bound, inferred_after_count, inferred_if_found, front_at, awaited_front, inferred_after, inferred_by_id_part, inferred_by_id, next_sequence, selects, inferred_after_piece}
use Rattle.giop_sig.proofs.Tables.{shape_at}
use Rattle.giop_sig.specs.Hearings.{infers_nothing, inference_in, sign_view, signal_after, signal_by_node, signal_of, inferred_of_signal}
use Rattle.giop_sig.specs.Table.{Node, Identity, Table, identified_in, identity_type_at, no_identity, node_at, seen, shape_of, takes_octet}
use Rattle.giop_sig.specs.Table as nodes
use Rattle.giop_sig.specs.Trees.{PartLimits, any_inference, limits_in_room, depth_in, has_wide_text, can_be_value, tree_of_node, node_in_room, octet_type, tree_at}
use Rattle.giop_sig.specs.Types.{Sign, MarkedNumber, Counted, Spelt, InferredType, Untold, Awaits, Offers, Is, Empty, Unknown, Then, Stops, TypeInference, Ty, sequel, shape_in}

-- what was told is what its signal stands for
told_again : (told : InferredType) → inferred_of_signal (signal_of told) ≡ told
told_again Untold = refl
told_again (Awaits n) = refl
told_again (Offers i) = refl
told_again (Is i) = refl
told_again Empty = refl
told_again Unknown = refl

-- the signal of what an element of a list tells
pub listed_signal : (xs : List InferredType) (k : ℕ) (d : Signal) → k < length xs
    → get_or (map signal_of xs) k d ≡ signal_of (get_or xs k Unknown)
listed_signal [] k d lt = absurd (omega arith)
listed_signal (x ∷ xs) zero d lt = refl
listed_signal (x ∷ xs) (suc k) d lt = listed_signal xs k d (omega arith)

-- ---- a type of the table

-- how the tree of a node hears
hearing_grown : (h : PartLimits) (f : ℕ → Ty) (room : ℕ) (code : ℕ) (node : Node)
    → node ≡ nodes.any code → inference_in (tree_of_node h f (node_in_room room node)) ≡ h.hearing
hearing_grown h f room code node e =
    subst (λ n. inference_in (tree_of_node h f (node_in_room room n)) ≡ h.hearing) (sym e) refl

pub any_hears : (t : Table) (n i code : ℕ) (told : InferredType) (sign : Sign)
    → node_at t i ≡ nodes.any code
    → (inference_in (tree_at t n i)).inferred_after told sign ≡ inferred_after t told sign
unfolding tree_at
any_hears t zero i code told sign e =
    ap (λ (h : TypeInference). h.inferred_after told sign)
    (hearing_grown (limits_in_room t 0) (λ k. octet_type) 0 code (node_at t i) e)
any_hears t (suc n) i code told sign e =
    ap (λ (h : TypeInference). h.inferred_after told sign)
    (hearing_grown (limits_in_room t n) (tree_at t n) n code (node_at t i) e)

deaf_grown : (h : PartLimits) (f : ℕ → Ty) (room : ℕ) (node : Node)
    → (shape_of node ≡ shapes.Led → ⊥) → inference_in (tree_of_node h f (node_in_room room node))
    ≡ infers_nothing
deaf_grown h f room (nodes.any code) other = absurd (other refl)
deaf_grown h f room (nodes.prim p) other = refl
deaf_grown h f room _ other = refl

pub deaf_at : (t : Table) (n i : ℕ) → (shape_of (node_at t i) ≡ shapes.Led → ⊥)
    → inference_in (tree_at t n i) ≡ infers_nothing
unfolding tree_at
deaf_at t zero i other =
    deaf_grown (limits_in_room t 0) (λ k. octet_type) 0 (node_at t i) other
deaf_at t (suc n) i other = deaf_grown (limits_in_room t n) (tree_at t n) n (node_at t i) other

-- only an any begins with a part that tells what comes after it
pub led_any : (node : Node) → shape_of node ≡ shapes.Led → (code : ℕ) × (node ≡ nodes.any code)
led_any (nodes.any code) e = (code, refl)
led_any (nodes.prim p) e = absurd cc
led_any (nodes.enumeration names) e = absurd cc
led_any (nodes.text bound) e = absurd cc
led_any (nodes.octets bound) e = absurd cc
led_any nodes.wide_text e = absurd cc
led_any nodes.wide_char e = absurd cc
led_any (nodes.members parts) e = absurd cc
led_any (nodes.union switch cases otherwise) e = absurd cc
led_any (nodes.sequence bound element) e = absurd cc
led_any (nodes.array count element) e = absurd cc
led_any (nodes.encapsulation held) e = absurd cc
led_any (nodes.tagged special tag inner other) e = absurd cc
led_any (nodes.marked mark) e = absurd cc
led_any (nodes.announced index) e = absurd cc
led_any (nodes.recursive bound element) e = absurd cc
led_any (nodes.typecode wide kind cases) e = absurd cc

-- ---- the same in each version

identity_seen : (n : Bool) (t : Table) (octets : List ℕ)
    → inferred_by_id (seen n t) octets ≡ inferred_by_id t octets
identity_seen n t [] = refl
identity_seen n t (kind ∷ id) = found_seen (identified_in t id)
  where
    found_seen : (o : Option TypeId) → inferred_if_found (seen n t) kind o
        ≡ inferred_if_found t kind o
    found_seen None = refl
    found_seen (Some i) = refl

id_seen : (n : Bool) (t : Table) (octets : List ℕ) (more : Bool)
    → inferred_by_id_part (seen n t) octets more ≡ inferred_by_id_part t octets more
id_seen n t octets true = refl
id_seen n t octets false = identity_seen n t octets

spelt_seen : (n : Bool) (t : Table) (told : InferredType) (octets : List ℕ) (more : Bool)
    → inferred_after_piece (seen n t) told octets more ≡ inferred_after_piece t told octets more
spelt_seen n t (Awaits k) octets more = id_seen n t (front_at t k ++ octets) more
spelt_seen n t _ octets more = refl

bound_seen : (n : Bool) (t : Table) (told : InferredType) → inferred_after_bound (seen n t) told
    ≡ inferred_after_bound t told
bound_seen n t (Is i) = refl
bound_seen n t _ = refl

counted_seen : (n : Bool) (t : Table) (told : InferredType) (k : ℕ)
    → inferred_after_count (seen n t) told k ≡ inferred_after_count t told k
counted_seen n t (Offers i) k = refl
counted_seen n t _ k = refl

-- what has been told after a sign
hears_seen : (n : Bool) (t : Table) (told : InferredType) (sign : Sign)
    → inferred_after (seen n t) told sign ≡ inferred_after t told sign
hears_seen n t told (MarkedNumber zero k) = refl
hears_seen n t told (MarkedNumber (suc zero) k) = bound_seen n t told
hears_seen n t told (MarkedNumber (suc (suc mark)) k) = refl
hears_seen n t told (Counted k) = counted_seen n t told k
hears_seen n t told (Spelt octets more) = spelt_seen n t told octets more

-- what a table tells is the same for the table as messages see it
pub seen_hears : (n : Bool) (t u : Table) (told : InferredType) (sign : Sign) (result : Signal)
    → seen n t ≡ u → result ≡ signal_of (inferred_after t told sign)
    → result ≡ signal_of (inferred_after u told sign)
seen_hears n t u told sign result view is =
    is ∙ ap signal_of (sym (hears_seen n t told sign))
    ∙ ap (λ v. signal_of (inferred_after v told sign)) view

-- ---- what has been told in an any, and what comes next

pub heard_any : (t : Table) (i n : ℕ) (told result : Signal) (sign : Heard)
    → shape_of (node_at t i) ≡ shapes.Led
    → result ≡ signal_of (inferred_after t (inferred_of_signal told) (sign_view sign))
    → inferred_of_signal result ≡ (inference_in (tree_at t n i)).inferred_after
    (inferred_of_signal told) (sign_view sign)
heard_any t i n told result sign led is =
    let any = led_any (node_at t i) led in
    ap inferred_of_signal is
    ∙ told_again (inferred_after t (inferred_of_signal told) (sign_view sign))
    ∙ sym (any_hears t n i any.0 (inferred_of_signal told) (sign_view sign) any.1)

pub heard_after : (t : Table) (i : ℕ) (told result : Signal) (sign : Heard)
    → shape_of (node_at t i) ≡ shapes.Led
    → result ≡ signal_of (inferred_after t (inferred_of_signal told) (sign_view sign))
    → result ≡ signal_after t i told sign
heard_after t i told result sign led is =
    is ∙ sym (ap (λ node. signal_by_node t node told (sign_view sign))
    (led_any (node_at t i) led).1)

none_by : (t : Table) (node : Node) (told : Signal) (sign : Sign)
    → (shape_of node ≡ shapes.Led → ⊥) → told ≡ signal_by_node t node told sign
none_by t (nodes.any code) told sign other = absurd (other refl)
none_by t _ told sign other = refl

pub after_none : (t : Table) (i : ℕ) (told : Signal) (sign : Heard)
    → (shape_of (node_at t i) ≡ shapes.Led → ⊥) → told ≡ signal_after t i told sign
after_none t i told sign other = none_by t (node_at t i) told (sign_view sign) other

pub heard_none : (t : Table) (i n : ℕ) (told : Signal) (sign : Heard)
    → (shape_of (node_at t i) ≡ shapes.Led → ⊥)
    → inferred_of_signal told ≡ (inference_in (tree_at t n i)).inferred_after
    (inferred_of_signal told) (sign_view sign)
heard_none t i n told sign other =
    ap (λ (h : TypeInference). h.inferred_after (inferred_of_signal told) (sign_view sign))
    (sym (deaf_at t n i other))

pub follow_any : (t : Table) (i room : ℕ) → shape_of (node_at t i) ≡ shapes.Led
    → inference_in (tree_at t (suc room) i) ≡ any_inference t room
unfolding tree_at
follow_any t i room led =
    let any = led_any (node_at t i) led in
    hearing_grown (limits_in_room t room) (tree_at t room) room any.0 (node_at t i) any.1

-- what comes next in an any is a type of the table that can follow there
selected_follows : (b : ℕ → Bool) (told : InferredType) (i : ℕ) → selects b told ≡ Then i → b i
    ≡ true
selected_follows b (Is j) i e = by_index (b j) refl e
  where
    by_index : (v : Bool) → b j ≡ v → cond v (Then j) Stops ≡ Then i → b i ≡ true
    by_index true is e = let same : j ≡ i = cc in subst (λ k. b k ≡ true) same is
    by_index false is e = absurd cc
selected_follows b Untold i e = absurd cc
selected_follows b (Awaits n) i e = absurd cc
selected_follows b (Offers j) i e = absurd cc
selected_follows b Empty i e = absurd cc
selected_follows b Unknown i e = absurd cc

pub sequel_follows : (t : Table) (room : ℕ) (told : InferredType) (i : ℕ)
    → sequel (any_inference t room) told ≡ Then i → can_be_value t room i ≡ true
sequel_follows t room Untold i e = absurd cc
sequel_follows t room (Is j) i e = selected_follows (can_be_value t room) (Is j) i e
sequel_follows t room (Awaits n) i e = absurd cc
sequel_follows t room (Offers j) i e = absurd cc
sequel_follows t room Empty i e = absurd cc
sequel_follows t room Unknown i e = absurd cc

pub follows_known : (t : Table) (room i : ℕ) → can_be_value t room i ≡ true → i < length t.types
follows_known t room i e = by_index (nat_lt i (length t.types)) refl e
  where
    by_index : (v : Bool) → nat_lt i (length t.types) ≡ v
        → v && takes_octet (node_at t i) && nat_le (depth_in t.types i) room
        && not (t.forbids_wide && has_wide_text t.types i) ≡ true
        → i < length t.types
    by_index true is e = ltb-true i (length t.types) is
    by_index false is e = absurd cc

-- the same in a tree
module _ (t : Table) (room id : ℕ) (led : shape_in (tree_at t (suc room) id) ≡ shapes.Led) where
  led_hearing : inference_in (tree_at t (suc room) id) ≡ any_inference t room
  led_hearing = follow_any t id room (sym (shape_at t (suc room) id) ∙ led)

  pub led_follows : (told : InferredType) (i : ℕ)
      → sequel (inference_in (tree_at t (suc room) id)) told ≡ Then i → can_be_value t room i ≡ true
  led_follows told i e =
      sequel_follows t room told i (ap (λ h. sequel h told) (sym led_hearing) ∙ e)

  pub follows_led : (i : ℕ) → can_be_value t room i ≡ true
      → sequel (inference_in (tree_at t (suc room) id)) (Is i) ≡ Then i
  follows_led i e =
      ap (λ h. sequel h (Is i)) led_hearing ∙ ap (λ b. cond b (Then i) Stops) e

-- ---- what the code finds

pub not_below : (a b : ℕ) → (a < b → false ≡ true) → b ≤ a
not_below a b never = by_index (cases_lt a b)
  where
    by_index : (a < b) ⊎ (b ≤ a) → b ≤ a
    by_index (inl lt) = absurd (false≢true (never lt))
    by_index (inr le) = le

-- no type comes after the last one
pub past_next : (t : Table) (i : ℕ) → length t.types ≤ i + 1
    → signals.Unknown ≡ signal_of (next_sequence t i)
past_next t i le =
    let e : node_at t (i + 1) ≡ nodes.prim Octet =
    get_or_past t.types (i + 1) (nodes.prim Octet) le in
    rw e refl

-- a repository id, taken apart into the octet of its kind and the octets after it
pub identity_parts : (t : Table) (octets : List ℕ) → 1 ≤ length octets
    → inferred_by_id t octets
    ≡ inferred_if_found t (get_or octets 0 0)
    (identified_in t (take (length octets - 1) (drop 1 octets)))
identity_parts t [] some = absurd (omega arith)
identity_parts t (kind ∷ id) some =
    let e : length (kind ∷ id) - 1 ≡ length id = omega arith in
    ap (λ xs. inferred_if_found t kind (identified_in t xs))
    (sym (ap (λ n. take n id) e ∙ take-length id))

-- no repository id and no front is this long

short_by : (octets : List ℕ) (es : List Identity) (k : ℕ) (types : List Node)
    → All (IsIdentity types) es
    → position (λ (e : Identity). bytes_eq octets e.repository) es ≡ Some k → length octets ≤ 128
short_by octets es k types all e =
    let at = position-Some (λ (e : Identity). bytes_eq octets e.repository) es k no_identity e in
    let same = (bytes_eq-Decides octets (get_or es k no_identity).repository).0 at.1 in
    let short = (all k no_identity at.0).short in
    omega (arith, ap length same, short)

no_id : (t : Table) (id : List ℕ) (o : Option ℕ) → IsTable t → 129 ≤ length id
    → position (λ (e : Identity). bytes_eq id e.repository) t.identities ≡ o
    → identified_in t id ≡ None
no_id t id None laws long e = ap (option_map (identity_type_at t)) e
no_id t id (Some k) laws long e =
    let short = short_by id t.identities k t.types laws.identities e in
    absurd (omega arith)

long_identity : (t : Table) (octets : List ℕ) → IsTable t → 130 ≤ length octets
    → inferred_by_id t octets ≡ Unknown
long_identity t [] laws long = refl
long_identity t (kind ∷ id) laws long =
    ap (inferred_if_found t kind) (no_id t id (position (λ (e : Identity). bytes_eq id e.repository)
    t.identities) laws (omega arith) refl)

long_front : (t : Table) (octets : List ℕ) (o : Option ℕ) → IsTable t → 130 ≤ length octets
    → position (bytes_eq octets) t.fronts ≡ o → awaited_front o ≡ Unknown
long_front t octets None laws long e = refl
long_front t octets (Some n) laws long e =
    let at = position-Some (bytes_eq octets) t.fronts n [] e in
    let same = (bytes_eq-Decides octets (slice_index_or t.fronts n [])).0 at.1 in
    let short = laws.anys.short n [] at.0 in
    absurd (omega (arith, short, ap length same))

pub too_long : (t : Table) (octets : List ℕ) (more : Bool) → IsTable t → 130 ≤ length octets
    → signals.Unknown ≡ signal_of (inferred_by_id_part t octets more)
too_long t octets true laws long =
    ap signal_of (sym (long_front t octets (position (bytes_eq octets) t.fronts) laws long refl))
too_long t octets false laws long = ap signal_of (sym (long_identity t octets laws long))

-- a front that has a number
pub longer_told : (t : Table) (octets : List ℕ) (n : ℕ)
    → Some n ≡ position (bytes_eq octets) t.fronts
    → signals.Awaits n ≡ signal_of (inferred_by_id_part t octets true)
longer_told t octets n is = ap (λ o. signal_of (awaited_front o)) is

-- ---- every type

led_or : (s : Shape) → (s ≡ shapes.Led) ⊎ (s ≡ shapes.Led → ⊥)
led_or shapes.Led = inl refl
led_or (shapes.Prim p) = inr (λ e. absurd cc)
led_or (shapes.Enumeration n) = inr (λ e. absurd cc)
led_or (shapes.Text bound) = inr (λ e. absurd cc)
led_or (shapes.Octets bound) = inr (λ e. absurd cc)
led_or shapes.WideText = inr (λ e. absurd cc)
led_or shapes.WideChar = inr (λ e. absurd cc)
led_or (shapes.Members n) = inr (λ e. absurd cc)
led_or (shapes.Union n) = inr (λ e. absurd cc)
led_or (shapes.Sequence bound) = inr (λ e. absurd cc)
led_or (shapes.Array n) = inr (λ e. absurd cc)
led_or shapes.Encapsulation = inr (λ e. absurd cc)
led_or (shapes.Recursive bound) = inr (λ e. absurd cc)
led_or shapes.Tagged = inr (λ e. absurd cc)
led_or (shapes.Marked mark) = inr (λ e. absurd cc)

after_by : (t : Table) (i n : ℕ) (told : Signal) (sign : Heard)
    → (shape_of (node_at t i) ≡ shapes.Led) ⊎ (shape_of (node_at t i) ≡ shapes.Led → ⊥)
    → inferred_of_signal (signal_after t i told sign)
    ≡ (inference_in (tree_at t n i)).inferred_after (inferred_of_signal told) (sign_view sign)
after_by t i n told sign (inl led) =
    let any = led_any (node_at t i) led in
    heard_any t i n told (signal_after t i told sign) sign led
    (ap (λ node. signal_by_node t node told (sign_view sign)) any.1)
after_by t i n told sign (inr other) =
    ap inferred_of_signal (sym (after_none t i told sign other)) ∙ heard_none t i n told sign other

-- after a sign, the signal stands for what has been told in its type
pub told_after_sign : (t : Table) (n i : ℕ) (told : Signal) (sign : Heard)
    → inferred_of_signal (signal_after t i told sign)
    ≡ (inference_in (tree_at t n i)).inferred_after (inferred_of_signal told) (sign_view sign)
told_after_sign t n i told sign = after_by t i n told sign (led_or (shape_of (node_at t i)))
