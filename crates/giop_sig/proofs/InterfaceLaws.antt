-- A table of interfaces is still one after an interface or a KEY was added. What is looked up in it
-- is what its lists have. And the interface of an object key.
use Rattle.std.proofs.Common.{◌≡◌, ◌⊎◌, inl, inr, ℕ, zero, suc, ◌+◌, ◌*◌, ◌/◌, ◌%◌, ◌<◌, ◌≤◌, Bool, true, false, cond, ◌||◌, ltb, eqb, nat_eq, List, [], ◌∷◌, ◌++◌, length, map, take, drop, get_or, Option, Some, None, refl, sym, ap, ◌∙◌, arith}
use Rattle.std.specs.Prelude.{slice_set, IfSome}
use Rattle.std.specs.List.{All, AllByRecursion, list_any, position, position_or_len}
use Rattle.std.specs.Map.{lookup}
use Rattle.std.specs.Option.{option_map, option_or}
use Rattle.std.specs.Str.{bytes_eq}
use Rattle.std.proofs.Math.Seq.{take-append_seam}
use Rattle.std.proofs.lemmas.Bool.{false≢true, cases_lt, ltb-true, ltb-false, eqb-true, eqb-false}
use Rattle.std.proofs.lemmas.List.{length-append, length-map, length-set, length-take-le, take-append-drop, map-append, get_or-set_same, get_or-set_other}
use Rattle.std.proofs.lemmas.List.Elements.{All-push}
use Rattle.std.proofs.lemmas.Slice.Eq.{bytes_eq-Decides}
use Rattle.arrayvec.specs.ArrayVec.{ArrayVec}
use Rattle.indexmap.specs.IndexMap.{insert_entry}
use Rattle.indexmap.specs.IndexSet.{insert_key}
use Rattle.giop_sig.specs.declared.types.InterfaceId.{InterfaceId}
use Rattle.giop_sig.specs.Table.{interface_id}
use Rattle.giop_sig.specs.Interfaces.{Interfaces, digit, hex, whole_text, front_text, of_text, number_of, with_interface, longest_front, of_key, IsInterfaceOf}
use Rattle.giop_sig.specs.InterfaceViews.{key_view, interfaces_view, IsKeyOf, AreInterfacesKept}
use Rattle.giop_sig.proofs.Added.{some_position, list_any-map, entry_last}
use Rattle.giop_sig.proofs.Finds.{position-map, not_there}
use Rattle.giop_sig.specs.ScopeViews.{same_key_octets}
use Rattle.giop_sig.proofs.ScopeLaws.{none_found, none_before}

-- ---- hexadecimal digits

pub hex_long : (bs : List ℕ) → length (hex bs) ≡ 2 * length bs
hex_long [] = refl
hex_long (b ∷ bs) = omega (arith, hex_long bs)

-- one more octet
pub hex_more : (bs : List ℕ) (b : ℕ)
    → (hex bs ++ digit (b / 16) ∷ []) ++ digit (b % 16) ∷ [] ≡ hex (bs ++ b ∷ [])
hex_more [] b = refl
hex_more (c ∷ bs) b = ap (λ ds. digit (c / 16) ∷ digit (c % 16) ∷ ds) (hex_more bs b)

pub front_long : (octets : List ℕ) → length (front_text octets) ≡ 2 * length octets + 1
front_long octets = omega (arith, hex_long octets, length-append (hex octets) (42 ∷ []))

-- ---- the names

abbrev items_of : (ks : List (ArrayVec ℕ)) → List (List ℕ)
items_of ks = map (λ (n : ArrayVec ℕ). n.items) ks

pub name_held : (i : Interfaces) (ks : List (ArrayVec ℕ)) (key : ArrayVec ℕ) (id : List ℕ)
    → map (λ (n : ArrayVec ℕ). n.items) ks ≡ i.names → key.items ≡ id
    → list_any (same_key_octets key) ks ≡ list_any (bytes_eq id) i.names
name_held i ks key id names same =
    sym (list_any-map (bytes_eq key.items) (λ (n : ArrayVec ℕ). n.items) ks)
    ∙ ap (λ (w : List ℕ). list_any (bytes_eq w) (items_of ks)) same
    ∙ ap (list_any (bytes_eq id)) names

name_index : (i : Interfaces) (ks : List (ArrayVec ℕ)) (key : ArrayVec ℕ) (id : List ℕ)
    → map (λ (n : ArrayVec ℕ). n.items) ks ≡ i.names → key.items ≡ id
    → position (same_key_octets key) ks ≡ position (bytes_eq id) i.names
name_index i ks key id names same =
    sym (position-map (bytes_eq key.items) (λ (n : ArrayVec ℕ). n.items) ks)
    ∙ ap (λ (w : List ℕ). position (bytes_eq w) (items_of ks)) same
    ∙ ap (position (bytes_eq id)) names

-- what is found for a repository id
pub name_found : (i : Interfaces) (ks : List (ArrayVec ℕ)) (key : ArrayVec ℕ) (id : List ℕ)
    (o : Option ℕ) → map (λ (n : ArrayVec ℕ). n.items) ks ≡ i.names → key.items ≡ id
    → o ≡ position (same_key_octets key) ks
    → option_map interface_id o ≡ option_map interface_id (position (bytes_eq id) i.names)
name_found i ks key id o names same is =
    ap (option_map interface_id) (is ∙ name_index i ks key id names same)

pub long_name : (i : Interfaces) (id : List ℕ) → All (λ (n : List ℕ). length n ≤ 128) i.names
    → 128 < length id → None ≡ option_map interface_id (position (bytes_eq id) i.names)
long_name i id short long =
    sym (ap (option_map interface_id)
    (not_there (λ (n : List ℕ). n) i.names [] id 128 (λ j lt. short j [] lt) long))

within_by : {X : Type 0} (p : X → Bool) (x : X) (xs : List X) (v : Bool) → p x ≡ v
    → position_or_len p xs ≤ length xs → position_or_len p (x ∷ xs) ≤ length (x ∷ xs)
within_by p x xs true e le = rw e (omega arith)
within_by p x xs false e le = rw e (omega arith)

index_within : {X : Type 0} (p : X → Bool) (xs : List X) → position_or_len p xs ≤ length xs
index_within p [] = omega arith
index_within p (x ∷ xs) =
    within_by p x xs (p x) refl (index_within p xs)

index_by : (v : Bool) (a n : ℕ) → Some n ≡ cond v (Some a) None → n ≡ a
index_by true a n e = search (arith)
index_by false a n e = absurd cc

next_by : (v : Bool) (a n : ℕ) → ltb a n ≡ v → a ≤ n → None ≡ cond v (Some a) None → n ≡ a
next_by true a n e le is = absurd cc
next_by false a n e le is = let ge = ltb-false a n e in omega arith

pub name_numbered : (i : Interfaces) (ks : List (ArrayVec ℕ)) (key : ArrayVec ℕ) (id : List ℕ)
    (n : ℕ) → map (λ (n : ArrayVec ℕ). n.items) ks ≡ i.names → key.items ≡ id
    → Some n ≡ position (same_key_octets key) ks → n ≡ number_of i id
name_numbered i ks key id n names same is =
    index_by (ltb (number_of i id) (length i.names)) (number_of i id) n
    (is ∙ name_index i ks key id names same)

pub name_next : (i : Interfaces) (ks : List (ArrayVec ℕ)) (key : ArrayVec ℕ) (id : List ℕ) (n : ℕ)
    → map (λ (n : ArrayVec ℕ). n.items) ks ≡ i.names → key.items ≡ id → n ≡ length ks
    → None ≡ position (same_key_octets key) ks → n ≡ number_of i id
name_next i ks key id n names same all is =
    all ∙ sym (length-map ks (λ (n : ArrayVec ℕ). n.items)) ∙ ap length names
    ∙ next_by (ltb (number_of i id) (length i.names)) (number_of i id) (length i.names) refl
    (index_within (bytes_eq id) i.names) (is ∙ name_index i ks key id names same)

below_by : (v : Bool) (ns : List (List ℕ)) (id : List ℕ) (n : ℕ) → ltb n (length ns) ≡ v
    → n ≤ length ns → n < length (cond v ns (ns ++ id ∷ []))
below_by true ns id n e le = ltb-true n (length ns) e
below_by false ns id n e le = omega (arith, length-append ns (id ∷ []))

-- the number of an interface that was added is one of the table's
pub number_below : (i : Interfaces) (id : List ℕ)
    → number_of i id < length (with_interface i id).names
number_below i id =
    below_by (list_any (bytes_eq id) i.names) i.names id (number_of i id)
    (some_position (bytes_eq id) i.names) (index_within (bytes_eq id) i.names)

few_by : (i : Interfaces) (id : List ℕ) → length i.names ≤ 1024
    → (list_any (bytes_eq id) i.names ≡ true) ⊎ (length i.names < 1024)
    → number_of i id < 1024
few_by i id all (inl known) =
    let lt = ltb-true (number_of i id) (length i.names)
    (some_position (bytes_eq id) i.names ∙ known) in
    omega arith
few_by i id all (inr few) = omega (arith, index_within (bytes_eq id) i.names)

-- the number of an interface, if there is room for it, as the code finds it
pub number_few : (i there : Interfaces) (id : List ℕ) (n : ℕ) → there ≡ i
    → n ≡ number_of there id → length i.names ≤ 1024
    → (list_any (bytes_eq id) i.names ≡ true) ⊎ (length i.names < 1024) → n < 1024
number_few i there id n same is all room =
    omega (arith, is, ap (λ (u : Interfaces). number_of u id) same, few_by i id all room)

names_by : (v : Bool) (ks : List (ArrayVec ℕ)) (ns : List (List ℕ)) (key : ArrayVec ℕ)
    (id : List ℕ) → map (λ (n : ArrayVec ℕ). n.items) ks ≡ ns → key.items ≡ id
    → items_of (cond v ks (ks ++ key ∷ [])) ≡ cond v ns (ns ++ id ∷ [])
names_by true ks ns key id names same = names
names_by false ks ns key id names same =
    map-append (λ (n : ArrayVec ℕ). n.items) ks (key ∷ [])
    ∙ ap (λ (xs : List (List ℕ)). xs ++ key.items ∷ []) names
    ∙ ap (λ (w : List ℕ). ns ++ w ∷ []) same

-- the fields after an interface was put
pub name_put : (i : Interfaces) (ks new : List (ArrayVec ℕ)) (es : List (ArrayVec ℕ × InterfaceId))
    (key : ArrayVec ℕ) (id : List ℕ) → interfaces_view ks es ≡ i → key.items ≡ id
    → new ≡ insert_key same_key_octets ks key → interfaces_view new es ≡ with_interface i id
name_put i ks new es key id view same is =
    let names = ap (λ (u : Interfaces). u.names) view in
    let put = ap items_of is
    ∙ names_by (list_any (same_key_octets key) ks) ks i.names key id names same
    ∙ ap (λ v. cond v i.names (i.names ++ id ∷ [])) (name_held i ks key id names same) in
    ap (λ (ns : List (List ℕ)). record (interfaces_view ks es) { names = ns }) put
    ∙ ap (λ (u : Interfaces). record u { names = (with_interface i id).names }) view

all_more : (m n : ℕ) (ks : List (List ℕ × ℕ)) → m ≤ n → AllByRecursion (IsKeyOf m) ks
    → AllByRecursion (IsKeyOf n) ks
all_more m n [] le all = tt
all_more m n (k ∷ ks) le all = (
  record { short = (all.0).short; known = let lt = (all.0).known in omega arith },
  all_more m n ks le all.1,
)

kept_by : (marked : List Bool) (i : Interfaces) (id : List ℕ) (v : Bool)
    → AreInterfacesKept marked i
    → length id ≤ 128 → list_any (bytes_eq id) i.names ≡ v
    → (list_any (bytes_eq id) i.names ≡ true) ⊎ (length i.names < 1024)
    → AreInterfacesKept marked (record i { names = cond v i.names (i.names ++ id ∷ []) })
kept_by marked i id true is short e room =
    record { short = is.short; few = is.few; keys = is.keys; whole = is.whole; sizes = is.sizes }
kept_by marked i id false is short e (inl known) = absurd (false≢true (sym e ∙ known))
kept_by marked i id false is short e (inr few) = record {
  short = All-push (λ (name : List ℕ). length name ≤ 128) i.names id is.short short;
  few = omega (arith, length-append i.names (id ∷ []));
  keys = all_more (length i.names) (length (i.names ++ id ∷ [])) i.keys
      (omega (arith, length-append i.names (id ∷ []))) is.keys;
  whole = is.whole;
  sizes = is.sizes;
}

pub name_kept : (marked : List Bool) (i : Interfaces) (id : List ℕ) → AreInterfacesKept marked i
    → length id ≤ 128 → (list_any (bytes_eq id) i.names ≡ true) ⊎ (length i.names < 1024)
    → AreInterfacesKept marked (with_interface i id)
name_kept marked i id is short room =
    kept_by marked i id (list_any (bytes_eq id) i.names) is short refl room

-- ---- the KEYs

cond_map : {X Y : Type 0} (f : X → Y) (v : Bool) (x : X) (o : Option X)
    → cond v (Some (f x)) (option_map f o) ≡ option_map f (cond v (Some x) o)
cond_map f true x o = refl
cond_map f false x o = refl

view_found : (key : ArrayVec ℕ) (es : List (ArrayVec ℕ × InterfaceId))
    → lookup (bytes_eq key.items) (map key_view es)
    ≡ option_map (λ (x : InterfaceId). x.0) (lookup (same_key_octets key) es)
view_found key [] = refl
view_found key (e ∷ es) = search (arith, cond, cond_map, view_found key es)

-- what is found for a key
pub text_found : (i : Interfaces) (es : List (ArrayVec ℕ × InterfaceId)) (key : ArrayVec ℕ)
    (text : List ℕ) (o : Option InterfaceId) → map key_view es ≡ i.keys → key.items ≡ text
    → o ≡ lookup (same_key_octets key) es → option_map (λ (x : InterfaceId). x.0) o ≡ of_text i text
text_found i es key text o keys same is =
    ap (option_map (λ (x : InterfaceId). x.0)) is ∙ sym (view_found key es)
    ∙ ap (λ (w : List ℕ). lookup (bytes_eq w) (map key_view es)) same
    ∙ ap (lookup (bytes_eq text)) keys

long_by : (v : Bool) (n : ℕ) (k : List ℕ × ℕ) (text : List ℕ) (o : Option ℕ)
    → bytes_eq text k.0 ≡ v → IsKeyOf n k → 128 < length text → o ≡ None
    → cond v (Some k.1) o ≡ None
long_by true n k text o e is long none =
    let same = (bytes_eq-Decides text k.0).0 e in
    let short = is.short in
    absurd (omega (arith, ap length same))
long_by false n k text o e is long none = none

long_keys : (n : ℕ) (ks : List (List ℕ × ℕ)) (text : List ℕ) → AllByRecursion (IsKeyOf n) ks
    → 128 < length text → lookup (bytes_eq text) ks ≡ None
long_keys n [] text all long = refl
long_keys n (k ∷ ks) text all long =
    long_by (bytes_eq text k.0) n k text (lookup (bytes_eq text) ks) refl all.0 long
    (long_keys n ks text all.1 long)

-- a text that is longer than all KEYs isn't one
pub long_none : (i : Interfaces) (text : List ℕ) → AllByRecursion (IsKeyOf (length i.names)) i.keys
    → 128 < length text → of_text i text ≡ None
long_none i text all long = long_keys (length i.names) i.keys text all long

-- the fields after a new KEY was put
pub key_put : (i : Interfaces) (ks : List (ArrayVec ℕ)) (es new : List (ArrayVec ℕ × InterfaceId))
    (key : ArrayVec ℕ) (v : InterfaceId) (text : List ℕ) → interfaces_view ks es ≡ i
    → key.items ≡ text → of_text i text ≡ None → new ≡ insert_entry same_key_octets es key v
    → interfaces_view ks new ≡ record i { keys = i.keys ++ (text, v.0) ∷ [] }
key_put i ks es new key v text view same none is =
    let keys = ap (λ (u : Interfaces). u.keys) view in
    let found = text_found i es key text (lookup (same_key_octets key) es) keys same refl in
    let unseen = none_before (λ (x : InterfaceId). x.0) (lookup (same_key_octets key) es)
    (found ∙ none) in
    let last : new ≡ es ++ (key, v) ∷ [] =
    is ∙ entry_last same_key_octets es key v (none_found key es unseen) in
    ap (interfaces_view ks) last
    ∙ ap (λ (xs : List (List ℕ × ℕ)). record (interfaces_view ks es) { keys = xs })
    (map-append key_view es ((key, v) ∷ []) ∙ ap (λ (xs : List (List ℕ × ℕ)).
    xs ++ (key.items, v.0) ∷ []) keys ∙ ap (λ (w : List ℕ). i.keys ++ (w, v.0) ∷ []) same)
    ∙ ap (λ (u : Interfaces). record u { keys = i.keys ++ (text, v.0) ∷ [] }) view

all_last : (n : ℕ) (ks : List (List ℕ × ℕ)) (k : List ℕ × ℕ) → AllByRecursion (IsKeyOf n) ks
    → IsKeyOf n k → AllByRecursion (IsKeyOf n) (ks ++ k ∷ [])
all_last n [] k all is = (is, tt)
all_last n (x ∷ ks) k all is = (all.0, all_last n ks k all.1 is)

none_last_by : (v : Bool) (x : ℕ) (o p : Option ℕ) → cond v (Some x) o ≡ None
    → (o ≡ None → p ≡ None) → cond v (Some x) p ≡ None
none_last_by true x o p e on = absurd cc
none_last_by false x o p e on = on e

none_last : (text : List ℕ) (ks : List (List ℕ × ℕ)) (k : List ℕ × ℕ)
    → lookup (bytes_eq text) ks ≡ None → bytes_eq text k.0 ≡ false
    → lookup (bytes_eq text) (ks ++ k ∷ []) ≡ None
none_last text [] k e differs = rw differs refl
none_last text (x ∷ ks) k e differs =
    none_last_by (bytes_eq text x.0) x.1 (lookup (bytes_eq text) ks)
    (lookup (bytes_eq text) (ks ++ k ∷ [])) e (λ none. none_last text ks k none differs)

-- the mark of a size after a KEY was put
abbrev pub mark_after : (marked : List Bool) (text : List ℕ) → Bool
mark_after marked text =
    get_or marked (length text / 2) false || nat_eq (length text % 2) 1

neither : (a b : Bool) → (a || b) ≡ false → (a ≡ false) × (b ≡ false)
neither true b e = absurd cc
neither false b e = (refl, e)

-- a size that isn't marked afterwards wasn't marked before
unmarked_by : (marked : List Bool) (k n : ℕ) (old odd v : Bool) → eqb n k ≡ v → k < length marked
    → get_or marked k false ≡ old → get_or (slice_set marked k (old || odd)) n false ≡ false
    → get_or marked n false ≡ false
unmarked_by marked k n old odd true same lt is e =
    let at = eqb-true n k same in
    let here = ap (λ j. get_or (slice_set marked k (old || odd)) j false) (sym at) ∙ e in
    let kept = sym (get_or-set_same marked k (old || odd) false lt) ∙ here in
    ap (λ j. get_or marked j false) at ∙ is ∙ (neither old odd kept).0
unmarked_by marked k n old odd false same lt is e =
    sym (get_or-set_other marked k n (old || odd) false (eqb-false n k same)) ∙ e

-- a front whose size isn't marked has another text
other_by : (v : Bool) (marked : List Bool) (text octets : List ℕ)
    → bytes_eq (front_text octets) text ≡ v → length text / 2 < length marked
    → get_or (slice_set marked (length text / 2) (mark_after marked text)) (length octets) false
    ≡ false → v ≡ false
other_by true marked text octets same lt e =
    let long = ap length (sym ((bytes_eq-Decides (front_text octets) text).0 same))
    ∙ front_long octets in
    let half : length text / 2 ≡ length octets = omega (arith, long) in
    let odd : length text % 2 ≡ 1 = omega (arith, long) in
    let put = sym (get_or-set_same marked (length text / 2) (mark_after marked text) false lt)
    ∙ ap (λ j. get_or (slice_set marked (length text / 2) (mark_after marked text)) j false) half
    ∙ e in
    sym (ap (λ r. nat_eq r 1) odd)
    ∙ (neither (get_or marked (length text / 2) false) (nat_eq (length text % 2) 1) put).1
other_by false marked text octets same lt e = refl

pub key_kept : (marked : List Bool) (i : Interfaces) (text : List ℕ) (n : ℕ)
    → AreInterfacesKept marked i
    → length text ≤ 128 → n < length i.names
    → AreInterfacesKept (slice_set marked (length text / 2) (mark_after marked text))
    (record i { keys = i.keys ++ (text, n) ∷ [] })
key_kept marked i text n is short lt =
    let size = is.whole in
    let within : length text / 2 < length marked = omega arith in
    record {
      short = is.short;
      few = is.few;
      keys = all_last (length i.names) i.keys (text, n) is.keys
          (record { short = short; known = lt });
      whole = length-set marked (length text / 2) (mark_after marked text) ∙ size;
      sizes = λ octets e. none_last (front_text octets) i.keys (text, n)
          (is.sizes octets (unmarked_by marked (length text / 2) (length octets)
          (get_or marked (length text / 2) false) (nat_eq (length text % 2) 1)
          (eqb (length octets) (length text / 2)) refl within refl e))
          (other_by (bytes_eq (front_text octets) text) marked text octets refl within e);
    }

-- ---- the interface of an object key

pub longest_zero : (i : Interfaces) (key : List ℕ)
    → longest_front i key 0 ≡ of_text i (front_text [])
unfolding longest_front
longest_zero i key = refl

longest_suc : (i : Interfaces) (key : List ℕ) (n : ℕ) → longest_front i key (suc n)
    ≡ option_or (of_text i (front_text (take (suc n) key))) (longest_front i key n)
unfolding longest_front
longest_suc i key n = refl

map_or : {X Y : Type 0} (f : X → Y) (a b : Option X)
    → option_map f (option_or a b) ≡ option_or (option_map f a) (option_map f b)
map_or f None b = refl
map_or f (Some x) b = refl

-- one more octet of a key
pub longest_more : (i : Interfaces) (key : List ℕ) (m n : ℕ) (a b : Option InterfaceId) → m ≡ suc n
    → option_map (λ (x : InterfaceId). x.0) a ≡ of_text i (front_text (take m key))
    → option_map (λ (x : InterfaceId). x.0) b ≡ longest_front i key n
    → option_map (λ (x : InterfaceId). x.0) (option_or a b) ≡ longest_front i key m
longest_more i key m n a b next here before =
    map_or (λ (x : InterfaceId). x.0) a b
    ∙ ap (λ o. option_or o (option_map (λ (x : InterfaceId). x.0) b)) here
    ∙ ap (option_or (of_text i (front_text (take m key)))) before
    ∙ ap (λ k. option_or (of_text i (front_text (take k key))) (longest_front i key n)) next
    ∙ sym (longest_suc i key n) ∙ ap (longest_front i key) (sym next)

longest_by : (i : Interfaces) (key : List ℕ) (k n m : ℕ) → (k < suc m) ⊎ (suc m ≤ k) → k ≤ suc m
    → of_text i (front_text (take k key)) ≡ Some n
    → (k < suc m → of_text i (front_text (take (suc m) key)) ≡ None)
    → (k < suc m → longest_front i key m ≡ Some n) → longest_front i key (suc m) ≡ Some n
longest_by i key k n m (inl lt) le e none on =
    longest_suc i key m
    ∙ ap (λ o. option_or o (longest_front i key m)) (none lt) ∙ on lt
longest_by i key k n m (inr ge) le e none on =
    let at : k ≡ suc m = omega arith in
    longest_suc i key m ∙ ap (λ o. option_or o (longest_front i key m))
    (ap (λ j. of_text i (front_text (take j key))) (sym at) ∙ e)

longest_found : (i : Interfaces) (key : List ℕ) (k n : ℕ)
    → of_text i (front_text (take k key)) ≡ Some n
    → ((j : ℕ) → k < j → j ≤ length key → of_text i (front_text (take j key)) ≡ None) → (m : ℕ)
    → k ≤ m → m ≤ length key → longest_front i key m ≡ Some n
longest_found i key k n e other zero le lm =
    let at : k ≡ 0 = omega arith in
    longest_zero i key ∙ ap (λ j. of_text i (front_text (take j key))) (sym at) ∙ e
longest_found i key k n e other (suc m) le lm =
    longest_by i key k n m (cases_lt k (suc m)) le e (λ lt. other (suc m) lt lm)
    (λ lt. longest_found i key k n e other m (omega arith) (omega arith))

longest_none : (i : Interfaces) (key : List ℕ)
    → ((j : ℕ) → j ≤ length key → of_text i (front_text (take j key)) ≡ None) → (m : ℕ)
    → m ≤ length key → longest_front i key m ≡ None
longest_none i key none zero lm = longest_zero i key ∙ none 0 (omega arith)
longest_none i key none (suc m) lm =
    longest_suc i key m ∙ ap (λ o. option_or o (longest_front i key m)) (none (suc m) lm)
    ∙ longest_none i key none m (omega arith)

whose_by : (i : Interfaces) (key : List ℕ) (v : Bool) → ltb 128 (length key) ≡ v
    → IsInterfaceOf i key (cond v None (option_or (of_text i (whole_text key))
    (longest_front i key (length key))))
whose_by i key true e = let long = ltb-true 128 (length key) e in record {
  long = λ lt. refl;
  whole = λ le n is. absurd (omega arith);
  front = λ le no n front rest split is other. absurd (omega arith);
  none = λ le no all. absurd (omega arith);
}
whose_by i key false e = let short = ltb-false 128 (length key) e in record {
  long = λ lt. absurd (omega arith);
  whole = λ le n is. rw is refl;
  front = λ le no n front rest split is other.
      let at : take (length front) key ≡ front =
      ap (take (length front)) split ∙ take-append_seam front rest in
      rw no (longest_found i key (length front) n
      (ap (λ f. of_text i (front_text f)) at ∙ is)
      (λ j lt le. other (take j key) (drop j key) (sym (take-append-drop j key))
      (omega (arith, length-take-le j key le)))
      (length key) (omega (arith, ap length split, length-append front rest)) (omega arith));
  none = λ le no all.
      rw no (longest_none i key
      (λ j le. all (take j key) (drop j key) (sym (take-append-drop j key)))
      (length key) (omega arith));
}

-- the interface that is found is that of the definition
pub whose : (i : Interfaces) (key : List ℕ) → IsInterfaceOf i key (of_key i key)
whose i key = whose_by i key (ltb 128 (length key)) refl

known_by : (v : Bool) (n : ℕ) (k : List ℕ × ℕ) (o : Option ℕ) (j : ℕ) → IsKeyOf n k
    → cond v (Some k.1) o ≡ Some j → (o ≡ Some j → j < n) → j < n
known_by true n k o j is e on = let lt = is.known in search (arith)
known_by false n k o j is e on = on e

keys_known : (n : ℕ) (ks : List (List ℕ × ℕ)) (text : List ℕ) (j : ℕ)
    → AllByRecursion (IsKeyOf n) ks → lookup (bytes_eq text) ks ≡ Some j → j < n
keys_known n [] text j all e = absurd cc
keys_known n (k ∷ ks) text j all e =
    known_by (bytes_eq text k.0) n k (lookup (bytes_eq text) ks) j all.0 e
    (λ on. keys_known n ks text j all.1 on)

or_known : (n : ℕ) (a b : Option ℕ) (j : ℕ) → (a ≡ Some j → j < n) → (b ≡ Some j → j < n)
    → option_or a b ≡ Some j → j < n
or_known n None b j here other e = other e
or_known n (Some x) b j here other e = here e

longest_known : (i : Interfaces) (key : List ℕ) (j : ℕ)
    → AllByRecursion (IsKeyOf (length i.names)) i.keys → (m : ℕ)
    → longest_front i key m ≡ Some j → j < length i.names
longest_known i key j all zero e =
    keys_known (length i.names) i.keys (front_text []) j all (sym (longest_zero i key) ∙ e)
longest_known i key j all (suc m) e =
    or_known (length i.names) (of_text i (front_text (take (suc m) key))) (longest_front i key m) j
    (keys_known (length i.names) i.keys (front_text (take (suc m) key)) j all)
    (longest_known i key j all m) (sym (longest_suc i key m) ∙ e)

pub text_known : (i : Interfaces) (text : List ℕ) (j : ℕ)
    → AllByRecursion (IsKeyOf (length i.names)) i.keys → of_text i text ≡ Some j
    → j < length i.names
text_known i text j all e = keys_known (length i.names) i.keys text j all e

pub longest_among : (i : Interfaces) (key : List ℕ) (m : ℕ) (r : Option InterfaceId)
    → AllByRecursion (IsKeyOf (length i.names)) i.keys
    → option_map (λ (x : InterfaceId). x.0) r ≡ longest_front i key m
    → IfSome r (λ (x : InterfaceId). x.0 < length i.names)
longest_among i key m None all e = tt
longest_among i key m (Some x) all e = longest_known i key x.0 all m (sym e)

-- the interface of an object key is one of the table's
module _ (i : Interfaces) (key : List ℕ) (all : AllByRecursion (IsKeyOf (length i.names)) i.keys)
  where
    of_known : (b : Bool) (j : ℕ) → cond b None
        (option_or (of_text i (whole_text key)) (longest_front i key (length key))) ≡ Some j →
        j < length i.names
    of_known true j e = absurd cc
    of_known false j e =
        or_known (length i.names) (of_text i (whole_text key)) (longest_front i key (length key)) j
        (text_known i (whole_text key) j all) (longest_known i key j all (length key)) e

    known_in : (o : Option ℕ) → of_key i key ≡ o → IfSome o (λ j. j < length i.names)
    known_in None e = tt
    known_in (Some j) e = of_known (ltb 128 (length key)) j e

    pub key_known : IfSome (of_key i key) (λ j. j < length i.names)
    key_known = known_in (of_key i key) refl

-- if there is no KEY, no key has an interface
text_without : (keys : List (List ℕ × ℕ)) (text : List ℕ) → length keys ≡ 0 →
    lookup (bytes_eq text) keys ≡ None
text_without [] text none = refl
text_without (k ∷ keys) text none = absurd (omega (arith, none))

or_none : (a b : Option ℕ) → a ≡ None → b ≡ None → option_or a b ≡ None
or_none None b e k = k
or_none (Some x) b e k = absurd cc

longest_without : (i : Interfaces) (key : List ℕ) → length i.keys ≡ 0 → (n : ℕ) →
    longest_front i key n ≡ None
longest_without i key none zero = longest_zero i key ∙ text_without i.keys (front_text []) none
longest_without i key none (suc n) =
    longest_suc i key n
    ∙ or_none (of_text i (front_text (take (suc n) key))) (longest_front i key n)
    (text_without i.keys (front_text (take (suc n) key)) none) (longest_without i key none n)

pub none_of_key : (i : Interfaces) (key : List ℕ) → length i.keys ≡ 0 → None ≡ of_key i key
none_of_key i key none = by (ltb 128 (length key))
  where
    by : (b : Bool) → None ≡ cond b None
        (option_or (of_text i (whole_text key)) (longest_front i key (length key)))
    by true = refl
    by false = sym (or_none (of_text i (whole_text key)) (longest_front i key (length key))
        (text_without i.keys (whole_text key) none) (longest_without i key none (length key)))
