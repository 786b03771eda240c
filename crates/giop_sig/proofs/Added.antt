-- A catalogue's table is still one after a type, an operation or an exception was added.
use Rattle.std.proofs.Common.{◌≡◌, ◌⊎◌, inl, inr, ℕ, zero, suc, ◌+◌, ◌^◌, ◌<◌, ◌≤◌, Bool, true, false, cond, ◌||◌, ltb, List, [], ◌∷◌, ◌++◌, length, map, get_or, Option, Some, None, refl, sym, ap, subst, ◌∙◌, append_assoc, arith}
use Rattle.std.specs.List.{AllByRecursion, position, position_or_len, list_any}
use Rattle.giop_cdr.specs.declared.prim.Primitive.TheVariants.{Octet}
use Rattle.std.specs.Option.{option_map}
use Rattle.std.specs.Str.{bytes_eq}
use Rattle.std.proofs.Math.Seq.{get_or-append_seam}
use Rattle.std.proofs.lemmas.Slice.Eq.{bytes_eq-Decides}
use Rattle.std.proofs.lemmas.Bool.{cases_lt, false≢true, lt-ltb, ltb-true, ltb-false, le-ltb}
use Rattle.std.proofs.lemmas.List.{length-append, map-append, get_or_append_left}
use Rattle.std.proofs.lemmas.List.Elements.{All-from_recursion, All-push, recursion_from_All}
use mathlib.Core.Path.{fun_ext}
use Rattle.arrayvec.specs.ArrayVec.{ArrayVec}
use Rattle.indexmap.specs.IndexMap.{insert_entry}
use Rattle.giop_sig.specs.declared.types.TypeId.{TypeId}
use Rattle.giop_sig.specs.declared.catalogue.Signature.{Signature}
use Rattle.giop_sig.specs.Table as nodes
use Rattle.giop_sig.specs.Table.{Node, Case, TakesOctet, node_in, Operation, Exception, Identity, Table, operation_number_of_key, exception_in, exception_members_at, identified_in, identity_type_at, no_operation, no_exception, no_identity, with_type, with_operation, with_exception, with_identity}
use Rattle.giop_sig.specs.AnyTypes.{first_types}
use Rattle.giop_sig.specs.HeaderTypes.{AreBeforeVersion3, IsAddable, IsBeforeVersion3, KnowsAnys, IsOperation, IsException, IsIdentity, AreDistinct, TableOf}
use Rattle.giop_sig.specs.Trees.{AreFormed, AllHaveParameterTypes, HasParameterTypes, IsParameterType}
use Rattle.giop_sig.proofs.Kept.{depth_stays}
use Rattle.giop_sig.specs.Entries.{operation_view, exception_view, identity_view}

-- ---- a type

call_stays : (types : List Node) (n : Node) (o : Operation) → IsOperation types o
    → IsOperation (types ++ n ∷ []) o
call_stays types n o is = search (arith, length-append)

raised_stays : (types : List Node) (n : Node) (e : Exception) → IsException types e
    → IsException (types ++ n ∷ []) e
raised_stays types n e is = search (arith, length-append)

identified_stays : (types : List Node) (n : Node) (e : Identity) → IsIdentity types e
    → IsIdentity (types ++ n ∷ []) e
identified_stays types n e is = search (arith, length-append)

-- the parts of a TypeCode keep their nodes and depths
wide_part_stays : (types : List Node) (n : Node) (i : ℕ) → AreFormed types → IsParameterType types i
    → IsParameterType (types ++ n ∷ []) i
wide_part_stays types n i are is =
    let same = get_or_append_left types (n ∷ []) (nodes.prim Octet) i is.known in
    record {
      known = omega (arith, is.known, length-append types (n ∷ []));
      takes = subst TakesOctet (sym same) is.takes;
      shallow = omega (arith, is.shallow, depth_stays types n i are is.known);
    }

wide_cases_stay : (types : List Node) (n : Node) (cs : List Case) → AreFormed types
    → AllByRecursion (λ c. IsParameterType types c.part.type) cs
    → AllByRecursion (λ c. IsParameterType (types ++ n ∷ []) c.part.type) cs
wide_cases_stay types n [] are all = tt
wide_cases_stay types n (c ∷ cs) are all =
    (wide_part_stays types n c.part.type are all.0, wide_cases_stay types n cs are all.1)

wide_stays : (types : List Node) (n node : Node) → AreFormed types → HasParameterTypes types node
    → HasParameterTypes (types ++ n ∷ []) node
wide_stays types n (nodes.typecode wide kind cases) are is =
    All-from_recursion (λ (c : Case). IsParameterType (types ++ n ∷ []) c.part.type) cases
    (wide_cases_stay types n cases are
    (recursion_from_All (λ (c : Case). IsParameterType types c.part.type) cases is))
wide_stays types n _ are is = tt

-- a node that a declaration may add has no parts that need much room
addable_wide : (version : ℕ) (types : List Node) (n : Node) → IsAddable version n
    → HasParameterTypes types n
addable_wide version types (nodes.announced index) addable = tt
addable_wide version types (nodes.recursive bound element) addable = tt
addable_wide version types (nodes.any code) addable = tt
addable_wide version types (nodes.typecode wide kind cases) addable = absurd addable
addable_wide version types _ addable = tt

-- a node that a declaration may add isn't plain in version 3 alone
addable_plain : (version : ℕ) (n : Node) → (version ≡ 3 → ⊥) → IsAddable version n
    → IsBeforeVersion3 n
addable_plain version (nodes.announced index) other addable = absurd (other addable)
addable_plain version (nodes.recursive bound element) other addable = absurd (other addable)
addable_plain version _ other addable = addable

wide_added : (types : List Node) (n : Node) (i : ℕ) → AreFormed types → AllHaveParameterTypes types
    → HasParameterTypes (types ++ n ∷ []) n → i < length (types ++ n ∷ []) → (i < length types) ⊎
    (length types ≤ i)
    → HasParameterTypes (types ++ n ∷ []) (node_in (types ++ n ∷ []) i)
wide_added types n i are wide last lt (inl below) =
    subst (HasParameterTypes (types ++ n ∷ []))
    (sym (get_or_append_left types (n ∷ []) (nodes.prim Octet) i below))
    (wide_stays types n (node_in types i) are (wide i below))
wide_added types n i are wide last lt (inr above) =
    let at : length types ≡ i = omega (arith, length-append types (n ∷ [])) in
    subst (λ k. HasParameterTypes (types ++ n ∷ []) (node_in (types ++ n ∷ []) k)) at
    (subst (HasParameterTypes (types ++ n ∷ []))
    (sym (get_or-append_seam types n [] (nodes.prim Octet)))
    last)

plain_added : (types : List Node) (n : Node) (i : ℕ) → AreBeforeVersion3 types → IsBeforeVersion3 n
    → i < length (types ++ n ∷ []) → (i < length types) ⊎ (length types ≤ i)
    → IsBeforeVersion3 (node_in (types ++ n ∷ []) i)
plain_added types n i are plain lt (inl below) =
    subst IsBeforeVersion3 (sym (get_or_append_left types (n ∷ []) (nodes.prim Octet) i below))
    (are i below)
plain_added types n i are plain lt (inr above) =
    let last : length types ≡ i = omega (arith, length-append types (n ∷ [])) in
    subst (λ k. IsBeforeVersion3 (node_in (types ++ n ∷ []) k)) last
    (subst IsBeforeVersion3 (sym (get_or-append_seam types n [] (nodes.prim Octet))) plain)

-- a type that a declaration adds has nothing to do with anys
anys_stay : (version : ℕ) (types : List Node) (fronts : List (List ℕ)) (n : Node) → AreFormed types
    → KnowsAnys version types fronts → IsAddable version n
    → KnowsAnys version (types ++ n ∷ []) fronts
anys_stay version types fronts n are laws addable = record {
  plain = λ other i lt. plain_added types n i (laws.plain other)
      (addable_plain version n other addable) lt (cases_lt i (length types));
  wide = λ i lt. wide_added types n i are laws.wide
      (addable_wide version (types ++ n ∷ []) n addable) lt (cases_lt i (length types));
  short = laws.short;
  few = laws.few;
}

pub type_added : (t : Table) (n : Node) → TableOf AreFormed t → IsAddable t.version n
    → AreFormed (t.types ++ n ∷ []) → TableOf AreFormed (with_type t n)
type_added t n laws addable are = record {
  types = are;
  begins = (
    laws.begins.0 ++ n ∷ [],
    ap (λ xs. xs ++ n ∷ []) laws.begins.1
        ∙ append_assoc (first_types t.version) laws.begins.0 (n ∷ []),
  );
  operations = λ k d lt. call_stays t.types n (get_or t.operations k d) (laws.operations k d lt);
  exceptions = λ k d lt. raised_stays t.types n (get_or t.exceptions k d) (laws.exceptions k d lt);
  operations_distinct = laws.operations_distinct;
  exceptions_distinct = laws.exceptions_distinct;
  operations_few = laws.operations_few;
  exceptions_few = laws.exceptions_few;
  declared_few = laws.declared_few;
  called_few = laws.called_few;
  identities = λ k d lt.
      identified_stays t.types n (get_or t.identities k d) (laws.identities k d lt);
  identities_distinct = laws.identities_distinct;
  interfaces_few = laws.interfaces_few;
  anys = anys_stay t.version t.types t.fronts n laws.types laws.anys addable;
}

-- ---- a new key comes last

ltb_both : (v : Bool) (a b : ℕ) → ltb a b ≡ v → ltb (1 + a) (suc b) ≡ v
ltb_both true a b e = search (arith, lt-ltb, ltb-true)
ltb_both false a b e = search (arith, le-ltb, ltb-false)

some_cons : {X : Type 0} (p : X → Bool) (x : X) (xs : List X) (v : Bool) → p x ≡ v
    → ltb (position_or_len p xs) (length xs) ≡ list_any p xs
    → ltb (position_or_len p (x ∷ xs)) (length (x ∷ xs)) ≡ (p x || list_any p xs)
some_cons p x xs true e h = search (arith, lt-ltb)
some_cons p x xs false e h = search (arith, ltb_both, ltb)

pub some_position : {X : Type 0} (p : X → Bool) (xs : List X)
    → ltb (position_or_len p xs) (length xs) ≡ list_any p xs
some_position p [] = refl
some_position p (x ∷ xs) = search (arith, some_cons, some_position p xs)

none_by : (v : Bool) (i : ℕ) → cond v (Some i) None ≡ None → v ≡ false
none_by true i e = absurd cc
none_by false i e = refl

pub none_any : {X : Type 0} (p : X → Bool) (xs : List X) → position p xs ≡ None →
    list_any p xs ≡ false
none_any p xs e = search (arith, some_position, none_by, ltb)

pub list_any-map : {X Y : Type 0} (p : Y → Bool) (f : X → Y) (xs : List X)
    → list_any p (map f xs) ≡ list_any (λ x. p (f x)) xs
list_any-map p f [] = refl
list_any-map p f (x ∷ xs) = search (arith, list_any-map p f xs)

pub neither : (a b : Bool) → (a || b) ≡ false → (a ≡ false) × (b ≡ false)
neither true b e = absurd cc
neither false b e = (refl, e)

pub entry_last : {K V : Type 0} (eq : K → K → Bool) (es : List (K × V)) (k : K) (v : V)
    → list_any (λ (e : K × V). eq k e.0) es ≡ false → insert_entry eq es k v ≡ es ++ (k, v) ∷ []
entry_last eq [] k v none = refl
entry_last eq (e ∷ es) k v none = let n = neither (eq k e.0) (list_any (λ x. eq k x.0) es) none in
    rw (n.0) (ap (λ xs. e ∷ xs) (entry_last eq es k v n.1))

none_before : {X Y : Type 0} (f : X → Y) (o : Option X) → option_map f o ≡ None → o ≡ None
none_before f None e = refl
none_before f (Some x) e = absurd cc

abbrev same_key : (one other : ArrayVec ℕ) → Bool
same_key a b = bytes_eq a.items b.items

-- the entries after a new name was put
entries_put : {V X : Type 0} (view : ArrayVec ℕ × V → X) (name_in : X → List ℕ)
    (es new : List (ArrayVec ℕ × V)) (key : ArrayVec ℕ) (v : V) (name : List ℕ) → key.items ≡ name
    → ((e : ArrayVec ℕ × V) → name_in (view e) ≡ (e.0).items)
    → position (λ x. bytes_eq name (name_in x)) (map view es) ≡ None
    → new ≡ insert_entry same_key es key v
    → map view new ≡ map view es ++ view (key, v) ∷ []
entries_put {V} view name_in es new key v name same named none is =
    let any : list_any (λ x. bytes_eq name (name_in x)) (map view es) ≡ false =
    none_any (λ x. bytes_eq name (name_in x)) (map view es) none in
    let plain : list_any (λ (e : ArrayVec ℕ × V). same_key key (e.0)) es ≡ false =
    ap (λ (n : List ℕ). list_any (λ (e : ArrayVec ℕ × V). bytes_eq n (e.0).items) es) same
    ∙ ap (λ (f : ArrayVec ℕ × V → List ℕ).
    list_any (λ (e : ArrayVec ℕ × V). bytes_eq name (f e)) es) (fun_ext (λ e. sym (named e)))
    ∙ sym (list_any-map (λ x. bytes_eq name (name_in x)) view es) ∙ any in
    ap (map view) (is ∙ entry_last same_key es key v plain) ∙ map-append view es ((key, v) ∷ [])

-- ---- names stay distinct

any_at : {X : Type 0} (p : X → Bool) (xs : List X) (i : ℕ) (d : X) → list_any p xs ≡ false
    → i < length xs → p (get_or xs i d) ≡ false
any_at p [] i d none lt = absurd (omega arith)
any_at p (x ∷ xs) zero d none lt = search (arith, neither)
any_at p (x ∷ xs) (suc i) d none lt = any_at p xs i d (neither (p x) (list_any p xs) none).1
    (omega arith)

differs : {X : Type 0} (name_in : X → List ℕ) (xs : List X) (d : X) (name : List ℕ)
    → position (λ x. bytes_eq name (name_in x)) xs ≡ None → (i : ℕ) → i < length xs
    → name_in (get_or xs i d) ≡ name → ⊥
differs name_in xs d name none i lt e =
    let no = any_at (λ x. bytes_eq name (name_in x)) xs i d
    (none_any (λ x. bytes_eq name (name_in x)) xs none) lt in
    absurd (false≢true (sym no ∙ (bytes_eq-Decides name (name_in (get_or xs i d))).1 (sym e)))

distinct_by : {X : Type 0} (name_in : X → List ℕ) (d : X) (xs : List X) (x : X)
    → AreDistinct name_in d xs → ((i : ℕ) → i < length xs → name_in (get_or xs i d) ≡ name_in x → ⊥)
    → (i j : ℕ) → i < length (xs ++ x ∷ []) → j < length (xs ++ x ∷ [])
    → (i < length xs) ⊎ (length xs ≤ i) → (j < length xs) ⊎ (length xs ≤ j)
    → name_in (get_or (xs ++ x ∷ []) i d) ≡ name_in (get_or (xs ++ x ∷ []) j d) → i ≡ j
distinct_by name_in d xs x before apart i j li lj (inl hi) (inl hj) e = search (
  arith,
  get_or_append_left,
)
distinct_by name_in d xs x before apart i j li lj (inl hi) (inr hj) e =
    let last : j ≡ length xs = omega (arith, length-append xs (x ∷ [])) in
    absurd (apart i hi (ap name_in (sym (get_or_append_left xs (x ∷ []) d i hi)) ∙ e
    ∙ ap (λ k. name_in (get_or (xs ++ x ∷ []) k d)) last
    ∙ ap name_in (get_or-append_seam xs x [] d)))
distinct_by name_in d xs x before apart i j li lj (inr hi) (inl hj) e =
    let last : i ≡ length xs = omega (arith, length-append xs (x ∷ [])) in
    absurd (apart j hj (ap name_in (sym (get_or_append_left xs (x ∷ []) d j hj)) ∙ sym e
    ∙ ap (λ k. name_in (get_or (xs ++ x ∷ []) k d)) last
    ∙ ap name_in (get_or-append_seam xs x [] d)))
distinct_by name_in d xs x before apart i j li lj (inr hi) (inr hj) e = search (
  arith,
  length-append,
)

distinct_push : {X : Type 0} (name_in : X → List ℕ) (d : X) (xs : List X) (x : X)
    → AreDistinct name_in d xs → position (λ y. bytes_eq (name_in x) (name_in y)) xs ≡ None
    → AreDistinct name_in d (xs ++ x ∷ [])
distinct_push name_in d xs x before none i j li lj e =
    distinct_by name_in d xs x before (differs name_in xs d (name_in x) none) i j li lj
    (cases_lt i (length xs)) (cases_lt j (length xs)) e

-- ---- an operation

pub operation_added : {Types : List Node → Type 0} (t : Table) (o : Operation) → TableOf Types t
    → IsOperation t.types o → operation_number_of_key t o.key ≡ None
    → length t.operations + 1 < 2 ^ 32
    → TableOf Types (with_operation t o)
operation_added t o laws call new few = record {
  types = laws.types;
  begins = laws.begins;
  operations = All-push (IsOperation t.types) t.operations o laws.operations call;
  exceptions = laws.exceptions;
  operations_distinct = distinct_push (λ (x : Operation). x.key) no_operation t.operations o
      laws.operations_distinct new;
  exceptions_distinct = laws.exceptions_distinct;
  operations_few = omega (arith, length-append t.operations (o ∷ []));
  exceptions_few = laws.exceptions_few;
  declared_few = laws.declared_few;
  called_few = laws.called_few;
  identities = laws.identities;
  identities_distinct = laws.identities_distinct;
  interfaces_few = laws.interfaces_few;
  anys = laws.anys;
}

-- the table after a new operation was put
pub operation_put : (here : Table) (os new : List (ArrayVec ℕ × Signature)) (t : Table)
    (key : ArrayVec ℕ) (s : Signature) (name : List ℕ) → here.operations ≡ map operation_view os
    → here ≡ t → key.items ≡ name → operation_number_of_key t name ≡ None
    → new ≡ insert_entry same_key os key s
    → record here { operations = map operation_view new }
    ≡ with_operation t (record { key = name; request = s.request.0; reply = s.reply.0 })
operation_put here os new t key s name kept view same none is =
    let none_here : operation_number_of_key here name ≡ None =
    ap (λ (u : Table). operation_number_of_key u name) view ∙ none in
    let none_view = ap (λ xs. position (λ (o : Operation). bytes_eq name o.key) xs) (sym kept)
    ∙ none_here in
    let put = entries_put operation_view (λ (o : Operation). o.key) os new key s name same
    (λ e. refl) none_view is in
    ap (λ xs. record here { operations = xs }) (put
    ∙ ap (λ (xs : List Operation). xs ++ operation_view (key, s) ∷ []) (sym kept))
    ∙ ap (λ (n : List ℕ). with_operation here
    (record { key = n; request = s.request.0; reply = s.reply.0 })) same
    ∙ ap (λ u. with_operation u (record { key = name; request = s.request.0; reply = s.reply.0 }))
    view

-- ---- an exception

pub exception_added : {Types : List Node → Type 0} (t : Table) (e : Exception) → TableOf Types t
    → IsException t.types e → exception_in t e.repository ≡ None → length t.exceptions < 4096
    → TableOf Types (with_exception t e)
exception_added t e laws raised new few = record {
  types = laws.types;
  begins = laws.begins;
  operations = laws.operations;
  exceptions = All-push (IsException t.types) t.exceptions e laws.exceptions raised;
  operations_distinct = laws.operations_distinct;
  exceptions_distinct = distinct_push (λ (x : Exception). x.repository) no_exception t.exceptions e
      laws.exceptions_distinct
      (none_before (exception_members_at t) (position
      (λ (x : Exception). bytes_eq e.repository x.repository)
      t.exceptions) new);
  operations_few = laws.operations_few;
  exceptions_few = omega (arith, length-append t.exceptions (e ∷ []));
  declared_few = laws.declared_few;
  called_few = laws.called_few;
  identities = laws.identities;
  identities_distinct = laws.identities_distinct;
  interfaces_few = laws.interfaces_few;
  anys = laws.anys;
}

-- the table after a new exception was put
pub exception_put : (here : Table) (es new : List (ArrayVec ℕ × TypeId)) (t : Table)
    (key : ArrayVec ℕ) (m : TypeId) (name : List ℕ) → here.exceptions ≡ map exception_view es
    → here ≡ t → key.items ≡ name → exception_in t name ≡ None
    → new ≡ insert_entry same_key es key m
    → record here { exceptions = map exception_view new }
    ≡ with_exception t (record { repository = name; members = m.0 })
exception_put here es new t key m name kept view same none is =
    let none_here : exception_in here name ≡ None =
    ap (λ (u : Table). exception_in u name) view ∙ none in
    let none_view = ap (λ xs. position (λ (e : Exception). bytes_eq name e.repository) xs)
    (sym kept)
    ∙ none_before (exception_members_at here)
    (position (λ (e : Exception). bytes_eq name e.repository)
    here.exceptions) none_here in
    let put = entries_put exception_view (λ (e : Exception). e.repository) es new key m name same
    (λ e. refl) none_view is in
    ap (λ xs. record here { exceptions = xs }) (put
    ∙ ap (λ (xs : List Exception). xs ++ exception_view (key, m) ∷ []) (sym kept))
    ∙ ap (λ (n : List ℕ). with_exception here (record { repository = n; members = m.0 })) same
    ∙ ap (λ u. with_exception u (record { repository = name; members = m.0 })) view

-- ---- a repository id of a type

pub identity_added : {Types : List Node → Type 0} (t : Table) (e : Identity) → TableOf Types t
    → IsIdentity t.types e → identified_in t e.repository ≡ None
    → TableOf Types (with_identity t e)
identity_added t e laws identified new = record {
  types = laws.types;
  begins = laws.begins;
  operations = laws.operations;
  exceptions = laws.exceptions;
  operations_distinct = laws.operations_distinct;
  exceptions_distinct = laws.exceptions_distinct;
  operations_few = laws.operations_few;
  exceptions_few = laws.exceptions_few;
  declared_few = laws.declared_few;
  called_few = laws.called_few;
  identities = All-push (IsIdentity t.types) t.identities e laws.identities identified;
  identities_distinct = distinct_push (λ (x : Identity). x.repository) no_identity t.identities e
      laws.identities_distinct
      (none_before (identity_type_at t) (position
      (λ (x : Identity). bytes_eq e.repository x.repository)
      t.identities) new);
  interfaces_few = laws.interfaces_few;
  anys = laws.anys;
}

-- the table after a new repository id was put
pub identity_put : (here : Table) (es new : List (ArrayVec ℕ × TypeId)) (t : Table)
    (key : ArrayVec ℕ) (m : TypeId) (name : List ℕ) → here.identities ≡ map identity_view es
    → here ≡ t → key.items ≡ name → identified_in t name ≡ None
    → new ≡ insert_entry same_key es key m
    → record here { identities = map identity_view new }
    ≡ with_identity t (record { repository = name; type = m.0 })
identity_put here es new t key m name kept view same none is =
    let none_here : identified_in here name ≡ None =
    ap (λ (u : Table). identified_in u name) view ∙ none in
    let none_view = ap (λ xs. position (λ (e : Identity). bytes_eq name e.repository) xs)
    (sym kept)
    ∙ none_before (identity_type_at here) (position (λ (e : Identity). bytes_eq name e.repository)
    here.identities) none_here in
    let put = entries_put identity_view (λ (e : Identity). e.repository) es new key m name same
    (λ e. refl) none_view is in
    ap (λ xs. record here { identities = xs }) (put
    ∙ ap (λ (xs : List Identity). xs ++ identity_view (key, m) ∷ []) (sym kept))
    ∙ ap (λ (n : List ℕ). with_identity here (record { repository = n; type = m.0 })) same
    ∙ ap (λ u. with_identity u (record { repository = name; type = m.0 })) view
