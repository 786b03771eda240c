-- Looking up by name: the index in a list of keys is that in the table's list. For operations,
-- exceptions and repository ids of types.
use Rattle.std.proofs.Common.{◌≡◌, ℕ, zero, suc, ◌<◌, ◌≤◌, Bool, cond, not, List, [], ◌∷◌, length, map, get_or, Option, Some, None, refl, sym, ap, ◌∙◌, arith}
use Rattle.std.specs.Prelude.{slice_get}
use Rattle.std.specs.List.{position, position_or_len}
use Rattle.std.specs.Option.{option_map}
use Rattle.std.specs.Str.{bytes_eq}
use Rattle.std.proofs.lemmas.List.{length-map}
use Rattle.std.proofs.lemmas.List.Quantifiers.{position-Some}
use Rattle.std.proofs.lemmas.Slice.Eq.{bytes_eq-Decides}
use mathlib.Core.Path.{fun_ext}
use Rattle.arrayvec.specs.ArrayVec.{ArrayVec}
use Rattle.giop_sig.specs.declared.types.TypeId.{TypeId}
use Rattle.giop_sig.specs.declared.catalogue.Signature.{Signature}
use Rattle.giop_sig.specs.Table.{Operation, Exception, Identity, Table, op_id, type_id, no_operation, no_exception, no_identity, operation_key, operation_number_of_key, exception_in, exception_members_at, identified_in, identity_type_at}
use Rattle.giop_sig.specs.HeaderTypes.{IsTable}
use Rattle.giop_sig.specs.Entries.{operation_view, exception_view, identity_view}

position_or_len-map : {X Y : Type 0} (p : Y → Bool) (f : X → Y) (xs : List X)
    → position_or_len p (map f xs) ≡ position_or_len (λ x. p (f x)) xs
position_or_len-map p f [] = refl
position_or_len-map p f (x ∷ xs) = search (arith, cond, not, position_or_len-map p f xs)

pub position-map : {X Y : Type 0} (p : Y → Bool) (f : X → Y) (xs : List X)
    → position p (map f xs) ≡ position (λ x. p (f x)) xs
position-map p f xs = search (arith, position_or_len-map, length-map)

-- a name is found at the index of its key
index_of : {K V X : Type 0} (items : K → List ℕ) (view : K × V → X) (name_in : X → List ℕ)
    (es : List (K × V)) (key name : List ℕ) → key ≡ name
    → ((e : K × V) → name_in (view e) ≡ items e.0)
    → position (λ k. bytes_eq key (items k)) (map (λ (e : K × V). e.0) es)
    ≡ position (λ x. bytes_eq name (name_in x)) (map view es)
index_of {K} {V} items view name_in es key name same named =
    position-map (λ k. bytes_eq key (items k)) (λ (e : K × V). e.0) es
    ∙ ap (λ (n : List ℕ). position (λ (e : K × V). bytes_eq n (items e.0)) es) same
    ∙ ap (λ (f : K × V → List ℕ). position (λ (e : K × V). bytes_eq name (f e)) es)
    (fun_ext (λ e. sym (named e)))
    ∙ sym (position-map (λ x. bytes_eq name (name_in x)) view es)

none_from : (o : Option ℕ) → ((i : ℕ) → o ≡ Some i → ⊥) → o ≡ None
none_from None h = refl
none_from (Some i) h = absurd (h i refl)

-- a name that is longer than all others isn't found
pub not_there : {X : Type 0} (name_in : X → List ℕ) (xs : List X) (d : X) (name : List ℕ)
    → (most : ℕ) → ((i : ℕ) → i < length xs → length (name_in (get_or xs i d)) ≤ most)
    → most < length name
    → position (λ x. bytes_eq name (name_in x)) xs ≡ None
not_there name_in xs d name most short long =
    none_from (position (λ x. bytes_eq name (name_in x)) xs) (λ i e.
    let s = position-Some (λ x. bytes_eq name (name_in x)) xs i d e in
    let same = (bytes_eq-Decides name (name_in (get_or xs i d))).0 s.1 in
    omega (arith, short i s.0, ap length same))

-- ---- operations

pub no_operation_long : (t : Table) (interface : ℕ) (name : List ℕ) → IsTable t
    → 128 < length name → None ≡ option_map op_id
    (operation_number_of_key t (operation_key interface name))
no_operation_long t interface name laws long =
    sym (ap (option_map op_id) (not_there (λ (o : Operation). o.key) t.operations no_operation
    (operation_key interface name) 130
    (λ i lt. (laws.operations i no_operation lt).short) (omega arith)))

-- what is found among the keys is in the table
pub operation_found : (es : List (ArrayVec ℕ × Signature)) (t : Table) (key name : List ℕ)
    (r : Option ℕ) → map operation_view es ≡ t.operations → key ≡ name
    → r ≡ position (λ (k : ArrayVec ℕ). bytes_eq key k.items)
    (map (λ (e : ArrayVec ℕ × Signature). e.0) es)
    → option_map op_id r ≡ option_map op_id (operation_number_of_key t name)
operation_found es t key name r view same is =
    ap (option_map op_id) (is ∙ index_of (λ (k : ArrayVec ℕ). k.items) operation_view
    (λ (o : Operation). o.key) es key name same (λ e. refl)
    ∙ ap (λ (os : List Operation). position (λ (o : Operation). bytes_eq name o.key) os) view)

read_map : {X Y : Type 0} (f : X → Y) (xs : List X) (i : ℕ) (x : X) (d : Y)
    → slice_get xs i ≡ Some x → get_or (map f xs) i d ≡ f x
read_map f [] i x d e = absurd cc
read_map f (y ∷ xs) zero x d e = search (arith)
read_map f (y ∷ xs) (suc i) x d e = read_map f xs i x d e

inside_by : {X : Type 0} (xs : List X) (i : ℕ) (x : X) → slice_get xs i ≡ Some x → i < length xs
inside_by [] i x e = absurd cc
inside_by (y ∷ xs) zero x e = omega arith
inside_by (y ∷ xs) (suc i) x e = omega (arith, inside_by xs i x e)

-- the types of an operation that was read are known
pub signature_known : (es : List (ArrayVec ℕ × Signature)) (view t : Table) (i : ℕ)
    (e : ArrayVec ℕ × Signature) → IsTable view → view ≡ t → view.operations ≡ map operation_view es
    → slice_get es i ≡ Some e
    → (e.1.request.0 < length t.types) × (e.1.reply.0 < length t.types)
signature_known es view t i e laws same kept at = search (
  arith,
  length-map,
  inside_by,
  get_or,
  read_map,
)

-- ---- exceptions

pub no_exception_long : (t : Table) (name : List ℕ) → IsTable t → 128 < length name
    → None ≡ exception_in t name
no_exception_long t name laws long =
    sym (ap (option_map (exception_members_at t))
    (not_there (λ (e : Exception). e.repository) t.exceptions
    no_exception name 128
    (λ i lt. (laws.exceptions i no_exception lt).short) long))

pub exception_index : (es : List (ArrayVec ℕ × TypeId)) (t : Table) (key name : List ℕ)
    (r : Option ℕ) → map exception_view es ≡ t.exceptions → key ≡ name
    → r ≡ position (λ (k : ArrayVec ℕ). bytes_eq key k.items)
    (map (λ (e : ArrayVec ℕ × TypeId). e.0) es) → option_map (exception_members_at t) r
    ≡ exception_in t name
exception_index es t key name r view same is =
    ap (option_map (exception_members_at t)) (is ∙ index_of
    (λ (k : ArrayVec ℕ). k.items) exception_view
    (λ (e : Exception). e.repository) es key name same (λ e. refl)
    ∙ ap (λ (xs : List Exception). position (λ (e : Exception). bytes_eq name e.repository) xs)
    view)

pub exception_none : (es : List (ArrayVec ℕ × TypeId)) (t : Table) (key name : List ℕ)
    → map exception_view es ≡ t.exceptions → key ≡ name
    → None ≡ position (λ (k : ArrayVec ℕ). bytes_eq key k.items)
    (map (λ (e : ArrayVec ℕ × TypeId). e.0) es) → None ≡ exception_in t name
exception_none es t key name view same is = exception_index es t key name None view same is

pub exception_found : (es : List (ArrayVec ℕ × TypeId)) (t : Table) (key name : List ℕ) (i : ℕ)
    (e : ArrayVec ℕ × TypeId) → map exception_view es ≡ t.exceptions → key ≡ name
    → Some i ≡ position (λ (k : ArrayVec ℕ). bytes_eq key k.items)
    (map (λ (e : ArrayVec ℕ × TypeId). e.0) es) → slice_get es i ≡ Some e
    → Some e.1 ≡ exception_in t name
exception_found es t key name i e view same is at =
    let read : get_or t.exceptions i no_exception ≡ exception_view e =
    ap (λ (xs : List Exception). get_or xs i no_exception) (sym view)
    ∙ read_map exception_view es i e no_exception at in
    ap (λ (x : Exception). Some (type_id x.members)) (sym read)
    ∙ exception_index es t key name (Some i) view same is

pub exception_known : (es : List (ArrayVec ℕ × TypeId)) (t : Table) (i : ℕ)
    (e : ArrayVec ℕ × TypeId) → IsTable t → map exception_view es ≡ t.exceptions
    → slice_get es i ≡ Some e → e.1.0 < length t.types
exception_known es t i e laws view at = search (arith, length-map, inside_by, get_or, read_map)

-- ---- repository ids of types

pub no_identity_long : (t : Table) (name : List ℕ) → IsTable t → 128 < length name
    → None ≡ identified_in t name
no_identity_long t name laws long =
    sym (ap (option_map (identity_type_at t))
    (not_there (λ (e : Identity). e.repository) t.identities
    no_identity name 128
    (λ i lt. (laws.identities i no_identity lt).short) long))

pub identity_index : (es : List (ArrayVec ℕ × TypeId)) (t : Table) (key name : List ℕ)
    (r : Option ℕ) → map identity_view es ≡ t.identities → key ≡ name
    → r ≡ position (λ (k : ArrayVec ℕ). bytes_eq key k.items)
    (map (λ (e : ArrayVec ℕ × TypeId). e.0) es)
    → option_map (identity_type_at t) r ≡ identified_in t name
identity_index es t key name r view same is =
    ap (option_map (identity_type_at t)) (is ∙ index_of (λ (k : ArrayVec ℕ). k.items) identity_view
    (λ (e : Identity). e.repository) es key name same (λ e. refl)
    ∙ ap (λ (xs : List Identity). position (λ (e : Identity). bytes_eq name e.repository) xs)
    view)

pub identity_none : (es : List (ArrayVec ℕ × TypeId)) (t : Table) (key name : List ℕ)
    → map identity_view es ≡ t.identities → key ≡ name
    → None ≡ position (λ (k : ArrayVec ℕ). bytes_eq key k.items)
    (map (λ (e : ArrayVec ℕ × TypeId). e.0) es) → None ≡ identified_in t name
identity_none es t key name view same is = identity_index es t key name None view same is

pub identity_found : (es : List (ArrayVec ℕ × TypeId)) (t : Table) (key name : List ℕ) (i : ℕ)
    (e : ArrayVec ℕ × TypeId) → map identity_view es ≡ t.identities → key ≡ name
    → Some i ≡ position (λ (k : ArrayVec ℕ). bytes_eq key k.items)
    (map (λ (e : ArrayVec ℕ × TypeId). e.0) es) → slice_get es i ≡ Some e
    → Some e.1 ≡ identified_in t name
identity_found es t key name i e view same is at =
    let read : get_or t.identities i no_identity ≡ identity_view e =
    ap (λ (xs : List Identity). get_or xs i no_identity) (sym view)
    ∙ read_map identity_view es i e no_identity at in
    ap (λ (x : Identity). Some (type_id x.type)) (sym read)
    ∙ identity_index es t key name (Some i) view same is

pub identity_known : (es : List (ArrayVec ℕ × TypeId)) (t : Table) (i : ℕ)
    (e : ArrayVec ℕ × TypeId) → IsTable t → map identity_view es ≡ t.identities
    → slice_get es i ≡ Some e → e.1.0 < length t.types
identity_known es t i e laws view at = search (arith, length-map, inside_by, get_or, read_map)
