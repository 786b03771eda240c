-- Looking up names in a scope; and a scope stays well formed after types and names were added.
use Rattle.std.proofs.Common.{◌≡◌, ℕ, ◌≤◌, Bool, true, false, cond, ◌||◌, List, [], ◌∷◌, ◌++◌, length, map, Option, Some, None, append_assoc, refl, sym, ap, ◌∙◌, arith, Bor}
use Rattle.std.specs.List.{AllByRecursion, list_any}
use Rattle.std.specs.Map.{lookup}
use Rattle.std.specs.Option.{option_map, option_copied, is_some}
use Rattle.std.specs.Str.{bytes_eq}
use Rattle.std.proofs.lemmas.List.{length-append, get_or_append_left, map-append}
use Rattle.indexmap.specs.IndexMap.{insert_entry}
use Rattle.giop_sig.proofs.Added.{entry_last, type_added}
use Rattle.arrayvec.specs.ArrayVec.{ArrayVec}
use Rattle.giop_cdr.specs.declared.prim.Primitive.TheVariants.{Octet}
use Rattle.giop_sig.specs.declared.announced.Announcement.{Announcement}
use Rattle.giop_sig.specs.declared.announced.TypeWord.{TypeWord}
use Rattle.giop_sig.specs.declared.types.TypeId.{TypeId}
use Rattle.giop_sig.specs.Interfaces.{Interfaces}
use Rattle.giop_sig.specs.AnyTypes.{first_types}
use Rattle.giop_sig.specs.Table.{Node, Table}
use Rattle.giop_sig.specs.Table as nodes
use Rattle.giop_sig.specs.Trees.{depth_of, AreFormed, AreResolved}
use Rattle.giop_sig.specs.HeaderTypes.{IsAddable, KnowsAnys, TableOf, IsTable}
use Rattle.giop_sig.specs.RequestList.{option_flatten}
use Rattle.giop_sig.specs.Scopes.{Announced, Scope, announced_as, named, with_announced, with_node, with_name}
use Rattle.giop_sig.specs.ScopeViews.{announced_view, announcement_view, same_key_octets, name_view, number_of_id, scope_view, IsAnnounced, IsAnnouncedName, IsKnown, IsKnownType, IsDeclaredName, IsScope, IsDraft}

-- ---- look-ups

cond_map : {X Y : Type 0} (f : X → Y) (v : Bool) (x : X) (o : Option X)
    → cond v (Some (f x)) (option_map f o) ≡ option_map f (cond v (Some x) o)
cond_map f true x o = refl
cond_map f false x o = refl

view_found : (key : ArrayVec ℕ) (es : List (ArrayVec ℕ × Option TypeId))
    → lookup (bytes_eq key.items) (map name_view es)
    ≡ option_map number_of_id (lookup (same_key_octets key) es)
view_found key [] = refl
view_found key (e ∷ es) = search (arith, cond, cond_map, view_found key es)

pub some_map : {X Y : Type 0} (f : X → Y) (o : Option X) → is_some (option_map f o) ≡ is_some o
some_map f None = refl
some_map f (Some x) = refl

flat_map : (o : Option (Option TypeId)) → number_of_id (option_flatten o) ≡ option_flatten
    (option_map number_of_id o)
flat_map None = refl
flat_map (Some t) = refl

-- what is found for a key among the names of a scope
pub name_found : (s : Scope) (version : ℕ) (t : Table) (es : List (ArrayVec ℕ × Option TypeId))
    (xs : List (ArrayVec ℕ × Announcement)) (key : ArrayVec ℕ) (w : List ℕ)
    → scope_view version t es xs ≡ s → key.items ≡ w
    → lookup (bytes_eq w) s.names.known ≡ option_map number_of_id (lookup (same_key_octets key) es)
name_found s version t es xs key w view same = search (arith, map, view_found)

pub name_declared : (s : Scope) (version : ℕ) (t : Table) (es : List (ArrayVec ℕ × Option TypeId))
    (xs : List (ArrayVec ℕ × Announcement)) (key : ArrayVec ℕ) (w : List ℕ)
    → scope_view version t es xs ≡ s → key.items ≡ w
    → is_some (lookup (same_key_octets key) es) ≡ is_some (lookup (bytes_eq w) s.names.known)
name_declared s version t es xs key w view same =
    sym (some_map number_of_id (lookup (same_key_octets key) es))
    ∙ ap is_some (sym (name_found s version t es xs key w view same))

pub name_typed : (s : Scope) (version : ℕ) (t : Table) (es : List (ArrayVec ℕ × Option TypeId))
    (xs : List (ArrayVec ℕ × Announcement)) (key : ArrayVec ℕ) (w : List ℕ)
    → scope_view version t es xs ≡ s → key.items ≡ w
    → number_of_id (option_flatten (lookup (same_key_octets key) es)) ≡ named s.names w
name_typed s version t es xs key w view same =
    flat_map (lookup (same_key_octets key) es) ∙ ap option_flatten
    (sym (name_found s version t es xs key w view same))

-- how a name is announced
announced_found : (key : ArrayVec ℕ) (xs : List (ArrayVec ℕ × Announcement))
    → lookup (bytes_eq key.items) (map announced_view xs)
    ≡ option_map announcement_view (lookup (same_key_octets key) xs)
announced_found key [] = refl
announced_found key (e ∷ es) = search (arith, cond, cond_map, announced_found key es)

pub name_announced : (s : Scope) (version : ℕ) (t : Table)
    (es : List (ArrayVec ℕ × Option TypeId)) (xs : List (ArrayVec ℕ × Announcement))
    (key : ArrayVec ℕ) (w : List ℕ) → scope_view version t es xs ≡ s → key.items ≡ w
    → option_map announcement_view (lookup (same_key_octets key) xs) ≡ announced_as s.names w
name_announced s version t es xs key w view same =
    sym (announced_found key xs)
    ∙ ap (λ n. lookup (bytes_eq n) (map announced_view xs)) same
    ∙ ap (λ (x : Scope). announced_as x.names w) view

-- ---- scopes that grow

pub known_stays : (types more : List Node) (i : ℕ) → IsKnown types i → IsKnown (types ++ more) i
known_stays types more i is = search (arith, length-append, get_or_append_left)

type_stays : (types more : List Node) (o : Option ℕ) → IsKnownType types o
    → IsKnownType (types ++ more) o
type_stays types more None is = tt
type_stays types more (Some i) is = known_stays types more i is

names_stay : (types more : List Node) (names : List (List ℕ × Option ℕ))
    → AllByRecursion (IsDeclaredName types) names
    → AllByRecursion (IsDeclaredName (types ++ more)) names
names_stay types more [] all = tt
names_stay types more (e ∷ es) all = search (arith, type_stays, names_stay types more es all.1)

announced_stays : (version : ℕ) (types more : List Node) (i : ℕ) → IsAnnounced version types i
    → IsAnnounced version (types ++ more) i
announced_stays version types more i is = record {
  third = is.third;
  below = let below = is.below in omega (arith, length-append types more);
  is = (is.is.0, get_or_append_left types more (nodes.prim Octet) i is.below ∙ is.is.1);
}

all_announced : (version : ℕ) (types more : List Node) (xs : List (List ℕ × Announced))
    → AllByRecursion (IsAnnouncedName version types) xs
    → AllByRecursion (IsAnnouncedName version (types ++ more)) xs
all_announced version types more [] all = tt
all_announced version types more (e ∷ es) all =
    (announced_stays version types more e.1.type all.0, all_announced version types more es all.1)

-- a scope with one more type
pub scope_grows : (s : Scope) (n : Node) → IsScope s → IsScope (with_node s n).0
scope_grows s n is = record {
  begins = (
    is.begins.0 ++ n ∷ [],
    ap (λ xs. xs ++ n ∷ []) is.begins.1
        ∙ append_assoc (first_types s.names.version) is.begins.0 (n ∷ []),
  );
  names = names_stay s.table.types (n ∷ []) s.names.known is.names;
  announced = all_announced s.table.version s.table.types (n ∷ []) s.names.announced
      is.announced;
}

-- a draft with one more type
pub draft_grows : (s : Scope) (n : Node) → IsDraft s → IsAddable s.table.version n
    → AreFormed (s.table.types ++ n ∷ []) → IsDraft (with_node s n).0
draft_grows s n is addable are =
    record { scope = scope_grows s n is.scope; table = type_added s.table n is.table addable are }

-- a draft with another table
pub draft_table : (version : ℕ) (t u v : Table) (es : List (ArrayVec ℕ × Option TypeId))
    (xs : List (ArrayVec ℕ × Announcement)) (s : Scope) → scope_view version t es xs ≡ s → u ≡ v
    → scope_view version u es xs ≡ record s { table = v }
draft_table version t u v es xs s view same =
    ap (λ w. scope_view version w es xs) same ∙ ap (λ (x : Scope). record x { table = v }) view

-- a draft with other interfaces
pub draft_called : (s : Scope) (i : Interfaces) → IsDraft s → length i.names ≤ 1024
    → IsDraft (record s { table = record (s.table) { interfaces = i } })
draft_called s i is few = record {
  scope = record {
    begins = is.scope.begins;
    names = is.scope.names;
    announced = is.scope.announced;
  };
  table = record {
    types = is.table.types;
    begins = is.table.begins;
    operations = is.table.operations;
    exceptions = is.table.exceptions;
    operations_distinct = is.table.operations_distinct;
    exceptions_distinct = is.table.exceptions_distinct;
    operations_few = is.table.operations_few;
    exceptions_few = is.table.exceptions_few;
    declared_few = is.table.declared_few;
    called_few = is.table.called_few;
    identities = is.table.identities;
    identities_distinct = is.table.identities_distinct;
    interfaces_few = few;
    anys = is.table.anys;
  };
}

-- a draft with other fronts of repository ids
pub draft_fronts : (s : Scope) (fs : List (List ℕ)) → IsDraft s
    → KnowsAnys s.table.version s.table.types fs
    → IsDraft (record s { table = record (s.table) { fronts = fs } })
draft_fronts s fs is anys = record {
  scope = record {
    begins = is.scope.begins;
    names = is.scope.names;
    announced = is.scope.announced;
  };
  table = record {
    types = is.table.types;
    begins = is.table.begins;
    operations = is.table.operations;
    exceptions = is.table.exceptions;
    operations_distinct = is.table.operations_distinct;
    exceptions_distinct = is.table.exceptions_distinct;
    operations_few = is.table.operations_few;
    exceptions_few = is.table.exceptions_few;
    declared_few = is.table.declared_few;
    called_few = is.table.called_few;
    identities = is.table.identities;
    identities_distinct = is.table.identities_distinct;
    interfaces_few = is.table.interfaces_few;
    anys = anys;
  };
}

-- a draft that is complete is the table of a catalogue
pub whole : (t : Table) → TableOf AreFormed t → depth_of t.types ≤ 24 → AreResolved t.types
    → IsTable t
whole t is shallow settled = search (arith)

pub some_copied : {X : Type 0} (o : Option (Bor X)) → is_some o ≡ is_some (option_copied o)
some_copied None = refl
some_copied (Some x) = refl

-- ---- one more name

none_by : {V : Type 0} (key : ArrayVec ℕ) (e : ArrayVec ℕ × V) (es : List (ArrayVec ℕ × V))
    (v : Bool) → same_key_octets key e.0 ≡ v → cond v (Some e.1) (lookup (same_key_octets key) es)
    ≡ None
    → (lookup (same_key_octets key) es ≡ None
    → list_any (λ (x : ArrayVec ℕ × V). same_key_octets key x.0) es ≡ false)
    → (v || list_any (λ (x : ArrayVec ℕ × V). same_key_octets key x.0) es) ≡ false
none_by key e es true same h on = absurd cc
none_by key e es false same h on = on h

pub none_found : {V : Type 0} (key : ArrayVec ℕ) (es : List (ArrayVec ℕ × V))
    → lookup (same_key_octets key) es ≡ None
    → list_any (λ (x : ArrayVec ℕ × V). same_key_octets key x.0) es ≡ false
none_found key [] h = refl
none_found key (e ∷ es) h = none_by key e es (same_key_octets key e.0) refl h (none_found key es)

pub none_before : {X Y : Type 0} (f : X → Y) (o : Option X) → option_map f o ≡ None → o ≡ None
none_before f None e = refl
none_before f (Some x) e = absurd cc

-- the fields after a new name was put
pub put_name : (s : Scope) (version : ℕ) (t : Table) (es new : List (ArrayVec ℕ × Option TypeId))
    (xs : List (ArrayVec ℕ × Announcement)) (key : ArrayVec ℕ) (v : Option TypeId) (w : List ℕ)
    → scope_view version t es xs ≡ s → key.items ≡ w → lookup (bytes_eq w) s.names.known ≡ None
    → new ≡ insert_entry same_key_octets es key v
    → scope_view version t new xs ≡ with_name s w (number_of_id v)
put_name s version t es new xs key v w view same none is =
    let unseen_label : lookup (same_key_octets key) es ≡ None =
    none_before number_of_id (lookup (same_key_octets key) es)
    (sym (name_found s version t es xs key w view same) ∙ none) in
    let last : new ≡ es ++ (key, v) ∷ [] =
    is ∙ entry_last same_key_octets es key v (none_found key es unseen_label) in
    ap (λ ns. scope_view version t ns xs) last ∙ ap (λ ns. record {
      table = t;
      names = record { version = version; known = ns; announced = map announced_view xs };
    })
    (map-append name_view es ((key, v) ∷ []))
    ∙ ap (λ (x : Scope). with_name x key.items (number_of_id v)) view
    ∙ ap (λ n. with_name s n (number_of_id v)) same

all_last : (types : List Node) (names : List (List ℕ × Option ℕ)) (e : List ℕ × Option ℕ)
    → AllByRecursion (IsDeclaredName types) names → IsDeclaredName types e
    → AllByRecursion (IsDeclaredName types) (names ++ e ∷ [])
all_last types [] e all is = (is, tt)
all_last types (n ∷ ns) e all is = (all.0, all_last types ns e all.1 is)

-- a scope with one more name
pub scope_named : (s : Scope) (w : List ℕ) (o : Option ℕ) → IsScope s → length w ≤ 64
    → IsKnownType s.table.types o → IsScope (with_name s w o)
scope_named s w o is short known = record {
  begins = is.begins;
  names = all_last s.table.types s.names.known (w, o) is.names
      (record { short = short; type = known });
  announced = is.announced;
}

-- ---- a name that is announced

announced_last : (version : ℕ) (types : List Node) (xs : List (List ℕ × Announced))
    (e : List ℕ × Announced) → AllByRecursion (IsAnnouncedName version types) xs
    → IsAnnouncedName version types e
    → AllByRecursion (IsAnnouncedName version types) (xs ++ e ∷ [])
announced_last version types [] e all is = (is, tt)
announced_last version types (a ∷ xs) e all is =
    (all.0, announced_last version types xs e all.1 is)

pub scope_announced : (s : Scope) (w : List ℕ) (word : TypeWord) (i : ℕ) → IsScope s
    → IsAnnounced s.table.version s.table.types i
    → IsScope (with_announced word w (s, i))
scope_announced s w word i is at = record {
  begins = is.begins;
  names = is.names;
  announced = announced_last s.table.version s.table.types s.names.announced
      (w, record { word = word; type = i }) is.announced at;
}

-- the fields after a new announcement was put
pub put_announced : (s : Scope) (version : ℕ) (t : Table) (es : List (ArrayVec ℕ × Option TypeId))
    (xs new : List (ArrayVec ℕ × Announcement)) (key : ArrayVec ℕ) (a : Announcement) (w : List ℕ)
    → scope_view version t es xs ≡ s → key.items ≡ w → announced_as s.names w ≡ None
    → new ≡ insert_entry same_key_octets xs key a
    → scope_view version t es new ≡ with_announced a.word w (s, a.type_id.0)
put_announced s version t es xs new key a w view same none is =
    let unseen : lookup (same_key_octets key) xs ≡ None =
    none_before announcement_view (lookup (same_key_octets key) xs)
    (name_announced s version t es xs key w view same ∙ none) in
    let last : new ≡ xs ++ (key, a) ∷ [] =
    is ∙ entry_last same_key_octets xs key a (none_found key xs unseen) in
    ap (scope_view version t es) last ∙ ap (λ ns. record {
      table = t;
      names = record { version = version; known = map name_view es; announced = ns };
    })
    (map-append announced_view xs ((key, a) ∷ []))
    ∙ ap (λ (x : Scope). with_announced a.word key.items (x, a.type_id.0)) view
    ∙ ap (λ n. with_announced a.word n (s, a.type_id.0)) same
