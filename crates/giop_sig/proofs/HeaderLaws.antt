-- The request id is the first member of the headers that begin with it.
use Rattle.std.proofs.Common.{arith, ◌≡◌, ℕ, zero, suc, Bool, true, false, inl, inr, Option, Some, None, refl, sym, subst}
use Rattle.std.specs.Prelude.{IfSome, cond, slice_get, ◌==◌}
use Rattle.std.specs.Option.{option_map}
use Rattle.giop_sig.specs.Types.{Ty}
use Rattle.giop_sig.specs.Table.{Table}
use Rattle.giop_sig.specs.Trees.{tree_at, tree}
use Rattle.giop_sig.specs.Builtin.{builtin_types, older_number}
use Rattle.giop_sig.specs.AnyTypes.{first_table, version_3_types}
use Rattle.giop_sig.specs.HeaderTypes.{cell_of_minor, header_type_number, header_rows, header_type, RequestIdStandsFirst, BeginsWithId, IsTable}
use Rattle.giop_sig.proofs.Builtins.{header_found}

-- the header types of the table of version 3 or of the other versions
abbrev header_type_by_version : (flag : Bool) (version minor kind : ℕ) → Option Ty
header_type_by_version v version minor kind =
    option_map (tree (record (first_table version)
    { types = cond v version_3_types builtin_types }))
    (option_map (λ n. cond v n (older_number n)) (cell_of_minor (slice_get header_rows kind) minor))

in_last : (v : Bool) (version kind : ℕ) → IfSome
    (header_type_by_version v version 2 kind) BeginsWithId
unfolding tree_at builtin_types version_3_types
in_last v version (suc (suc (suc (suc (suc zero))))) = tt
in_last v version (suc (suc (suc (suc (suc (suc zero)))))) = tt
in_last v version (suc (suc (suc (suc (suc (suc (suc (suc kind)))))))) = tt
in_last true version _ = (_, _, _, refl, refl, refl)
in_last false version _ = (_, _, _, refl, refl, refl)

in_cancel : (v : Bool) (version minor : ℕ) → IfSome
    (header_type_by_version v version minor 2) BeginsWithId
unfolding tree_at builtin_types version_3_types
in_cancel v version (suc (suc (suc minor))) = tt
in_cancel true version _ = (_, _, _, refl, refl, refl)
in_cancel false version _ = (_, _, _, refl, refl, refl)

pub id_first : (version minor kind : ℕ) → RequestIdStandsFirst minor kind
    → IfSome (header_type version minor kind) BeginsWithId
id_first version minor kind (inl last) =
    subst (λ m. IfSome (header_type version m kind) BeginsWithId) (sym last)
    (in_last (version == 3) version kind)
id_first version minor kind (inr cancel) =
    subst (λ k. IfSome (header_type version minor k) BeginsWithId) (sym cancel)
    (in_cancel (version == 3) version minor)

some_of_map : {X : Type 0} (P : Ty → Type 0) (f : X → Ty) (r : Option X) (o : Option Ty)
    → option_map f r ≡ o → IfSome o P → IfSome r (λ x. P (f x))
some_of_map P f None o e h = tt
some_of_map P f (Some x) o e h = search (arith)

pub id_found : {X : Type 0} (t : Table) (f : X → ℕ) (r : Option X) (minor kind : ℕ) → IsTable t
    → option_map f r ≡ header_type_number t.version minor kind → RequestIdStandsFirst minor kind
    → IfSome r (λ x. BeginsWithId (tree t (f x)))
id_found t f r minor kind laws e first =
    some_of_map BeginsWithId (λ x. tree t (f x)) r
    (header_type t.version minor kind) (header_found t f r minor kind laws e)
    (id_first t.version minor kind first)
