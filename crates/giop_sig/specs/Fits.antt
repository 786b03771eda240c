-- Types that a reader has room for and whose parts take an octet each (meaning).
use Rattle.std.specs.Prelude.{◌≡◌, ℕ, zero, suc, ◌<◌, ◌⊎◌, true}
use Rattle.giop_sig.specs.declared.types.Selected.{Selected}
use Rattle.giop_sig.specs.declared.types.Selected.TheVariants.{Case}
use Rattle.giop_sig.specs.Types.{Ty, case_count, Struct, Union, Sequence, Array, Encapsulation, Recursive, Led, InferredType, Then, sequel}

-- each case that is selected is one of the first `count`
abbrev pub SelectsBelow : (union_case_count : ℕ) (selected_by_discriminator : ℕ → Selected) → Type 0
SelectsBelow count select = (n i : ℕ) → select n ≡ Case i → i < count

-- no deeper than this depth, and each part takes an octet
unfoldable pub IsFit : (most_depth : ℕ) (type : Ty) → Type 0
IsFit (suc depth) (Struct count names parts) =
    (0 < count) × ((i : ℕ) → i < count → IsFit depth (parts i))
IsFit (suc depth) (Array count T) = (0 < count) × IsFit depth T
IsFit (suc depth) (Sequence bound T) = IsFit depth T
IsFit (suc depth) (Encapsulation T) = IsFit depth T
IsFit (suc depth) (Recursive bound fits T) = fits ≡ true → IsFit depth T
IsFit (suc depth) (Led h F parts) =
    IsFit depth F × ((told : InferredType) (i : ℕ) → sequel h told ≡ Then i → IsFit depth (parts i))
IsFit (suc depth) (Union choice scalar select names cases) =
    SelectsBelow (case_count choice) select ×
    ((i : ℕ) → i < case_count choice → IsFit depth (cases i))
IsFit (suc depth) T = Unit {0}
IsFit zero T = ⊥

-- the struct without members, which takes no octet
abbrev pub IsEmptyStruct : (type : Ty) → Type 0
IsEmptyStruct (Struct zero names parts) = Unit {0}
IsEmptyStruct T = ⊥

-- a type that is allowed at the root of a message; the empty struct is allowed there alone
abbrev pub IsRoot : (type : Ty) → Type 0
IsRoot T = IsFit 24 T ⊎ IsEmptyStruct T
