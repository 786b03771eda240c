-- A text is at most one request list, and a text that is a list isn't refused.
use Rattle.std.proofs.Common.{◌≡◌, ℕ, ◌<◌, Bool, false, List, [], ◌∷◌, ◌++◌, map, length, Option, Some, None, inl, inr, refl, sym, ap, ◌∙◌, subst, arith}
use Rattle.std.specs.Fmt.{decimal}
use Rattle.std.specs.Prelude.{Result, Ok, Err, IfOk, IfErr}
use Rattle.std.specs.List.{AllByRecursion}
use Rattle.std.proofs.lemmas.Fmt.{decimal_injective}
use Rattle.std.proofs.lemmas.List.Elements.{recursion_from_All}
use Rattle.std.proofs.lemmas.List.{length-map}
use Rattle.giop_sig.specs.declared.fault.ListFault.{ListFault}
use Rattle.giop_sig.specs.declared.fault.ListFaultKind.{ListFaultKind}
use Rattle.giop_sig.specs.declared.fault.ListFaultKind.TheVariants.{Syntax, Limit, OutOfMemory}
use Rattle.giop_sig.specs.RequestList.{Asked, Entry, IsName, IsAsked, IsEntry, words, line_of, IsEntryLine, Lists, ReachesLine, IsRefusedAs}
use Rattle.giop_sig.proofs.ListLines.{NonePass, none_cut, cut_same}
use Rattle.giop_sig.proofs.ListEntries.{is_space, entry_cut, words_cut, name_no_space}

-- a name has no space
spaced : (m n id : List ℕ) → IsName m → m ≡ n ++ 32 ∷ id → ⊥
spaced m n id h is =
    let apart : is_space 32 ≡ false = none_cut is_space n 32 id
    (subst (NonePass is_space) is (name_no_space m h)) in
    absurd cc

one_asked : (third : Bool) (m n : List ℕ) (i j : Option (List ℕ))
    → IsAsked third (record { name = m; interface = i })
    → IsAsked third (record { name = n; interface = j }) → words m i ≡ words n j
    → (m ≡ n) × (i ≡ j)
one_asked third m n None None p q h = (h, refl)
one_asked third m n None (Some j) p q h = absurd (spaced m n j p.name h)
one_asked third m n (Some i) None p q h = absurd (spaced n m i q.name (sym h))
one_asked third m n (Some i) (Some j) p q h =
    let same = cut_same is_space (words m (Some i)) m 32 i n 32 j
    (words_cut (words m (Some i)) m i p.name refl) (words_cut (words m (Some i)) n j q.name h) in
    (same.0, ap Some same.1)

asked_is : (a b : Asked) → (a.name ≡ b.name) × (a.interface ≡ b.interface) → a ≡ b
asked_is a b h = search (arith)

entry_is : (e f : Entry) → e.id ≡ f.id → e.asked ≡ f.asked → e ≡ f
entry_is e f h k = search (arith)

one_entry : {third : Bool} (e f : Entry) → IsEntry third e → IsEntry third f
    → line_of e ≡ line_of f → e ≡ f
one_entry {third} e f p q h =
    let same = cut_same is_space (line_of e) (decimal e.id) 32
    (words e.asked.name e.asked.interface) (decimal f.id) 32 (words f.asked.name f.asked.interface)
    (entry_cut (line_of e) e p refl) (entry_cut (line_of e) f q h) in
    entry_is e f
    (decimal_injective e.id f.id (omega (arith, p.id)) (omega (arith, q.id)) same.0)
    (asked_is e.asked f.asked
    (one_asked third e.asked.name f.asked.name e.asked.interface f.asked.interface p.asked q.asked
    same.1))

one_by : (third : Bool) (es fs : List Entry) → AllByRecursion (IsEntry third) es
    → AllByRecursion (IsEntry third) fs → map line_of es ≡ map line_of fs → es ≡ fs
one_by third [] [] p q h = refl
one_by third [] (f ∷ fs) p q h = absurd cc
one_by third (e ∷ es) [] p q h = absurd cc
one_by third (e ∷ es) (f ∷ fs) p q h =
    let head : line_of e ≡ line_of f = cc in
    let tail : map line_of es ≡ map line_of fs = cc in
    let first = one_entry e f p.0 q.0 head in
    let rest = one_by third es fs p.1 q.1 tail in
    cc

pub one_list : (third : Bool) (text : List ℕ) (es fs : List Entry) → Lists third text es
    → Lists third text fs → es ≡ fs
one_list third text es fs p q =
    one_by third es fs (recursion_from_All (IsEntry third) es p.entries)
    (recursion_from_All (IsEntry third) fs q.entries) (sym p.spelled ∙ q.spelled)

-- the k-th line of a list is that of an entry
line_at : (third : Bool) (es : List Entry) (before : List (List ℕ)) (line : List ℕ)
    (after : List (List ℕ))
    → AllByRecursion (IsEntry third) es → map line_of es ≡ before ++ line ∷ after
    → IsEntryLine third line × (length before < length es)
line_at third [] [] line after p h = absurd cc
line_at third [] (b ∷ before) line after p h = absurd cc
line_at third (e ∷ es) [] line after p h = search (arith)
line_at third (e ∷ es) (b ∷ before) line after p h =
    let tail : map line_of es ≡ before ++ line ∷ after = cc in
    let k = line_at third es before line after p.1 tail in
    (k.0, omega (arith, k.1))

reached : {third : Bool} (text : List ℕ) (es fs : List Entry) (line : List ℕ) (k : ℕ)
    → Lists third text es → ReachesLine third text fs line k
    → IsEntryLine third line × (length fs < length es)
reached {third} text es fs line k p r =
    let at = line_at third es (map line_of fs) line r.rest.0
    (recursion_from_All (IsEntry third) es p.entries) (sym p.spelled ∙ r.rest.1) in
    (at.0, omega (arith, at.1, length-map fs line_of))

pub refused_for_memory : {third : Bool} (text : List ℕ) (es : List Entry) (k : ℕ)
    (kind : ListFaultKind) → Lists third text es → IsRefusedAs third text k kind
    → kind ≡ OutOfMemory
refused_for_memory text es k Syntax p h = absurd (h.4 (reached text es h.0 h.1 k p h.2).0)
refused_for_memory text es k Limit p (inl h) = search (arith)
refused_for_memory text es k Limit p (inr h) =
    absurd (omega (arith, (reached text es h.0 h.1 k p h.2).1, h.3, p.count))
refused_for_memory text es k OutOfMemory p h = refl

pub only_for_memory : {T : Type 0} (third : Bool) (text : List ℕ) (es : List Entry)
    (r : Result T ListFault)
    → Lists third text es → IfErr r (λ f. IsRefusedAs third text f.line f.kind)
    → IfErr r (λ f. f.kind ≡ OutOfMemory)
only_for_memory third text es (Ok x) p h = tt
only_for_memory third text es (Err f) p h = search (arith, refused_for_memory)

-- what is true of the list in a text and of a result is true of any list in the text
pub of_list : {T : Type 0} (Q P : List Entry → T → Type 0) (third : Bool) (text : List ℕ)
    (es : List Entry) (r : Result T ListFault) → Lists third text es
    → IfOk r (λ x. (fs : List Entry) × Lists third text fs × Q fs x × P fs x) → IfOk r (λ x. P es x)
of_list Q P third text es (Ok x) p h =
    subst (λ fs. P fs x) (one_list third text h.0 es h.1 p) h.3
of_list Q P third text es (Err f) p h = tt
