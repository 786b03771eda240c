-- Lines that end no operation. One is the line of the last part of a Request's header, so a header
-- never ends at the octet at which its operation ends. The others are the lines at the octet of a
-- fault.
use Rattle.std.proofs.Common.{◌≡◌, ℕ, suc, ◌+◌, ◌-◌, ◌<◌, ◌≤◌, ◌⊎◌, inl, inr, Bool, true, false, List, [], ◌∷◌, ◌++◌, Option, Some, None, refl, sym, ap, subst, ◌∙◌, arith}
use Rattle.std.specs.Prelude.{◌&&◌, codes, IfSome}
use Rattle.std.specs.List.{AllByRecursion as Each}
use Rattle.std.specs.Option.{option_map}
use Rattle.std.specs.Str.{bytes_eq}
use Rattle.std.proofs.lemmas.Bool.{false≢true, cases_lt}
use Rattle.giop_sig.specs.Types.{Ty, Struct, TypeInference, InferredType, Sequel, Then, Ends, Stops, part_of, sequel}
use Rattle.giop_decode.specs.declared.progress.ValueFault.TheVariants as kinds
use Rattle.giop_sig.specs.Fits.{IsFit}
use Rattle.giop_sig.specs.Trees.{tree, tree_at}
use Rattle.giop_sig.specs.Builtin.{builtin_types}
use Rattle.giop_sig.specs.AnyTypes.{first_table}
use Rattle.giop_sig.specs.HeaderTypes.{header_type, header_type_number}
use Rattle.giop_sig.proofs.Builtins.{builtin_is, builtin_fit, builtin_len, header_built_in}
use Rattle.giop_decode.specs.ReadResult
use Rattle.giop_decode.specs.ReadResult.{Coding, PathSegment, Name, Switch, Held, ValueAt, OpenPart, Part, Member, Inside, Leaf, LeadingNumber, Opening, Content, Read, Done, Short, Fault, lines_of, with_front, read_then, within, Telling}
use Rattle.giop_decode.specs.Reading.{parts_from, read_sequel, led, told_after, none_left, done_if_untyped}
use Rattle.giop_decode.specs.ReadingSteps.{IsOctetResult, part_at, path_in, segment_of, segment_in, step, resume_part, IsEmptyResult, after_told, root_step, leaf_step}
use Rattle.giop_sig.specs.Hearings.{inference_in}
use Rattle.giop_decode.specs.Fits.{FitsIn}
use Rattle.giop_decode.specs.Noted.{is_member, ends_operation, ends_text}
use Rattle.giop_decode.proofs.ReadingLaws.{quiet_within, read_quiet, step_now, next_part, switch_member, now_within, parts_quiet}
use Rattle.giop_message.proofs.AlikeReadings.{AreAlike}
use Rattle.giop_message.proofs.AlikeHeaders.{found_alike, headers_alike}
use Rattle.giop_message.proofs.StepLines.{IsLineAtPath, step_of, EndsNoTextOrGoesOn, leaf_says}

-- a struct whose last part has another name
abbrev pub LastPartIsNotOperation : (type : Ty) → Type 0
LastPartIsNotOperation T = (n : ℕ) × (names : ℕ → List ℕ) × (parts : ℕ → Ty)
    × (T ≡ Struct (suc n) names parts) × (bytes_eq (codes "operation") (names n) ≡ false)

request_ends_first : (minor : ℕ) → IfSome (header_type 1 minor 0) LastPartIsNotOperation
unfolding tree_at builtin_types
request_ends_first (suc (suc (suc minor))) = tt
request_ends_first _ = (_, _, _, refl, refl)

struct_ends : (n : ℕ) (names : ℕ → List ℕ) (parts : ℕ → Ty) (B : Ty) →
    bytes_eq (codes "operation") (names n) ≡ false → AreAlike [] (Struct (suc n) names parts) B →
    LastPartIsNotOperation B
struct_ends n names parts (Struct m others bodies) other (same, called, each) = (
  n,
  others,
  bodies,
  ap (λ k. Struct k others bodies) (sym same),
  ap (bytes_eq (codes "operation")) (sym (called n)) ∙ other,
)
struct_ends n names parts B other alike = absurd alike

ends_alike : (A B : Ty) → AreAlike [] A B → LastPartIsNotOperation A → LastPartIsNotOperation B
ends_alike A B alike (n, names, parts, is, other) =
    struct_ends n names parts B other (subst (λ T. AreAlike [] T B) is alike)

pub request_ends : (version minor : ℕ) → IfSome (header_type version minor 0) LastPartIsNotOperation
request_ends version minor = found_alike LastPartIsNotOperation ends_alike (header_type 1 minor 0)
    (header_type version minor 0) (headers_alike version minor 0) (request_ends_first minor)

-- ---- the types of headers fit

number_fit : (version : ℕ) (found : Option ℕ) → IfSome found (λ n. n < builtin_len version)
    → IfSome (option_map (tree (first_table version)) found) (IsFit 24)
number_fit version None h = tt
number_fit version (Some n) h = builtin_fit (first_table version) n (builtin_is version) h

pub header_fit : (version minor kind : ℕ) (T : Ty) → header_type version minor kind ≡ Some T →
    IsFit 24 T
header_fit version minor kind T e = subst (λ found. IfSome found (IsFit 24)) e
    (number_fit version (header_type_number version minor kind)
    (header_built_in version minor kind))

-- ---- no operation at the end

-- what is at a path of several steps is no member of the root
pub deep_member : (name : List ℕ) (a b : PathSegment) (path : List PathSegment)
    (outer : List OpenPart) →
    is_member name (path_in (a ∷ b ∷ path) outer) ≡ false
deep_member name (Name x) b path [] = refl
deep_member name (ReadResult.Index x) b path [] = refl
deep_member name (Switch tag) b path [] = refl
deep_member name Held b path [] = refl
deep_member name a b path (place ∷ outer) =
    deep_member name a b (path ++ segment_in place ∷ []) outer

both_false : (a b c : Bool) → b ≡ false → (a && (b && c)) ≡ false
both_false true b c e = rw e refl
both_false false b c e = refl

no_end : (is : Bool) (path : List PathSegment) (l : ValueAt) → IsLineAtPath path l →
    is_member (codes "operation") path ≡ false → ends_operation is l ≡ false
no_end is path l of e = search (arith, both_false, switch_member)

pub no_ends : (is : Bool) (path : List PathSegment) (lines : List ValueAt) →
    Each (IsLineAtPath path) lines →
    is_member (codes "operation") path ≡ false → Each (λ l. ends_operation is l ≡ false) lines
no_ends is path [] each e = tt
no_ends is path (l ∷ ls) each e = search (arith, no_end, no_ends is path ls each.1 e)

-- whether a reading is done
abbrev pub is_done : (reading : Read) → Bool
is_done (Done lines at rest) = true
is_done r = false

short_front : (front : List ValueAt) (r : Read) (at : ℕ) (outer : List OpenPart) (leaf : Leaf) →
    with_front [] r ≡ Short [] at outer leaf → is_done (with_front front r) ≡ false
short_front front (Done lines at rest) at' outer leaf e = search (arith, false≢true)
short_front front r at' outer' leaf' e = refl

-- a struct goes on after a part that isn't its last
goes_on : (coding : Coding) (d n : ℕ) (names : ℕ → List ℕ) (parts : ℕ → Ty) (i at : ℕ)
    (inner : Read) → IsFit (suc d) (Struct (suc n) names parts) → suc i < suc n →
    IsOctetResult at inner →
    is_done (resume_part coding [] (Part (Struct (suc n) names parts) i (suc n)) inner) ≡ false
goes_on coding d n names parts i at (Done lines at' rest) fit below now =
    let T = Struct (suc n) names parts in
    rw (now.1, now.2)
    (short_front lines (parts_from (part_at coding [] T (suc n)) (suc n - suc i) (suc i) at []) at _
    _ (next_part coding [] d T i (suc n) at fit refl below))
goes_on coding d n names parts i at _ fit below now = refl

-- the octet is in the last part of the struct, or in one that another part follows
module _ (coding : Coding) (is : Bool) (n : ℕ) (names : ℕ → List ℕ) (parts : ℕ → Ty)
    (fit : IsFit 24 (Struct (suc n) names parts))
    (other : bytes_eq (codes "operation") (names n) ≡ false) (at b : ℕ) where
  abbrev NoCalls : (outer : List OpenPart) (leaf : Leaf) → Type 0
  NoCalls outer leaf = Each (λ l. ends_operation is l ≡ false)
      (lines_of (step coding [] outer leaf at b))

  in_part : (i : ℕ) (leaf : Leaf) → FitsIn (parts i) [] leaf → i < suc n →
      is_done (step coding [] (Part (Struct (suc n) names parts) i (suc n) ∷ []) leaf at b)
      ≡ true → NoCalls (Part (Struct (suc n) names parts) i (suc n) ∷ []) leaf
  in_part i leaf fits below done = go (cases_lt (suc i) (suc n))
    where
      go : (suc i < suc n) ⊎ (suc n ≤ suc i) →
          NoCalls (Part (Struct (suc n) names parts) i (suc n) ∷ []) leaf
      go (inl more) =
          absurd (false≢true
          (sym (goes_on coding 23 n names parts i (at + 1)
          (step coding (Name (names i) ∷ []) [] leaf at b) fit more
          (step_now coding (Name (names i) ∷ []) [] leaf at b)) ∙ done))
      go (inr last) =
          let e : i ≡ n = omega (arith, below) in
          no_ends is (Name (names i) ∷ []) _ (step_of coding []
          (Part (Struct (suc n) names parts) i (suc n) ∷ []) leaf at b)
          (ap (λ k. bytes_eq (codes "operation") (names k)) e ∙ other)

  in_struct : (outer : List OpenPart) (leaf : Leaf) →
      FitsIn (Struct (suc n) names parts) outer leaf →
      is_done (step coding [] outer leaf at b) ≡ true → NoCalls outer leaf
  in_struct [] (LeadingNumber U carry) fits done = absurd fits.kind
  in_struct [] (Opening U n) fits done = absurd fits.kind
  in_struct [] (Content U total offset piece) fits done = absurd fits.kind
  in_struct (Inside U inner end ∷ outer) leaf fits done = absurd fits.0.kind
  in_struct (Member U i ∷ outer) leaf fits done = absurd fits.0.kind
  in_struct (Telling U told ∷ outer) leaf fits done = absurd fits.0.kind
  in_struct (Part U i count ∷ []) leaf fits done = search (arith, in_part)
  in_struct (Part U i count ∷ place ∷ outer) leaf fits done =
      no_ends is (path_in (segment_of U i ∷ segment_in place ∷ []) outer) _
      (step_of coding [] (Part U i count ∷ place ∷ outer) leaf at b)
      (deep_member (codes "operation") (segment_of U i) (segment_in place) [] outer)

-- if the octet ends a header of such a type, none of its lines ends an operation
pub last_no_call : (coding : Coding) (is : Bool) (T : Ty) (outer : List OpenPart) (leaf : Leaf)
    (at b : ℕ) → LastPartIsNotOperation T → IsFit 24 T → FitsIn T outer leaf →
    is_done (step coding [] outer leaf at b) ≡ true →
    Each (λ l. ends_operation is l ≡ false) (lines_of (step coding [] outer leaf at b))
last_no_call coding is T outer leaf at b (n, names, parts, same, other) fit fits done =
    in_struct coding is n names parts (subst (IsFit 24) same fit) other at b outer leaf
    (subst (λ U. FitsIn U outer leaf) same fits) done

-- if a reading is faulted, no line of it ends an operation, unless the fault is that octets without
-- a type follow (`Untyped`)
abbrev pub NoCallUnlessUntyped : (is : Bool) (read : Read) → Type 0
NoCallUnlessUntyped is (Fault lines at kinds.Untyped T) = Unit {0}
NoCallUnlessUntyped is (Fault lines at why T) = Each (λ l. ends_operation is l ≡ false) lines
NoCallUnlessUntyped is _ = Unit {0}

-- this holds if no line of the reading ends an operation
each_none : (is : Bool) (r : Read) → Each (λ l. ends_operation is l ≡ false) (lines_of r) →
    NoCallUnlessUntyped is r
each_none is (Fault lines at kinds.Untyped T) h = tt
each_none is (Fault lines at why T) h = h
each_none is _ h = tt

and_false : (a b c : Bool) → c ≡ false → (a && (b && c)) ≡ false
and_false true true c e = e
and_false true false c e = refl
and_false false b c e = refl

ends_none : (is : Bool) (lines : List ValueAt) → Each (λ l. ends_text l.value ≡ false) lines →
    Each (λ l. ends_operation is l ≡ false) lines
ends_none is [] h = tt
ends_none is (l ∷ ls) h = search (arith, and_false, ends_none is ls h.1)

firm_none : (is : Bool) (r : Read) → EndsNoTextOrGoesOn r → NoCallUnlessUntyped is r
firm_none is (Done lines at rest) h = tt
firm_none is (Short lines at outer leaf) h = tt
firm_none is (Fault lines at kinds.Untyped T) h = tt
firm_none is (Fault lines at why T) (inl h) = ends_none is lines h
firm_none is (Fault lines at why T) (inr h) = absurd (false≢true (sym h.1))

-- ---- the parts around the innermost one

followed_none : (is : Bool) (n : ℕ) (r : Read) (next : ℕ → List ℕ → Read) → IsOctetResult n r →
    IsEmptyResult n (next n []) → NoCallUnlessUntyped is r →
    NoCallUnlessUntyped is (read_then r next)
followed_none is n (Done lines at rest) next now quiet h = search (arith)
followed_none is n (Short lines at outer leaf) next now quiet h = tt
followed_none is n (Fault lines at why T) next now quiet h = h

within_none : (is : Bool) (place : OpenPart) (r : Read) → NoCallUnlessUntyped is r →
    NoCallUnlessUntyped is (within place r)
within_none is place (Done lines at rest) h = h
within_none is place r h = h

led_none : (is : Bool) (n : ℕ) (T : Ty) (g : TypeInference) (told : InferredType)
    (part : ℕ → ℕ → List ℕ → Read)
    (r : Read) → ((i : ℕ) → IsEmptyResult n (part i n [])) → IsOctetResult n r →
    NoCallUnlessUntyped is r →
    NoCallUnlessUntyped is (led T g told part r)
led_none is n T g told part (Done lines at rest) each now h =
    rw (now.1, now.2) (go (sequel g (told_after g told lines)))
  where
    behind : (q : Read) → IsEmptyResult n q → NoCallUnlessUntyped is (with_front lines q)
    behind (Done ls at rest) k = tt
    behind (Short ls at outer leaf) k = tt
    behind (Fault ls at why S) k = absurd k

    go : (what : Sequel) → NoCallUnlessUntyped is (with_front lines (read_sequel T what part n []))
    go (Then i) = behind (part i n []) (each i)
    go Ends = tt
    go Stops = tt
led_none is n T g told part (Short lines at outer leaf) each now h = tt
led_none is n T g told part (Fault lines at why S) each now h = h

-- what is in an encapsulation is no member of the root
held_member : (name : List ℕ) (path : List PathSegment) (outer : List OpenPart) →
    is_member name (path_in (path ++ Held ∷ []) outer) ≡ false
held_member name [] [] = refl
held_member name [] (place ∷ outer) = search (arith, deep_member)
held_member name (a ∷ []) outer = search (arith, deep_member)
held_member name (a ∷ b ∷ path) outer = search (arith, deep_member)

-- If an octet ends an encapsulation too early, it may have the line of what it completes. That line
-- ends no operation.
pub step_none : (is : Bool) (coding : Coding) (path : List PathSegment) (outer : List OpenPart)
    (leaf : Leaf)
    (at b : ℕ) → NoCallUnlessUntyped is (step coding path outer leaf at b)
step_none is coding path [] leaf at b = search (arith, firm_none, leaf_says)
step_none is coding path (Part T i count ∷ outer) leaf at b =
    let inner = step coding (path ++ segment_of T i ∷ []) outer leaf at b in
    followed_none is (at + 1) (within (Part T i count) inner)
    (parts_from (part_at coding path T count) (count - suc i) (suc i))
    (now_within (at + 1) (Part T i count) inner
    (step_now coding (path ++ segment_of T i ∷ []) outer leaf at b))
    (parts_quiet coding path T count (at + 1) (count - suc i) (suc i))
    (within_none is (Part T i count) inner
    (step_none is coding (path ++ segment_of T i ∷ []) outer leaf at b))
step_none is coding path (Member T i ∷ outer) leaf at b =
    within_none is (Member T i) (step coding (path ++ segment_of T i ∷ []) outer leaf at b)
    (step_none is coding (path ++ segment_of T i ∷ []) outer leaf at b)
step_none is coding path (Telling T told ∷ outer) leaf at b =
    led_none is (at + 1) T (inference_in T) told (after_told coding path T)
    (step coding (path ++ segment_of T 0 ∷ []) outer leaf at b)
    (λ i. quiet_within (at + 1) (Member T (suc i)) _
    (read_quiet coding (path ++ segment_of T (suc i) ∷ []) (part_of T (suc i)) (at + 1)))
    (step_now coding (path ++ segment_of T 0 ∷ []) outer leaf at b)
    (step_none is coding (path ++ segment_of T 0 ∷ []) outer leaf at b)
step_none is coding path (Inside T inner end ∷ outer) leaf at b =
    let r = step coding path (Inside T inner end ∷ outer) leaf at b in
    each_none is r (no_ends is (path_in (path ++ Held ∷ []) outer) (lines_of r)
    (step_of coding path (Inside T inner end ∷ outer) leaf at b)
    (held_member (codes "operation") path outer))

-- if the reading of a complete value is faulted, no line of it ends an operation
abbrev pub NoCallIfFaulted : (is : Bool) (read : Read) → Type 0
NoCallIfFaulted is (Fault lines at why T) = Each (λ l. ends_operation is l ≡ false) lines
NoCallIfFaulted is _ = Unit {0}

rooted_none : (is : Bool) (r : Read) → NoCallUnlessUntyped is r →
    NoCallIfFaulted is (done_if_untyped none_left r)
rooted_none is (Fault lines at kinds.Untyped T) h = tt
rooted_none is (Fault lines at why T) h = h
rooted_none is (Done lines at rest) h = tt
rooted_none is (Short lines at outer leaf) h = tt

pub root_none : (is : Bool) (coding : Coding) (path : List PathSegment) (outer : List OpenPart)
    (leaf : Leaf) (at b : ℕ) → NoCallIfFaulted is (root_step coding path outer leaf at b)
root_none is coding path outer leaf at b = search (arith, rooted_none, step_none)

-- ---- the octet that ends a complete value

-- if octets without a type follow (`Untyped`), no line ends an operation
abbrev NoCallIfUntyped : (is : Bool) (read : Read) → Type 0
NoCallIfUntyped is (Fault lines at kinds.Untyped T) = Each (λ l. ends_operation is l ≡ false) lines
NoCallIfUntyped is _ = Unit {0}

still_each : (is : Bool) (r : Read) → Each (λ l. ends_operation is l ≡ false) (lines_of r) →
    NoCallIfUntyped is r
still_each is (Fault lines at kinds.Untyped T) h = h
still_each is (Fault lines at why T) h = tt
still_each is (Done lines at rest) h = tt
still_each is (Short lines at outer leaf) h = tt

still_firm : (is : Bool) (r : Read) → EndsNoTextOrGoesOn r → NoCallIfUntyped is r
still_firm is (Fault lines at kinds.Untyped T) (inl h) = ends_none is lines h
still_firm is (Fault lines at kinds.Untyped T) (inr h) = absurd (false≢true (sym h.1))
still_firm is (Fault lines at why T) h = tt
still_firm is (Done lines at rest) h = tt
still_firm is (Short lines at outer leaf) h = tt

still_followed : (is : Bool) (n : ℕ) (r : Read) (next : ℕ → List ℕ → Read) → IsOctetResult n r →
    IsEmptyResult n (next n []) → NoCallIfUntyped is r → NoCallIfUntyped is (read_then r next)
still_followed is n (Done lines at rest) next now quiet h =
    rw (now.1, now.2) (behind (next n []) quiet)
  where
    behind : (q : Read) → IsEmptyResult n q → NoCallIfUntyped is (ReadResult.with_front lines q)
    behind (Done ls at rest) k = tt
    behind (Short ls at outer leaf) k = tt
    behind (Fault ls at why S) k = absurd k
still_followed is n (Short lines at outer leaf) next now quiet h = tt
still_followed is n (Fault lines at why T) next now quiet h = h

still_within : (is : Bool) (place : OpenPart) (r : Read) → NoCallIfUntyped is r →
    NoCallIfUntyped is (within place r)
still_within is place (Done lines at rest) h = tt
still_within is place r h = h

still_struct : (coding : Coding) (is : Bool) (n : ℕ) (names : ℕ → List ℕ) (parts : ℕ → Ty)
    (outer : List OpenPart) (leaf : Leaf) (at b : ℕ) →
    FitsIn (Struct (suc n) names parts) outer leaf → NoCallIfUntyped is
    (step coding [] outer leaf at b)
still_struct coding is n names parts [] (LeadingNumber U carry) at b fits = absurd fits.kind
still_struct coding is n names parts [] (Opening U k) at b fits = absurd fits.kind
still_struct coding is n names parts [] (Content U total offset piece) at b fits = absurd fits.kind
still_struct coding is n names parts (Inside U inner end ∷ outer) leaf at b fits =
    absurd fits.0.kind
still_struct coding is n names parts (Member U i ∷ outer) leaf at b fits = absurd fits.0.kind
still_struct coding is n names parts (Telling U told ∷ outer) leaf at b fits = absurd fits.0.kind
still_struct coding is n names parts (Part U i count ∷ []) leaf at b fits =
    let inner = leaf_step coding (segment_of U i ∷ []) leaf at b in
    still_followed is (at + 1) (within (Part U i count) inner)
    (parts_from (part_at coding [] U count) (count - suc i) (suc i))
    (now_within (at + 1) (Part U i count) inner
    (step_now coding (segment_of U i ∷ []) [] leaf at b))
    (parts_quiet coding [] U count (at + 1) (count - suc i) (suc i))
    (still_within is (Part U i count) inner
    (still_firm is inner (leaf_says coding (segment_of U i ∷ []) leaf at b).firm))
still_struct coding is n names parts (Part U i count ∷ place ∷ outer) leaf at b fits =
    still_each is (step coding [] (Part U i count ∷ place ∷ outer) leaf at b)
    (no_ends is (path_in (segment_of U i ∷ segment_in place ∷ []) outer) _
    (step_of coding [] (Part U i count ∷ place ∷ outer) leaf at b)
    (deep_member (codes "operation") (segment_of U i) (segment_in place) [] outer))

pub root_no_call : (coding : Coding) (is : Bool) (T : Ty) (outer : List OpenPart) (leaf : Leaf)
    (at b : ℕ) → LastPartIsNotOperation T → IsFit 24 T → FitsIn T outer leaf →
    is_done (root_step coding [] outer leaf at b) ≡ true →
    Each (λ l. ends_operation is l ≡ false) (lines_of (root_step coding [] outer leaf at b))
root_no_call coding is T outer leaf at b ends fit fits done =
    go (step coding [] outer leaf at b) (last_no_call coding is T outer leaf at b ends fit fits)
    still done
  where
    still : NoCallIfUntyped is (step coding [] outer leaf at b)
    still = by ends
      where
        by : LastPartIsNotOperation T → NoCallIfUntyped is (step coding [] outer leaf at b)
        by (n, names, parts, same, other) = still_struct coding is n names parts outer leaf at b
            (subst (λ U. FitsIn U outer leaf) same fits)

    go : (r : Read) → (is_done r ≡ true → Each (λ l. ends_operation is l ≡ false) (lines_of r)) →
        NoCallIfUntyped is r → is_done (done_if_untyped none_left r) ≡ true →
        Each (λ l. ends_operation is l ≡ false) (lines_of (done_if_untyped none_left r))
    go (Done lines at' rest) h k e = h refl
    go (Short lines at' outer' leaf') h k e = absurd (false≢true e)
    go (Fault lines at' kinds.Untyped S) h k e = k
    go (Fault lines at' why S) h k e = absurd (false≢true e)
