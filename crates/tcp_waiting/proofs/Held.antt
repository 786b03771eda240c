-- The payloads that wait, from where they are in the pool's memory.
use Rattle.std.proofs.Common.{Result, IsOk, is_ok, cond, ◌≡◌, ℕ, suc, ◌+◌, ◌<◌, ◌≤◌, List, [], ◌∷◌, ◌++◌, length, get_or, map, take, drop, refl, ap, sym, ◌∙◌, arith}
use Rattle.std.specs.List.{AllByRecursion, insert, remove}
use Rattle.std.proofs.lemmas.List.{length-map, get_or-map, map-append, take-map, drop-map, take-append-le, drop-append-le, length-take, length-drop}
use Rattle.std.proofs.lemmas.List.Elements.{All-from_recursion, recursion_from_All, All-append, All-cons, All-take, All-drop, All-weaker}
use Rattle.std.proofs.lemmas.Bool.{cond-true}
use Rattle.std.proofs.Math.Seq.{drop-append_seam, take-length}
use Rattle.tcp_waiting.specs.declared.pool.Waiting.{Waiting}
use Rattle.tcp_waiting.specs.Payload.{Payload, payload}
use Rattle.tcp_waiting.specs.Layout.{octets_at, payload_in, held_in, AreWithin}

pub length_held : (all : List ℕ) (ws : List Waiting) → length (held_in all ws) ≡ length ws
length_held all ws = length-map ws (payload_in all)

pub get_held : (all : List ℕ) (ws : List Waiting) (i : ℕ) (w : Waiting) (d : Payload) →
    i < length ws → w ≡ get_or ws i w → get_or (held_in all ws) i d ≡ payload_in all w
get_held all ws i w d h is = get_or-map (payload_in all) ws i w d h ∙ ap (payload_in all) (sym is)

-- mapping a list after an insertion or a removal
pub map_insert : {X Y : Type 0} (f : X → Y) (xs : List X) (i : ℕ) (x : X) →
    map f (insert xs i x) ≡ insert (map f xs) i (f x)
map_insert f xs i x = simp (map-append, take-map, drop-map)

pub map_remove : {X Y : Type 0} (f : X → Y) (xs : List X) (i : ℕ) →
    map f (remove xs i) ≡ remove (map f xs) i
map_remove f xs i = simp (map-append, take-map, drop-map)

pub remove_held : (all : List ℕ) (ws : List Waiting) (i : ℕ) →
    held_in all (remove ws i) ≡ remove (held_in all ws) i
remove_held all ws i = map_remove (payload_in all) ws i

-- what is true of all elements is still true after an insertion or a removal
pub all_insert : {X : Type 0} (P : X → Type 0) (xs : List X) (i : ℕ) (x : X) →
    AllByRecursion P xs → P x → AllByRecursion P (insert xs i x)
all_insert P xs i x h p =
    let a = All-from_recursion P xs h in
    recursion_from_All P (insert xs i x) (All-append P (take i xs) (x ∷ drop i xs)
    (All-take P i xs a) (All-cons P x (drop i xs) p (All-drop P i xs a)))

pub all_remove : {X : Type 0} (P : X → Type 0) (xs : List X) (i : ℕ) →
    AllByRecursion P xs → AllByRecursion P (remove xs i)
all_remove P xs i h =
    let a = All-from_recursion P xs h in
    recursion_from_All P (remove xs i) (All-append P (take i xs) (drop (suc i) xs)
    (All-take P i xs a) (All-drop P (suc i) xs a))

pub all_at : {X : Type 0} (P : X → Type 0) (xs : List X) (i : ℕ) (x : X) →
    AllByRecursion P xs → i < length xs → P (get_or xs i x)
all_at P xs i x h l = All-from_recursion P xs h i x l

pub all_weaker : {X : Type 0} (P Q : X → Type 0) (xs : List X) → ((x : X) → P x → Q x) →
    AllByRecursion P xs → AllByRecursion Q xs
all_weaker P Q xs f h =
    recursion_from_All Q xs (All-weaker P Q f xs (All-from_recursion P xs h))

pub within_more : (top more : ℕ) (ws : List Waiting) → top ≤ more → AreWithin top ws →
    AreWithin more ws
within_more top more [] l h = tt
within_more top more (w ∷ ws) l h = (omega arith, within_more top more ws l h.1)

-- a payload has as many octets as it says
pub length_octets : (all : List ℕ) (from count : ℕ) → from + count ≤ length all →
    length (octets_at all from count) ≡ count
length_octets all from count h = simp (length-take, length-drop) (omega arith)

-- octets that are added at the end change no payload
octets_more : (all more : List ℕ) (from count : ℕ) → from + count ≤ length all →
    octets_at (all ++ more) from count ≡ octets_at all from count
octets_more all more from count h = rw (drop-append-le from all more (omega arith))
    (take-append-le count (drop from all) more (simp length-drop (omega arith)))

pub held_more : (all more : List ℕ) (ws : List Waiting) → AreWithin (length all) ws →
    held_in (all ++ more) ws ≡ held_in all ws
held_more all more [] h = refl
held_more all more (w ∷ ws) h =
    rw (octets_more all more w.from w.count h.0, held_more all more ws h.1) refl

-- the payloads after one more, whose octets were added at the end
pub held_inserted : (all more : List ℕ) (ws : List Waiting) (i : ℕ) (w : Waiting) →
    AreWithin (length all) ws → w.from ≡ length all → w.count ≡ length more
    → held_in (all ++ more) (insert ws i w)
    ≡ insert (held_in all ws) i
    (payload w.flow w.number more (record { time = w.time; packet = w.packet }))
held_inserted all more ws i w h f c =
    let here : octets_at (all ++ more) w.from w.count ≡ more =
    rw (f, c, drop-append_seam all more) (take-length more) in
    map_insert (payload_in (all ++ more)) ws i w ∙ rw (held_more all more ws h, here) refl

pub ok_items : {U E X : Type 0} (r : Result U E) (xs a b : List X) → IsOk r →
    xs ≡ cond (is_ok r) a b → xs ≡ a
ok_items r xs a b h e = e ∙ cond-true (is_ok r) a b h
