-- Whether a type has wide text, from its shape and its parts.
use Rattle.std.proofs.Common.{◌≡◌, ℕ, zero, suc, ◌+◌, ◌<◌, Bool, List, [], ◌∷◌, ◌++◌, length, refl, sym, ap, ◌∙◌, arith}
use Rattle.std.specs.Prelude.{◌||◌}
use Rattle.std.proofs.lemmas.List.{length-append, get_or_append_left}
use Rattle.std.proofs.Math.Seq.{get_or-append_seam}
use Rattle.giop_cdr.specs.declared.prim.Primitive.TheVariants.{Octet}
use Rattle.giop_sig.specs.declared.types.Shape.{Shape}
use Rattle.giop_sig.specs.declared.types.Shape.TheVariants as shapes
use Rattle.giop_sig.specs.Types.{HasSmallerPart}
use Rattle.giop_sig.specs.Table.{Node, node_in, part_at, type_of, shape_of, IsFormed}
use Rattle.giop_sig.specs.Table as nodes
use Rattle.giop_sig.specs.Trees.{any_below, shape_has_wide_text, has_wide_text_within, has_wide_text, node_has_wide_text, AreFormed}
use Rattle.giop_sig.proofs.Depths.{FormedBelow}
use Rattle.giop_sig.proofs.Formed.{SameNodes, part_formed}

some_same : (n : ℕ) (f g : ℕ → Bool) → ((i : ℕ) → i < n → f i ≡ g i) → any_below n f ≡ any_below n g
some_same zero f g same = refl
some_same (suc n) f g same =
    ap (λ b. b || f n) (some_same n f g (λ i lt. same i (omega arith)))
    ∙ ap (λ b. any_below n g || b) (same n (omega arith))

pub wide_same : (s : Shape) (f g : ℕ → Bool) → ((k : ℕ) → HasSmallerPart s k → f k ≡ g k)
    → shape_has_wide_text s f ≡ shape_has_wide_text s g
wide_same (shapes.Members count) f g same = some_same count f g same
wide_same (shapes.Union count) f g same = some_same count f g same
wide_same shapes.Tagged f g same = some_same 3 f g same
wide_same (shapes.Sequence bound) f g same = same 0 tt
wide_same (shapes.Array count) f g same = same 0 tt
wide_same shapes.Encapsulation f g same = same 0 tt
wide_same _ f g same = refl

-- this depends on the types up to its own alone, and is found to the end
wide_moved : (types others : List Node) (n a b i : ℕ) → FormedBelow types n
    → SameNodes types others n → i < n → i < a → i < b → has_wide_text_within types a i
    ≡ has_wide_text_within others b i
unfolding has_wide_text_within
wide_moved types others n zero b i are same lt la lb = absurd (omega arith)
wide_moved types others n (suc a) zero i are same lt la lb = absurd (omega arith)
wide_moved types others n (suc a) (suc b) i are same lt la lb =
    wide_same (shape_of (node_in types i)) _ _
    (λ k has. let below = (part_formed types i (node_in types i) k (are i lt) has).below in
    wide_moved types others n a b (type_of (part_at (node_in types i) k)) are same (omega arith)
    (omega arith) (omega arith))
    ∙ ap (λ node. shape_has_wide_text (shape_of node)
    (λ k. has_wide_text_within others b (type_of (part_at node k))))
    (same i lt)

-- a type has wide text if its node has
wide_parts : (types : List Node) (i : ℕ) → AreFormed types → i < length types
    → has_wide_text types i ≡ node_has_wide_text types (node_in types i)
unfolding has_wide_text_within
wide_parts types i are lt =
    let e : i + 25 ≡ suc (i + 24) = omega arith in
    ap (λ n. has_wide_text_within types n i) e ∙ wide_same (shape_of (node_in types i)) _ _
    (λ k has. let below = (part_formed types i (node_in types i) k (are.formed i lt) has).below in
    wide_moved types types (length types) (i + 24) (type_of (part_at (node_in types i) k) + 25)
    (type_of (part_at (node_in types i) k)) are.formed (λ j h. refl) (omega arith) (omega arith)
    (omega arith))

-- the types that were there still have it or not
pub wide_stays : (types : List Node) (node : Node) (i : ℕ) → AreFormed types → i < length types
    → has_wide_text types i ≡ has_wide_text (types ++ node ∷ []) i
wide_stays types node i are lt =
    wide_moved types (types ++ node ∷ []) (length types) (i + 25) (i + 25) i are.formed
    (λ k h. sym (get_or_append_left types (node ∷ []) (nodes.prim Octet) k h)) lt (omega arith)
    (omega arith)

-- the type that is added has it if its node has
pub wide_added : (types : List Node) (node : Node) → AreFormed types
    → IsFormed types (length types) node → AreFormed (types ++ node ∷ [])
    → node_has_wide_text types node ≡ has_wide_text (types ++ node ∷ []) (length types)
wide_added types node are formed more =
    let there : length types < length (types ++ node ∷ []) =
    omega (arith, length-append types (node ∷ [])) in
    let last = get_or-append_seam types node [] (nodes.prim Octet) in
    wide_same (shape_of node) _ _
    (λ k has. wide_stays types node (type_of (part_at node k)) are
    (part_formed types (length types) node k formed has).below)
    ∙ sym (ap (node_has_wide_text (types ++ node ∷ [])) last)
    ∙ sym (wide_parts (types ++ node ∷ []) (length types) more there)
