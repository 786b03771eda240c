-- Which leaves are below a node in a tree of ranks, and that the leaf that is found has the least
-- rank.
use Rattle.std.proofs.Common.{◌≡◌, ◌⊎◌, ℕ, zero, suc, ◌+◌, ◌-◌, ◌*◌, ◌/◌, ◌<◌, ◌≤◌, List, get_or, refl, sym, ap, ◌∙◌, arith, inl, inr}
use Rattle.std.proofs.lemmas.Bool.{cases_eq, cases_lt, cases_order}
use Rattle.std.proofs.lemmas.List.{get_or_read}
use Rattle.std.specs.Prelude.{min}
use Rattle.tcp_slots.specs.Ranks.{IsTree, IsUniqueLeast}

-- the node that is `t` steps above a node
unfoldable pub ancestor : (steps node : ℕ) → ℕ
ancestor zero j = j
ancestor (suc t) j = ancestor t (j / 2)

-- a node is above another one, or is the same
pub record IsAbove (upper lower : ℕ) : Type 0 where
  pub steps : ℕ
  pub is : ancestor steps lower ≡ upper

up_le : (t j : ℕ) → ancestor t j ≤ j
unfolding ancestor
up_le zero j = omega arith
up_le (suc t) j = let h = up_le t (j / 2) in omega arith

up_more : (t j : ℕ) → ancestor (suc t) j ≡ ancestor t j / 2
unfolding ancestor
up_more zero j = refl
up_more (suc t) j = up_more t (j / 2)

up_half : (t s j : ℕ) → t < s → ancestor s j ≤ ancestor t j / 2
unfolding ancestor
up_half t zero j l = absurd (omega arith)
up_half zero (suc s) j l = up_le s (j / 2)
up_half (suc t) (suc s) j l = up_half t s (j / 2) (omega arith)

above_itself : (i j : ℕ) → j ≡ i → IsAbove i j
unfolding ancestor
above_itself i j e = record { steps = 0; is = e }

above_more : (i j : ℕ) → IsAbove i (j / 2) → IsAbove i j
unfolding ancestor
above_more i j h = record { steps = suc h.steps; is = h.is }

above_child : (i c j : ℕ) → c / 2 ≡ i → IsAbove c j → IsAbove i j
above_child i c j e h =
    record { steps = suc h.steps; is = up_more h.steps j ∙ ap (λ (k : ℕ). k / 2) h.is ∙ e }

root_above : (n j : ℕ) → j ≤ n → 1 ≤ j → IsAbove 1 j
root_above zero j l some = absurd (omega arith)
root_above (suc n) j l some =
    elim (cases_eq j 1) [
      | inl e ↦ above_itself 1 j e
      | inr ne ↦ above_more 1 j
          (root_above n (j / 2) (omega arith) (omega arith))
    ]

halves : (i j : ℕ) → j / 2 ≡ i → (j ≡ 2 * i) ⊎ (j ≡ 2 * i + 1)
halves i j e =
    elim (cases_eq j (2 * i)) [ inl o ↦ inl o | inr ne ↦ inr (omega arith) ]

-- a node below another one is below one of its children, or is the same
below_child : (t i j : ℕ) → ancestor t j ≡ i → (j ≡ i → ⊥) →
    IsAbove (2 * i) j ⊎ IsAbove (2 * i + 1) j
unfolding ancestor
below_child zero i j h ne = absurd (ne h)
below_child (suc t) i j h ne =
    elim (cases_eq (j / 2) i) [
      | inl e ↦ elim (halves i j e) [
        | inl o ↦ inl (above_itself (2 * i) j o)
        | inr o ↦ inr (above_itself (2 * i + 1) j o)
      ]
      | inr other ↦ elim (below_child t i (j / 2) h other) [
        | inl o ↦ inl (above_more (2 * i) j o)
        | inr o ↦ inr (above_more (2 * i + 1) j o)
      ]
    ]

-- a node has no greater rank than the nodes below it
least_by : (slots : ℕ) (nodes : List ℕ) → IsTree slots nodes → (t i j : ℕ) → ancestor t j ≡ i →
    1 ≤ i →
    j < 2 * slots → get_or nodes i 0 ≤ get_or nodes j 0
unfolding ancestor
least_by slots nodes h zero i j e some l = rw (← e) (omega arith)
least_by slots nodes h (suc t) i j e some l =
    let q : ℕ = j / 2 in
    let high : i ≤ q = omega (arith, up_le t q) in
    let rest = least_by slots nodes h t i q e some (omega arith) in
    let own = h.least q (omega arith) (omega arith) in
    elim (halves q j refl) [
      | inl o ↦ rw o (omega arith)
      | inr o ↦ rw o (omega arith)
    ]

root_least : (slots : ℕ) (nodes : List ℕ) → IsTree slots nodes → (j : ℕ) → 1 ≤ j → j < 2 * slots →
    get_or nodes 1 0 ≤ get_or nodes j 0
root_least slots nodes h j some l =
    let a = root_above j j (omega arith) some in
    least_by slots nodes h a.steps 1 j a.is (omega arith) l

-- a leaf below a node that has the same rank
record HasEqualLeaf (slots : ℕ) (nodes : List ℕ) (node : ℕ) : Type 0 where
  index : ℕ
  above : IsAbove node index
  first : slots ≤ index
  last : index < 2 * slots
  same : get_or nodes index 0 ≡ get_or nodes node 0

leaf_of_child : (slots : ℕ) (nodes : List ℕ) (i c : ℕ) → c / 2 ≡ i →
    get_or nodes c 0 ≡ get_or nodes i 0 → HasEqualLeaf slots nodes c → HasEqualLeaf slots nodes i
leaf_of_child slots nodes i c e same h = record {
  index = h.index;
  above = above_child i c h.index e h.above;
  first = h.first;
  last = h.last;
  same = h.same ∙ same;
}

leaf_of : (slots : ℕ) (nodes : List ℕ) → IsTree slots nodes → (n i : ℕ) → 2 * slots ≤ n + i →
    1 ≤ i → i < 2 * slots → HasEqualLeaf slots nodes i
leaf_of slots nodes h zero i l some within = absurd (omega arith)
leaf_of slots nodes h (suc n) i l some within =
    elim (cases_lt i slots) [
      | inl low ↦ (let own = h.least i some low in
          elim (cases_lt (get_or nodes (2 * i) 0) (get_or nodes (2 * i + 1) 0)) [
            | inl less ↦ leaf_of_child slots nodes i (2 * i) (omega arith)
                (omega arith)
                (leaf_of slots nodes h n (2 * i) (omega arith) (omega arith)
                (omega arith))
            | inr more ↦ leaf_of_child slots nodes i (2 * i + 1) (omega arith)
                (omega arith)
                (leaf_of slots nodes h n (2 * i + 1) (omega arith) (omega arith)
                (omega arith))
          ])
      | inr high ↦ record {
        index = i;
        above = above_itself i i refl;
        first = high;
        last = within;
        same = refl;
      }
    ]

-- no node is below both children of a node
no_child_both : (i j t s : ℕ) → 1 ≤ i → ancestor t j ≡ 2 * i → ancestor s j ≡ 2 * i + 1 → ⊥
no_child_both i j t s some left right =
    elim (cases_order t s) [
      | inl e ↦ omega (arith, ap (λ (k : ℕ). ancestor k j) e)
      | inr (inl l) ↦ omega (arith, up_half t s j l)
      | inr (inr l) ↦ omega (arith, up_half s t j l)
    ]

-- a node has the least rank, and each leaf that isn't below it has a greater one
pub record LeastLeavesAreBelow (slots : ℕ) (nodes : List ℕ) (node : ℕ) : Type 0 where
  pub some : 1 ≤ node
  pub within : node < 2 * slots
  pub least : get_or nodes node 0 ≡ get_or nodes 1 0
  pub others : (j : ℕ) → slots ≤ j → j < 2 * slots →
      IsAbove node j ⊎ (get_or nodes 1 0 < get_or nodes j 0)

pub root_leads : (slots : ℕ) (nodes : List ℕ) → 1 ≤ slots → LeastLeavesAreBelow slots nodes 1
root_leads slots nodes some = record {
  some = omega arith;
  within = omega arith;
  least = refl;
  others = λ j first last. inl (root_above j j (omega arith) (omega arith));
}

swapped : {A B : Type 0} → A ⊎ B → B ⊎ A
swapped (inl a) = inr a
swapped (inr b) = inl b

-- of the leaves below a node, those below the child of greater rank have a greater rank
child_leads : (slots : ℕ) (nodes : List ℕ) (node c d : ℕ) → IsTree slots nodes →
    LeastLeavesAreBelow slots nodes node → node < slots →
    get_or nodes node 0 ≡ min (get_or nodes c 0) (get_or nodes d 0) →
    get_or nodes c 0 < get_or nodes d 0 → 1 ≤ c → c < 2 * slots → 1 ≤ d →
    ((j : ℕ) → IsAbove node j → (j ≡ node → ⊥) → IsAbove c j ⊎ IsAbove d j) →
    LeastLeavesAreBelow slots nodes c
child_leads slots nodes node c d h a low own less some within some_too below = record {
  some = some;
  within = within;
  least = omega arith;
  others = λ j first last. elim (a.others j first last) [
    | inl o ↦ elim (below j o (λ e. omega arith)) [
      | inl u ↦ inl u
      | inr v ↦ inr (omega (arith, least_by slots nodes h v.steps d j v.is some_too last))
    ]
    | inr l ↦ inr l
  ];
}

pub left_leads : (slots : ℕ) (nodes : List ℕ) (node : ℕ) → IsTree slots nodes →
    LeastLeavesAreBelow slots nodes node → node < slots →
    get_or nodes (2 * node) 0 < get_or nodes (2 * node + 1) 0 →
    LeastLeavesAreBelow slots nodes (2 * node)
left_leads slots nodes node h a low less =
    child_leads slots nodes node (2 * node) (2 * node + 1) h a low (h.least node a.some low) less
    (omega arith) (omega arith) (omega arith)
    (λ j o ne. below_child o.steps node j o.is ne)

pub right_leads : (slots : ℕ) (nodes : List ℕ) (node : ℕ) → IsTree slots nodes →
    LeastLeavesAreBelow slots nodes node → node < slots →
    get_or nodes (2 * node + 1) 0 < get_or nodes (2 * node) 0 →
    LeastLeavesAreBelow slots nodes (2 * node + 1)
right_leads slots nodes node h a low less =
    child_leads slots nodes node (2 * node + 1) (2 * node) h a low
    (omega (arith, h.least node a.some low)) less (omega arith) (omega arith)
    (omega arith) (λ j o ne. swapped (below_child o.steps node j o.is ne))

leaf_only : (slots node j : ℕ) → slots ≤ node → j < 2 * slots → (j ≡ node → ⊥) → (t : ℕ) →
    ancestor t j ≡ node → ⊥
unfolding ancestor
leaf_only slots node j high last other zero e = other e
leaf_only slots node j high last other (suc t) e =
    let low = up_le t (j / 2) in omega arith

-- a leaf that leads is that of the first slot
pub leaf_first : (slots : ℕ) (nodes : List ℕ) (node slot : ℕ) →
    LeastLeavesAreBelow slots nodes node →
    slots + slot ≡ node → IsUniqueLeast slots nodes slot
leaf_first slots nodes node slot a e = record {
  within = omega arith;
  least = λ other within apart.
      elim (a.others (slots + other) (omega arith) (omega arith)) [
        | inl o ↦ absurd (leaf_only slots node (slots + other) (omega arith)
            (omega arith) (λ same. apart (omega arith)) o.steps o.is)
        | inr l ↦ (let at = ap (λ (k : ℕ). get_or nodes k 0) e in
            omega arith)
      ];
}

-- a leaf of the least rank is the first slot's, if there is a first slot
first_leaf : (slots : ℕ) (nodes : List ℕ) (slot index : ℕ) → IsTree slots nodes →
    IsUniqueLeast slots nodes slot → slots ≤ index → index < 2 * slots →
    get_or nodes index 0 ≡ get_or nodes 1 0 → index ≡ slots + slot
first_leaf slots nodes slot index h f first last same =
    elim (cases_eq index (slots + slot)) [
      | inl e ↦ e
      | inr ne ↦ (let other : ℕ = index - slots in
          let at : slots + other ≡ index = omega arith in
          let less = f.least other (omega arith) (λ e. ne (omega arith)) in
          let own = ap (λ (k : ℕ). get_or nodes k 0) at in
          let low = root_least slots nodes h (slots + slot) (omega arith)
          (omega arith) in
          absurd (omega arith))
    ]

-- no slot is the first if both children of a node that leads have the same rank
pub none_first : (slots : ℕ) (nodes : List ℕ) (node : ℕ) → IsTree slots nodes →
    LeastLeavesAreBelow slots nodes node → node < slots →
    get_or nodes (2 * node) 0 ≡ get_or nodes (2 * node + 1) 0 → (slot : ℕ) →
    IsUniqueLeast slots nodes slot → ⊥
none_first slots nodes node h a low same slot f =
    let own = h.least node a.some low in
    let l = leaf_of slots nodes h (2 * slots) (2 * node) (omega arith) (omega arith)
    (omega arith) in
    let r = leaf_of slots nodes h (2 * slots) (2 * node + 1) (omega arith) (omega arith)
    (omega arith) in
    let left = first_leaf slots nodes slot l.index h f l.first l.last
    (omega arith) in
    let right = first_leaf slots nodes slot r.index h f r.first r.last
    (omega arith) in
    no_child_both node (slots + slot) l.above.steps r.above.steps a.some
    (ap (λ (k : ℕ). ancestor l.above.steps k) (sym left) ∙ l.above.is)
    (ap (λ (k : ℕ). ancestor r.above.steps k) (sym right) ∙ r.above.is)

-- the ranks of the two children, as they were read
pub children : (slots : ℕ) (nodes : List ℕ) (node l r : ℕ) → IsTree slots nodes → node < slots →
    l ≡ get_or nodes (2 * node) l → r ≡ get_or nodes (2 * node + 1) r →
    (get_or nodes (2 * node) 0 ≡ l) × (get_or nodes (2 * node + 1) 0 ≡ r)
children slots nodes node l r h low is_l is_r = (
  sym (get_or_read nodes (2 * node) l (omega arith) is_l 0),
  sym (get_or_read nodes (2 * node + 1) r (omega arith) is_r 0),
)
