use Rattle.std.proofs.Common.{◌≡◌, suc, inl, inr, refl, sym, ap, ◌∙◌}
use Rattle.giop_cdr.specs.declared.prim.Primitive.{Primitive}
use Rattle.giop_decode.specs.ReadingSteps.{leading_width}
use Rattle.giop_decode.proofs.Rooms.{union_of_room}
use Rattle.giop_sig.specs.Trees.{tree_at}
use Rattle.giop_decode.proofs.OctetKinds.{octets_no_union}
use Rattle.giop_sig.specs.Types.{Enum, IsUnion, Marked, Octets, Plain, Scalar, Single, Ty, Union, shape_in, switch_of, width}
use Rattle.giop_sig.specs.declared.types.Shape.TheVariants as shapes
use Rattle.giop_decode.proofs.leading_numbers.switch_width.Goals as goal

same_width : (s t : Scalar) → Single s ≡ Single t → width s ≡ width t
same_width s t e = let is : s ≡ t = cc in ap width is

-- a union begins with the number of its discriminator
union_width : (T : Ty) (scalar : Scalar) → IsUnion (shape_in T) → switch_of T ≡ Single scalar →
    width scalar ≡ leading_width T
union_width (Union choice own select names cases) scalar is e = sym (same_width own scalar e)
union_width (Single (Plain p)) scalar is e = absurd is
union_width (Single (Enum count names)) scalar is e = absurd is
union_width (Single (Marked mark)) scalar is e = absurd is
union_width (Octets kind) scalar is e = absurd (octets_no_union kind is)
union_width _ scalar is e = absurd is

-- the discriminator takes four octets if it is no primitive
other_width : (T S : Ty) → IsUnion (shape_in T) → S ≡ switch_of T →
    ((p : Primitive) → shape_in S ≡ shapes.Prim p → ⊥) → 4 ≡ leading_width T
other_width (Union choice (Plain p) select names cases) S is e other =
    absurd (other p (ap shape_in e))
other_width (Union choice (Enum count words) select names cases) S is e other = refl
other_width (Union choice (Marked mark) select names cases) S is e other = refl
other_width (Single (Plain p)) S is e other = absurd is
other_width (Single (Enum count names)) S is e other = absurd is
other_width (Single (Marked mark)) S is e other = absurd is
other_width (Octets kind) S is e other = absurd (octets_no_union kind is)
other_width _ S is e other = absurd is

pub returns-in-Prim-clause-width : goal.returns-in-Prim-clause-width
returns-in-Prim-clause-width c n head =
    let C = c.args.catalogue.now in
    let T = tree_at C (suc n) c.args.t.0 in
    c.size.ensures ∙ union_width T (Plain c.in-Prim.prim)
    (union_of_room C c.args.t.0 n c.requires.union)
    (sym (c.switch_type.ensures.rooms 24 n) ∙ c.in-Prim.ensures.shape)

pub returns-in_default : goal.returns-in_default
returns-in_default c = record {
  width = λ n head.
      let C = c.args.catalogue.now in
      other_width (tree_at C (suc n) c.args.t.0) (tree_at C 24 c.switch_type.result.0)
      (union_of_room C c.args.t.0 n c.requires.union) (c.switch_type.ensures.rooms 24 n)
      (λ p is. c.in_default.not-Prim p (c.shape.ensures.tree ∙ is));
  aligned = inr (inr (inl refl));
}
