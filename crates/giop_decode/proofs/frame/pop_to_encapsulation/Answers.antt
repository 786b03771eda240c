use Rattle.std.proofs.Common.{◌∷◌, [], length, sym, ◌∙◌, ap, subst, arith, length-append}
use Rattle.giop_decode.specs.declared.progress.ValueFault.TheVariants as kinds
use Rattle.giop_decode.specs.Fits.{OpenPartsFit}
use Rattle.giop_decode.specs.NextParts.{frames_above}
use Rattle.giop_decode.specs.ReadResult.{Done, Fault}
use Rattle.giop_decode.specs.Reading.{none_left, done_if_untyped}
use Rattle.giop_decode.specs.ReadingSteps.{resume_outer}
use Rattle.giop_decode.specs.Transitions.{AreKnown, IsAtMost, IsKnown, StandAt, within_of, open_parts}
use Rattle.giop_decode.proofs.Going.{all_pop, popped_is}
use Rattle.giop_decode.proofs.Linking.{link_pop}
use Rattle.giop_decode.proofs.Surrounding.{most_pop, stand_pop}
use Rattle.giop_decode.proofs.Telling.{open_pop, untyped_past, untyped_rest}
use Rattle.giop_decode.proofs.frame.pop_to_encapsulation.Goals as goal

pub loop-frame-preserved : goal.loop-frame-preserved
loop-frame-preserved c =
    let f = c.in-Some.frame in
    let old = c.loop-frame.outer.items in
    let rest = c.pop.new.self.items in
    let v = c.loop-frame.invariant in
    let is = popped_is old rest f c.pop.ensures.rest c.in-Some.ensures.some in
    record {
      known = λ C h. (all_pop (IsKnown C) rest f (subst (AreKnown C) is (v.known C h))).0;
      are_open = λ C at h. open_pop C at rest f
          (subst (λ fs. OpenPartsFit 24 (open_parts C at fs)) is (v.are_open C at h));
      fewer = omega (arith, v.fewer, ap length is, length-append rest (f ∷ []));
      most = λ most h. most_pop rest f most (subst (λ fs. IsAtMost (within_of fs) most) is
          (v.most most h));
      stand = λ at h. stand_pop at rest f (subst (StandAt at) is (v.stand at h));
      same = λ C coding path at T h. v.same C coding path at T h
          ∙ (ap (λ fs. resume_outer coding path (open_parts C at fs) (Fault [] at kinds.Untyped T))
          is ∙ untyped_past C rest f coding path at T c.in-None.is);
      linked = λ C root inner h. (let l = v.linked C root inner h in
          (f.of.0, link_pop C root old rest f l.0 is l.1));
    }

pub returns-in-Some-inside-clause-next : goal.returns-in-Some-inside-clause-next
returns-in-Some-inside-clause-next c C coding path at T h =
    let f = c.in-Some.frame in
    let items = c.loop-frame.outer.items in
    let rest = frames_above items in
    let v = c.loop-frame.invariant in
    let is = c.in-Some.ensures.some in
    let known = (all_pop (IsKnown C) rest f (subst (AreKnown C) is (v.known C h))).1 in
    ap (done_if_untyped none_left) (v.same C coding path at T h
    ∙ (ap (λ fs. resume_outer coding path (open_parts C at fs) (Fault [] at kinds.Untyped T)) is
    ∙ (untyped_rest C rest f c.in-Some-inside.field-0 coding path at T known c.in-Some-inside.is
    ∙ sym (ap (λ fs. resume_outer coding path (open_parts C at fs) (Done [] at [])) is))))
