use Rattle.std.proofs.Common.{◌≡◌, ℕ, List, suc, ◌+◌, ◌-◌, ◌<◌, [], ◌∷◌, ◌++◌, length, refl, sym, ap, subst, ◌∙◌, arith, add-one, length-append}
use Rattle.giop_decode.specs.ReadResult.{Content, Done, coding_from}
use Rattle.giop_decode.specs.Reading.{none_left, done_if_untyped}
use Rattle.giop_decode.specs.NextParts.{frames_above, frame_at_next}
use Rattle.giop_decode.specs.Heard.{read_at_start}
use Rattle.giop_decode.specs.ReadingSteps.{resume_outer}
use Rattle.giop_decode.specs.Transitions.{part_in, open_parts, tree_in, within_after_frame, within_of, IsAtMost, IsKnown, StandAt}
use Rattle.giop_decode.specs.declared.frame.Frame.{Frame}
use Rattle.giop_sig.specs.Table.{Table}
use Rattle.giop_sig.specs.Trees.{tree}
use Rattle.giop_sig.specs.Types.{IsUnion, part_of, shape_in}
use Rattle.giop_decode.proofs.Advancing.{rooted_gone}
use Rattle.giop_decode.proofs.Rooms.{counted_bare, place_in_room}
use Rattle.giop_decode.proofs.Around.{fit_part}
use Rattle.giop_decode.proofs.Beginning.{all_push, part_in_frames, places_push}
use Rattle.giop_decode.proofs.Going.{PartPopped, next_quiet, popped, part_popped, popped_is, held_popped, next_in, goes_next, goes_out, goes_rest, goes_past, part_is, held_is}
use Rattle.giop_decode.proofs.Surrounding.{around_gone, most_begun, most_pop, most_replaced, stand_pop, stand_push}
use Rattle.giop_decode.proofs.Noting.{rest_silent}
use Rattle.giop_decode.proofs.Linking.{link_next, link_pop}
use Rattle.giop_decode.proofs.Telling.{begun_at, begun_gone}
use Rattle.giop_decode.proofs.frame.go_on_after_part.Goals as goal

-- a type with one more part is no union
next_bare : (C : Table) (rest : List Frame) (f : Frame) {at : ℕ} → PartPopped C at rest f →
    suc f.index < f.count → IsUnion (shape_in (tree C f.of.0)) → ⊥
next_bare C rest f p below =
    counted_bare (tree C f.of.0) f.index f.count (p.within 24) (omega (arith, below))

pub returns-then-left-gt0-clause-stand : goal.returns-then-left-gt0-clause-stand
returns-then-left-gt0-clause-stand c at h =
    let is = popped_is c.loop-frame.outer.items c.pop.new.self.items c.in-Some.frame
    c.pop.ensures.rest c.in-Some.ensures.some in
    stand_pop at c.pop.new.self.items c.in-Some.frame
    (subst (StandAt at) is (c.loop-frame.invariant.stand at h))

pub returns-then-left-gt0-clause-most : goal.returns-then-left-gt0-clause-most
returns-then-left-gt0-clause-most c h =
    let v = c.loop-frame.invariant in
    let is = popped_is c.loop-frame.outer.items c.pop.new.self.items c.in-Some.frame
    c.pop.ensures.rest c.in-Some.ensures.some in
    rw v.asked (most_pop c.pop.new.self.items c.in-Some.frame c.args.inside.now
    (subst (λ fs. IsAtMost (within_of fs) c.args.inside.now) is (v.most c.args.inside.now h)))

pub returns-then-left-gt0-clause-next : goal.returns-then-left-gt0-clause-next
returns-then-left-gt0-clause-next c coding path at =
    let is = popped_is c.loop-frame.outer.items c.pop.new.self.items c.in-Some.frame
    c.pop.ensures.rest c.in-Some.ensures.some in
    let t = c.args.catalogue.now in
    let f = c.in-Some.frame in
    let rest = c.pop.new.self.items in
    let T = tree_in t rest f.of.0 in
    let v = c.loop-frame.invariant in
    let p = held_popped c.args.catalogue.now _ _ _ _ _ v.known v.are_open.1 is c.in-Some-inside.is
    in
    let order = c.in-Some-inside.field-0 in
    let end = at + (f.count - f.index) in
    let left : end - at ≡ f.count - f.index = omega arith in
    let leaf = Content T (f.count - f.index) 0 [] in
    v.same coding path at
    ∙ rooted_gone t [] at rest leaf _ (ap (λ ps. resume_outer coding path ps (Done [] at []))
    (ap (open_parts t at) is ∙ places_push t 24 at rest f)
    ∙ (ap (λ q. resume_outer coding path (open_parts t at rest ++ q ∷ []) (Done [] at []))
    (held_is t (24 - length rest) at f order p.known c.in-Some-inside.is)
    ∙ (goes_rest coding path (open_parts t at rest) T (coding_from order (at - f.index)) end at
    (f.count - f.index) (omega arith) left
    ∙ around_gone t coding path at rest leaf p.known_rest)))

pub returns-then-left-gt0-clause-linked : goal.returns-then-left-gt0-clause-linked
returns-then-left-gt0-clause-linked c root inner h =
    let is = popped_is c.loop-frame.outer.items c.pop.new.self.items c.in-Some.frame
    c.pop.ensures.rest c.in-Some.ensures.some in
    let v = c.loop-frame.invariant in
    let l = v.linked root inner h in
    link_pop c.args.catalogue.now root c.loop-frame.outer.items c.pop.new.self.items
    c.in-Some.frame l.0 is l.1

pub loop-frame-preserved-else-left-gt0 : goal.loop-frame-preserved-else-left-gt0
loop-frame-preserved-else-left-gt0 c =
    let is = popped_is c.loop-frame.outer.items c.pop.new.self.items c.in-Some.frame
    c.pop.ensures.rest c.in-Some.ensures.some in
    let t = c.args.catalogue.now in
    let f = c.in-Some.frame in
    let rest = c.pop.new.self.items in
    let T = tree_in t rest f.of.0 in
    let v = c.loop-frame.invariant in
    let p = held_popped c.args.catalogue.now _ _ _ _ _ v.known v.are_open.1 is c.in-Some-inside.is
    in
    let order = c.in-Some-inside.field-0 in
    record {
      known = p.known_rest;
      are_open = (v.are_open.0, p.front);
      asked = v.asked;
      most = λ most h. most_pop rest f most
          (subst (λ fs. IsAtMost (within_of fs) most) is (v.most most h));
      stand = λ at h. stand_pop at rest f (subst (StandAt at) is (v.stand at h));
      same = λ coding path at. (let none : (at + (f.count - f.index)) - at ≡ 0 =
          omega (arith, p.within) in v.same coding path at
          ∙ ap (done_if_untyped none_left) (ap (λ ps. resume_outer coding path ps (Done [] at []))
          (ap (open_parts t at) is ∙ places_push t 24 at rest f)
          ∙ (ap (λ q. resume_outer coding path (open_parts t at rest ++ q ∷ []) (Done [] at []))
          (held_is t (24 - length rest) at f order p.known c.in-Some-inside.is)
          ∙ goes_past coding path (open_parts t at rest) T (coding_from order (at - f.index))
          (at + (f.count - f.index)) at none)));
      linked = λ root inner h. (let l = v.linked root inner h in
          (f.of.0, link_pop t root c.loop-frame.outer.items rest f l.0 is l.1));
    }

pub part-part-requires-clause-index : goal.part-part-requires-clause-index
part-part-requires-clause-index c =
    let t = c.args.catalogue.now in
    let f = c.in-Some.frame in
    let rest = frames_above c.loop-frame.outer.items in
    let T = tree_in t rest f.of.0 in
    let v = c.loop-frame.invariant in
    let k = popped t _ _ _ _ v.known v.are_open.1 c.in-Some.ensures.some in
    let quiet = next_quiet t f k.known (omega arith) in
    let p = part_popped t _ _ _ _ v.known v.are_open.1 c.in-Some.ensures.some c.in-None.is quiet in
    let below : suc f.index < f.count = omega arith in
    let n = next_in (suc p.left) T f.index f.count p.«open» (p.within (24 - length rest)).2 below in
    rw add-one (place_in_room t (24 - length rest) 24 f.of.0 (suc f.index) n.placed)

pub descend_to_number-requires-clause-known_outer :
    goal.descend_to_number-requires-clause-known_outer
descend_to_number-requires-clause-known_outer c =
    let gone = c.go_to_next.ensures (frames_above c.loop-frame.outer.items) c.in-Some.frame
    c.in-Some.ensures.some in
    let t = c.args.catalogue.now in
    let f = c.in-Some.frame in
    let rest = frames_above c.loop-frame.outer.items in
    let T = tree_in t rest f.of.0 in
    let v = c.loop-frame.invariant in
    let k = popped t _ _ _ _ v.known v.are_open.1 c.in-Some.ensures.some in
    let quiet = next_quiet t f k.known (omega arith) in
    let p = part_popped t _ _ _ _ v.known v.are_open.1 c.in-Some.ensures.some c.in-None.is quiet in
    let below : suc f.index < f.count = omega arith in
    let n = next_in (suc p.left) T f.index f.count p.«open» (p.within (24 - length rest)).2 below in
    rw gone (all_push (IsKnown t) rest _ p.known_rest
    (record {
      known = p.known;
      within = λ room. rw (c.in-None.is, quiet) (
        rw add-one (place_in_room t (24 - length rest) room f.of.0 (suc f.index) n.placed),
        (p.within room).1,
        (p.within room).2,
      );
    }))

pub descend_to_number-requires-clause-fit : goal.descend_to_number-requires-clause-fit
descend_to_number-requires-clause-fit c =
    let gone = c.go_to_next.ensures (frames_above c.loop-frame.outer.items) c.in-Some.frame
    c.in-Some.ensures.some in
    let t = c.args.catalogue.now in
    let f = c.in-Some.frame in
    let rest = frames_above c.loop-frame.outer.items in
    let T = tree_in t rest f.of.0 in
    let v = c.loop-frame.invariant in
    let k = popped t _ _ _ _ v.known v.are_open.1 c.in-Some.ensures.some in
    let quiet = next_quiet t f k.known (omega arith) in
    let p = part_popped t _ _ _ _ v.known v.are_open.1 c.in-Some.ensures.some c.in-None.is quiet in
    let below : suc f.index < f.count = omega arith in
    let n = next_in (suc p.left) T f.index f.count p.«open» (p.within (24 - length rest)).2 below in
    let size : length c.go_to_next.new.outer.items ≡ suc (length rest) =
    omega (arith, ap length gone, length-append rest (frame_at_next f ∷ [])) in
    let e : p.left ≡ 24 - length c.go_to_next.new.outer.items = omega (arith, p.depth, size) in
    let part = part_in_frames t rest c.go_to_next.new.outer.items f.of.0 c.part-part.result.0
    (f.index + 1) size p.few (c.part-part.ensures.rooms (next_bare t rest f p below)) in
    rw (part, ← e) (fit_part p.left T (f.index + 1) f.count n.fit n.parts (rw add-one below))

pub returns-then-frame-last-clause-stand : goal.returns-then-frame-last-clause-stand
returns-then-frame-last-clause-stand c at h =
    let gone = c.go_to_next.ensures (frames_above c.loop-frame.outer.items) c.in-Some.frame
    c.in-Some.ensures.some in
    let f = c.in-Some.frame in
    let rest = frames_above c.loop-frame.outer.items in
    let v = c.loop-frame.invariant in
    c.descend_to_number.ensures.stand at (rw gone (stand_push at rest _
    (stand_pop at rest f (subst (StandAt at) c.in-Some.ensures.some (v.stand at h)))
    (rw c.in-None.is tt)))

pub returns-then-frame-last-clause-most : goal.returns-then-frame-last-clause-most
returns-then-frame-last-clause-most c h =
    let gone = c.go_to_next.ensures (frames_above c.loop-frame.outer.items) c.in-Some.frame
    c.in-Some.ensures.some in
    let t = c.args.catalogue.now in
    let f = c.in-Some.frame in
    let rest = frames_above c.loop-frame.outer.items in
    let v = c.loop-frame.invariant in
    let k = popped t _ _ _ _ v.known v.are_open.1 c.in-Some.ensures.some in
    let quiet = next_quiet t f k.known (omega arith) in
    let a = c.descend_to_number.ensures.inside in
    let was = c.args.inside.now in
    most_begun a.0 (within_of c.go_to_next.new.outer.items) _ was _ a.2
    (a.1 ∙ ap (within_after_frame a.0) v.asked)
    (rw gone (most_replaced rest f (frame_at_next f) was c.in-None.is c.in-None.is quiet
    (subst (λ fs. IsAtMost (within_of fs) was) c.in-Some.ensures.some (v.most was h))))

pub returns-then-frame-last-clause-next : goal.returns-then-frame-last-clause-next
returns-then-frame-last-clause-next c coding path at =
    let gone = c.go_to_next.ensures (frames_above c.loop-frame.outer.items) c.in-Some.frame
    c.in-Some.ensures.some in
    let t = c.args.catalogue.now in
    let f = c.in-Some.frame in
    let rest = frames_above c.loop-frame.outer.items in
    let mid = c.go_to_next.new.outer.items in
    let T = tree_in t rest f.of.0 in
    let v = c.loop-frame.invariant in
    let k = popped t _ _ _ _ v.known v.are_open.1 c.in-Some.ensures.some in
    let quiet = next_quiet t f k.known (omega arith) in
    let p = part_popped t _ _ _ _ v.known v.are_open.1 c.in-Some.ensures.some c.in-None.is quiet in
    let below : suc f.index < f.count = omega arith in
    let n = next_in (suc p.left) T f.index f.count p.«open» (p.within (24 - length rest)).2 below in
    let next = part_in T (suc f.index) f.count in
    let P = part_of T (suc f.index) in
    let size : length mid ≡ suc (length rest) =
    omega (arith, ap length gone, length-append rest (frame_at_next f ∷ [])) in
    let parted : tree_in t mid c.part-part.result.0 ≡ P =
    rw add-one at (part_in_frames t rest mid f.of.0 c.part-part.result.0
    (f.index + 1) size p.few (c.part-part.ensures.rooms (next_bare t rest f p below))) in
    v.same coding path at
    ∙ (ap (done_if_untyped none_left) (ap (λ ps. resume_outer coding path ps (Done [] at []))
    (ap (open_parts t at) c.in-Some.ensures.some ∙ places_push t 24 at rest f)
    ∙ (ap (λ q. resume_outer coding path (open_parts t at rest ++ q ∷ []) (Done [] at []))
    (part_is t (24 - length rest) at f c.in-None.is quiet)
    ∙ goes_next coding path (open_parts t at rest) T f.index f.count at p.left n below))
    ∙ (begun_at t coding path at rest mid (frame_at_next f) next P p.known_rest gone c.in-None.is
    (part_is t (24 - length rest) at (frame_at_next f) c.in-None.is quiet
    ∙ ap (λ i. part_in T i f.count) (add-one f.index))
    ∙ (ap (read_at_start t at mid) (sym parted)
    ∙ begun_gone t at mid c.descend_to_number.new.outer.items (tree_in t mid c.part-part.result.0)
    c.descend_to_number.result c.descend_to_number.ensures.ended
    (c.descend_to_number.ensures.begun at) c.descend_to_number.ensures.leaf)))

pub returns-then-frame-last-clause-linked : goal.returns-then-frame-last-clause-linked
returns-then-frame-last-clause-linked c root inner h =
    let gone = c.go_to_next.ensures (frames_above c.loop-frame.outer.items) c.in-Some.frame
    c.in-Some.ensures.some in
    let t = c.args.catalogue.now in
    let f = c.in-Some.frame in
    let rest = frames_above c.loop-frame.outer.items in
    let v = c.loop-frame.invariant in
    let k = popped t _ _ _ _ v.known v.are_open.1 c.in-Some.ensures.some in
    let quiet = next_quiet t f k.known (omega arith) in
    let l = v.linked root inner h in
    let p = part_popped t _ _ _ _ v.known v.are_open.1 c.in-Some.ensures.some c.in-None.is quiet in
    let below : suc f.index < f.count = omega arith in
    c.descend_to_number.ensures.linked root (link_next t root rest c.go_to_next.new.outer.items
    f.of.0 c.part-part.result.0 _ refl gone 24
    (next_bare t rest f p below)
    (rw (c.in-None.is, quiet) c.part-part.ensures.number)
    (link_pop t root c.loop-frame.outer.items rest f l.0 c.in-Some.ensures.some l.1))

pub loop-frame-preserved-in-None-told : goal.loop-frame-preserved-in-None-told
loop-frame-preserved-in-None-told c =
    let rest = c.pop-in-None-told.new.self.items in
    let f = c.in-Some.frame in
    let is = popped_is c.loop-frame.outer.items rest f c.pop-in-None-told.ensures.rest
    c.in-Some.ensures.some in
    let t = c.args.catalogue.now in
    let T = tree_in t rest f.of.0 in
    let v = c.loop-frame.invariant in
    let p = part_popped t _ _ _ _ v.known v.are_open.1 is c.in-None.is c.in-None-told.is in
    record {
      known = p.known_rest;
      are_open = (v.are_open.0, p.front);
      asked = v.asked;
      most = λ most h. most_pop rest f most
          (subst (λ fs. IsAtMost (within_of fs) most) is (v.most most h));
      stand = λ at h. stand_pop at rest f (subst (StandAt at) is (v.stand at h));
      same = λ coding path at. v.same coding path at
          ∙ ap (done_if_untyped none_left) (ap (λ ps. resume_outer coding path ps (Done [] at []))
          (ap (open_parts t at) is ∙ places_push t 24 at rest f)
          ∙ (ap (λ q. resume_outer coding path (open_parts t at rest ++ q ∷ []) (Done [] at []))
          (part_is t (24 - length rest) at f c.in-None.is c.in-None-told.is)
          ∙ goes_out coding path (open_parts t at rest) T f.index f.count at (omega arith)));
      linked = λ root inner h. (let l = v.linked root inner h in
          (f.of.0, link_pop t root c.loop-frame.outer.items rest f l.0 is l.1));
    }

pub returns-then-left-gt0-clause-plain : goal.returns-then-left-gt0-clause-plain
returns-then-left-gt0-clause-plain c =
    let is = popped_is c.loop-frame.outer.items c.pop.new.self.items c.in-Some.frame
    c.pop.ensures.rest c.in-Some.ensures.some in
    let t = c.args.catalogue.now in
    let f = c.in-Some.frame in
    let v = c.loop-frame.invariant in
    let p = held_popped t _ _ _ _ _ v.known v.are_open.1 is c.in-Some-inside.is in
    rest_silent (tree_in t c.pop.new.self.items f.of.0) p.kind

pub returns-in-Some-go_to_told_part-clause-stand : goal.returns-in-Some-go_to_told_part-clause-stand
returns-in-Some-go_to_told_part-clause-stand c at h =
    c.descend_to_number-in-Some-go_to_told_part.ensures.stand at
    (c.go_to_told_part.ensures.stand at (c.loop-frame.invariant.stand at h))

pub loop-frame-preserved : goal.loop-frame-preserved
loop-frame-preserved c =
    let v = c.loop-frame.invariant in
    let e = c.go_to_told_part.ensures in
    let past = c.in_default-go_to_told_part.ensures.none in
    record {
      known = e.known;
      are_open = (v.are_open.0, past.are_open v.are_open.0 v.are_open.1);
      asked = v.asked;
      most = λ most h. e.most most (v.most most h);
      stand = λ at h. e.stand at (v.stand at h);
      same = λ coding path at. v.same coding path at ∙ past.next coding path at;
      linked = λ root inner h. (let l = v.linked root inner h in past.link root l.0 l.1);
    }
