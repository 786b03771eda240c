use Rattle.std.proofs.Common.{◌≡◌, ◌-◌, length, pred, refl, sym, ap, ◌∙◌, arith}
use Rattle.std.specs.Prelude.{◌||◌}
use Rattle.giop_sig.specs.Trees.{tree_at}
use Rattle.giop_decode.specs.Transitions.{open_parts, within_of, is_some_stage, tree_in, within_after_frame, IsKnown}
use Rattle.giop_decode.proofs.Beginning.{begins, begins_places, all_push, part_in_frames, places_push, whole_placed, whole_within}
use Rattle.giop_decode.proofs.Rooms.{bare_in_room, whole_bare}
use Rattle.giop_decode.proofs.Surrounding.{ended_push, more_more, push_more, stand_push}
use Rattle.giop_decode.proofs.Linking.{first_index, link_next}
use Rattle.giop_decode.proofs.frame.descend_to_number.Goals as goal

pub loop-count-preserved : goal.loop-count-preserved
loop-count-preserved c =
    let t = c.args.catalogue.now in
    let old = c.loop-count.outer.items in
    let T = tree_in t old c.loop-count.inner.0 in
    let d = 24 - length old in
    let b = begins d T c.in-Some.count c.in-Some.told c.loop-count.invariant.fit
    (c.in-Some.ensures.whole d) in
    let bare = whole_bare T c.in-Some.count c.in-Some.told (c.in-Some.ensures.whole d) in
    let e : pred d ≡ 24 - length c.push.new.self.items = omega (arith, c.push.ensures.len) in
    let part = part_in_frames t old c.push.new.self.items c.loop-count.inner.0
    c.part-inner.result.0 0 (omega (arith, c.push.ensures.len)) (omega (arith, b.room))
    (c.part-inner.ensures.rooms (bare_in_room t d c.loop-count.inner.0 bare)) in
    record {
      known = c.part-inner.ensures.known;
      known_outer = rw c.push.ensures.items
          (all_push (IsKnown t) old _ c.loop-count.invariant.known_outer
          (record {
            known = c.loop-count.invariant.known;
            within = λ room. whole_within (tree_at t room c.loop-count.inner.0) c.in-Some.count
                c.in-Some.told b.some (c.in-Some.ensures.whole room);
          }));
      fit = rw (part, ← e) b.fit;
      placed = λ at. rw (part, c.push.ensures.items, places_push)
          (begins_places d at (open_parts t at old) T c.in-Some.count c.in-Some.told b
          ∙ c.loop-count.invariant.placed at);
      ended = rw c.push.ensures.items (ended_push old _ refl ∙ c.loop-count.invariant.ended);
      asked = (let a = c.loop-count.invariant.asked in (
        a.0 || is_some_stage c.in-Some.told,
        c.within_after_frame.ensures ∙ (ap (within_after_frame (is_some_stage c.in-Some.told)) a.1
            ∙ more_more a.0 (is_some_stage c.in-Some.told) c.args.inside.now),
        rw (c.push.ensures.items, push_more) (ap (within_after_frame (is_some_stage c.in-Some.told))
            a.2
            ∙ more_more a.0 (is_some_stage c.in-Some.told) (within_of c.args.outer.now.items)),
      ));
      stand = λ at h. rw c.push.ensures.items
          (stand_push at old _ (c.loop-count.invariant.stand at h) tt);
      leaf = rw part (sym b.leaf ∙ c.loop-count.invariant.leaf);
      linked = λ root h. link_next t root old c.push.new.self.items c.loop-count.inner.0
          c.part-inner.result.0 _ refl c.push.ensures.items d bare
          (rw (first_index c.in-Some.told) c.part-inner.ensures.number)
          (c.loop-count.invariant.linked root h);
    }

pub push-requires : goal.push-requires
push-requires c =
    let b = begins _ _ c.in-Some.count c.in-Some.told c.loop-count.invariant.fit
    (c.in-Some.ensures.whole _) in
    (omega arith, omega (arith, b.room))

pub part-inner-requires-clause-index : goal.part-inner-requires-clause-index
part-inner-requires-clause-index c =
    whole_placed (tree_at c.args.catalogue.now 24 c.loop-count.inner.0) c.in-Some.count
    c.in-Some.told (begins _ _ c.in-Some.count c.in-Some.told c.loop-count.invariant.fit
    (c.in-Some.ensures.whole _)).some (c.in-Some.ensures.whole 24)

pub loop-count-smaller : goal.loop-count-smaller
loop-count-smaller c =
    let b = begins _ _ c.in-Some.count c.in-Some.told c.loop-count.invariant.fit
    (c.in-Some.ensures.whole _) in
    omega (arith, b.room, c.push.ensures.len)
