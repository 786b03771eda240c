use Rattle.std.proofs.Common.{[], List, None, ℕ, suc, subst, ◌≡◌, pred, ◌-◌, length, refl, sym, ap, ◌∙◌, arith, append_assoc, ◌∷◌, ◌++◌}
use Rattle.giop_decode.specs.ReadResult.{LeadingNumber, Part, Member, Short}
use Rattle.giop_decode.specs.Begins.{start_outer, start_leaf}
use Rattle.giop_decode.specs.Transitions.{AreKnown, IsKnown, any_encapsulation_ended, within_of, within_after_encapsulation, within_after_frame, open_part, open_parts, leaf_by, leaf_of, tree_in}
use Rattle.giop_decode.specs.ReadingSteps.{resume_outer}
use Rattle.giop_decode.proofs.Beginning.{all_push, part_in_frames, places_push}
use Rattle.giop_decode.proofs.Around.{around-append, around-fault, fit_room}
use Rattle.giop_decode.proofs.Going.{case_within, parts_within, place_part, place_case}
use Rattle.giop_decode.proofs.TransitionsInFrames.{fit_first, fit_selected, fit_inside}
use Rattle.giop_decode.proofs.Advancing.{rooted_fault, rooted_gone}
use Rattle.giop_decode.specs.Reading.{none_left, done_if_untyped}
use Rattle.giop_decode.proofs.Surrounding.{around_gone, around_unless_ended, at_most, ended_push, gone_stopped, inside_frame, push_held, push_more, unless_ended, stand_push}
use Rattle.giop_decode.proofs.Noting.{leaf_inside, unless_ended_inside, stopped_silent}
use Rattle.giop_decode.proofs.Linking.{link_next, link_number, link_push}
use Rattle.giop_decode.proofs.Rooms.{bare_in_room, held_bare, held_in_room, parts_bare, within_in_room}
use Rattle.giop_decode.proofs.StoredChain.{case_known, inside_place}
use Rattle.giop_decode.specs.declared.frame.Frame.{Frame}
use Rattle.giop_decode.proofs.decoder.Decoder.advance_frames.Goals as goal
use Rattle.giop_decode.specs.Fits.{HasCase, HasParts, IsEncapsulation}
use Rattle.giop_sig.specs.Types.{IsUnion, part_of, shape_in}
use Rattle.giop_sig.specs.Fits.{IsFit}
use Rattle.giop_sig.specs.Table.{Table}
use Rattle.giop_sig.specs.Trees.{tree, tree_at}

-- the part of a type that fits, inside one more frame
parted : (C : Table) (old new : List Frame) (of part i : ℕ) →
    IsFit (24 - length old) (tree_in C old of) → length new ≡ suc (length old) →
    ((room : ℕ) → tree_at C room part ≡ part_of (tree_at C (suc room) of) i) →
    tree_in C new part ≡ part_of (tree_in C old of) i
parted C old new of part i fit more parts =
    part_in_frames C old new of part i more
    (omega (arith, fit_room (24 - length old) (tree_in C old of) fit)) parts

-- the part of a case, in the room that is left for it
case_parted : (C : Table) (old new : List Frame) (of part i n : ℕ) →
    IsFit (24 - length old) (tree_in C old of) → length new ≡ suc (length old) → n ≡ length new →
    tree_at C (24 - n) part ≡ part_of (tree_at C (suc (24 - n)) of) i →
    tree_in C new part ≡ part_of (tree_in C old of) i
case_parted C old new of part i n fit more is parts =
    let few = fit_room (24 - length old) (tree_in C old of) fit in
    let left : 24 - n ≡ 24 - length new = omega (arith, is) in
    let one : suc (24 - n) ≡ 24 - length old = omega (arith, is, more, few) in
    subst (λ m. tree_at C m part ≡ part_of (tree_in C old of) i) left
    (subst (λ m. tree_at C (24 - n) part ≡ part_of (tree_at C m of) i) one parts)

-- a type with parts is no union, and neither is an encapsulation

opened_bare : (C : Table) (old : List Frame) (of count : ℕ) → HasParts (tree_in C old of) count →
    IsUnion (shape_in (tree C of)) → ⊥
opened_bare C old of count kind =
    bare_in_room C (24 - length old) of (parts_bare (tree_in C old of) count kind)

entered_bare : (C : Table) (old : List Frame) (of : ℕ) → IsEncapsulation (tree_in C old of) →
    IsUnion (shape_in (tree C of)) → ⊥
entered_bare C old of kind =
    bare_in_room C (24 - length old) of (held_bare (tree_in C old of) kind)

pub push-requires : goal.push-requires
push-requires c = (
  omega arith,
  omega (
    arith,
    fit_room (24 - length c.args.self.now.outer.items)
        (tree_in c.args.catalogue.now c.args.self.now.outer.items c.args.of.0) c.requires.fit,
  ),
)

pub push-requires-in-Selected : goal.push-requires-in-Selected
push-requires-in-Selected c = (
  omega arith,
  omega (
    arith,
    fit_room (24 - length c.args.self.now.outer.items)
        (tree_in c.args.catalogue.now c.args.self.now.outer.items c.args.of.0) c.requires.fit,
  ),
)

pub part-part-requires-clause-index : goal.part-part-requires-clause-index
part-part-requires-clause-index c =
    let C = c.args.catalogue.now in
    let old = c.args.self.now.outer.items in
    let opens = rw c.in-Opened.is at c.requires.transition_fits in
    (within_in_room C (24 - length old) 24 c.args.of.0 None 0 c.in-Opened.count
    (parts_within (tree_in C old c.args.of.0) c.in-Opened.count opens.0 opens.1)).0

pub part_in-part-requires-clause-index : goal.part_in-part-requires-clause-index
part_in-part-requires-clause-index c =
    let C = c.args.catalogue.now in
    let old = c.args.self.now.outer.items in
    let case = rw c.in-Selected.is at c.requires.transition_fits in
    (within_in_room C (24 - length old) 24 c.args.of.0 None c.in-Selected.index 0
    (case_within (tree_in C old c.args.of.0) c.in-Selected.index case)).0

pub part-part-requires-in-Entered-clause-index : goal.part-part-requires-in-Entered-clause-index
part-part-requires-in-Entered-clause-index c =
    let C = c.args.catalogue.now in
    let old = c.args.self.now.outer.items in
    let opens = rw c.in-Entered.is at c.requires.transition_fits in
    inside_place (tree_at C 24 c.args.of.0) 0
    (held_in_room C (24 - length old) 24 c.args.of.0 opens.0)

pub descend_to_number-requires-clause-known_outer :
    goal.descend_to_number-requires-clause-known_outer
descend_to_number-requires-clause-known_outer c =
    let C = c.args.catalogue.now in
    let old = c.args.self.now.outer.items in
    let opens = rw c.in-Opened.is at c.requires.transition_fits in
    rw c.push.ensures.items (all_push (IsKnown C) old _ c.requires.known_outer (record {
      known = c.requires.known;
      within = λ room. within_in_room C (24 - length old) room c.args.of.0 None 0
          c.in-Opened.count
          (parts_within (tree_in C old c.args.of.0) c.in-Opened.count opens.0 opens.1);
    }))

pub descend_to_number-requires-in-Selected-clause-known_outer :
    goal.descend_to_number-requires-in-Selected-clause-known_outer
descend_to_number-requires-in-Selected-clause-known_outer c =
    let C = c.args.catalogue.now in
    let old = c.args.self.now.outer.items in
    let case = rw c.in-Selected.is at c.requires.transition_fits in
    rw c.push-in-Selected.ensures.items (all_push (IsKnown C) old _ c.requires.known_outer
    (record {
      known = c.requires.known;
      within = λ room. within_in_room C (24 - length old) room c.args.of.0 None
          c.in-Selected.index 0
          (case_within (tree_in C old c.args.of.0) c.in-Selected.index case);
    }))

pub descend_to_number-requires-in-Entered-clause-known_outer :
    goal.descend_to_number-requires-in-Entered-clause-known_outer
descend_to_number-requires-in-Entered-clause-known_outer c =
    let C = c.args.catalogue.now in
    let old = c.args.self.now.outer.items in
    let opens = rw c.in-Entered.is at c.requires.transition_fits in
    rw c.push-in-Entered.ensures.items (all_push (IsKnown C) old
    (inside_frame c.args.of c.in-Entered.order c.in-Entered.count) c.requires.known_outer (record {
      known = c.requires.known;
      within = λ room. (
        held_in_room C (24 - length old) room c.args.of.0 opens.0,
        omega arith,
        omega (arith, opens.1),
      );
    }))

pub descend_to_number-requires-clause-fit : goal.descend_to_number-requires-clause-fit
descend_to_number-requires-clause-fit c =
    let T = tree_in c.args.catalogue.now c.args.self.now.outer.items c.args.of.0 in
    let kind = rw c.in-Opened.is at c.requires.transition_fits in
    let same_part = parted c.args.catalogue.now c.args.self.now.outer.items
    c.push.new.self.items c.args.of.0 c.part-part.result.0 0 c.requires.fit
    (omega (arith, c.push.ensures.len))
    (c.part-part.ensures.rooms (opened_bare c.args.catalogue.now c.args.self.now.outer.items
    c.args.of.0 c.in-Opened.count kind.0)) in
    let opens = rw c.in-Opened.is at c.requires.transition_fits in
    let e : pred (24 - length c.args.self.now.outer.items) ≡ 24 - length c.push.new.self.items =
    omega (arith, c.push.ensures.len) in
    rw (same_part, ← e) (fit_first (24 - length c.args.self.now.outer.items) T
    c.in-Opened.count c.requires.fit opens.0 opens.1)

pub descend_to_number-requires-in-Selected-clause-fit :
    goal.descend_to_number-requires-in-Selected-clause-fit
descend_to_number-requires-in-Selected-clause-fit c =
    let T = tree_in c.args.catalogue.now c.args.self.now.outer.items c.args.of.0 in
    let same_part = case_parted c.args.catalogue.now c.args.self.now.outer.items
    c.push-in-Selected.new.self.items c.args.of.0 c.part_in-part.result.0
    c.in-Selected.index c.len.result c.requires.fit
    (omega (arith, c.push-in-Selected.ensures.len)) c.len.ensures.value
    c.part_in-part.ensures.tree in
    let case = rw c.in-Selected.is at c.requires.transition_fits in
    let e : pred (24 - length c.args.self.now.outer.items)
    ≡ 24 - length c.push-in-Selected.new.self.items =
    omega (arith, c.push-in-Selected.ensures.len) in
    rw (same_part, ← e)
    (fit_selected (24 - length c.args.self.now.outer.items) T c.in-Selected.index c.requires.fit
    case)

pub push-requires-in-Entered : goal.push-requires-in-Entered
push-requires-in-Entered c = (
  omega arith,
  omega (
    arith,
    fit_room (24 - length c.args.self.now.outer.items)
        (tree_in c.args.catalogue.now c.args.self.now.outer.items c.args.of.0) c.requires.fit,
  ),
)

pub descend_to_number-requires-in-Entered-clause-fit :
    goal.descend_to_number-requires-in-Entered-clause-fit
descend_to_number-requires-in-Entered-clause-fit c =
    let T = tree_in c.args.catalogue.now c.args.self.now.outer.items c.args.of.0 in
    let kind = rw c.in-Entered.is at c.requires.transition_fits in
    let same_part = parted c.args.catalogue.now c.args.self.now.outer.items
    c.push-in-Entered.new.self.items c.args.of.0 c.part-part-in-Entered.result.0 0 c.requires.fit
    (omega (arith, c.push-in-Entered.ensures.len))
    (c.part-part-in-Entered.ensures.rooms (entered_bare c.args.catalogue.now
    c.args.self.now.outer.items c.args.of.0 kind.0)) in
    let opens = rw c.in-Entered.is at c.requires.transition_fits in
    let e : pred (24 - length c.args.self.now.outer.items)
    ≡ 24 - length c.push-in-Entered.new.self.items =
    omega (arith, c.push-in-Entered.ensures.len) in
    rw (same_part, ← e)
    (fit_inside (24 - length c.args.self.now.outer.items) T c.requires.fit opens.0)

pub returns-in-More-clause-advances : goal.returns-in-More-clause-advances
returns-in-More-clause-advances c coding path at =
    let C = c.args.catalogue.now in
    let d = c.args.self.now in
    let leaf = c.in-More.leaf in
    let fits = rw c.in-More.is at c.requires.transition_fits in
    rw c.in-More.is
    (rooted_gone C [] at d.outer.items (leaf_of C d.outer.items leaf d.carry d.piece.items) _
    (ap (λ i. resume_outer coding path (open_parts C at d.outer.items)
    (Short [] at [] (leaf_by (tree_in C d.outer.items i) leaf d.carry d.piece.items)))
    (sym fits.0)
    ∙ around_gone C coding path at d.outer.items
    (leaf_of C d.outer.items leaf d.carry d.piece.items) c.requires.known_outer))

pub returns-in-Refused-clause-advances : goal.returns-in-Refused-clause-advances
returns-in-Refused-clause-advances c coding path at =
    let C = c.args.catalogue.now in
    let T = tree_in C c.args.self.now.outer.items c.args.of.0 in
    let rule = rw c.in-Refused.is at c.requires.transition_fits in
    rw c.in-Refused.is (ap (done_if_untyped none_left)
    (around-fault coding path (open_parts C at c.args.self.now.outer.items) [] at _ T rule)
    ∙ rooted_fault [] at _ T rule)

pub returns-in-Opened-clause-advances : goal.returns-in-Opened-clause-advances
returns-in-Opened-clause-advances c coding path at =
    let C = c.args.catalogue.now in
    let T = tree_in C c.args.self.now.outer.items c.args.of.0 in
    let kind = rw c.in-Opened.is at c.requires.transition_fits in
    let same_part = parted c.args.catalogue.now c.args.self.now.outer.items
    c.push.new.self.items c.args.of.0 c.part-part.result.0 0 c.requires.fit
    (omega (arith, c.push.ensures.len))
    (c.part-part.ensures.rooms (opened_bare c.args.catalogue.now c.args.self.now.outer.items
    c.args.of.0 c.in-Opened.count kind.0)) in
    let old = c.args.self.now.outer.items in
    let new = c.descend_to_number.new.outer.items in
    let transitions = rw c.in-Opened.is at c.requires.transition_fits in
    let ended : any_encapsulation_ended c.push.new.self.items ≡ any_encapsulation_ended old =
    rw c.push.ensures.items (ended_push old _ refl) in
    let inner = Part T 0 c.in-Opened.count ∷ start_outer (part_of T 0) in
    let same : unless_ended (any_encapsulation_ended old) [] at (open_parts C at old ++ inner)
    (start_leaf (part_of T 0)) ≡ unless_ended (any_encapsulation_ended new) []
    at (open_parts C at new) (start_leaf (part_of T 0)) =
    rw (
      c.descend_to_number.ensures.ended,
      c.descend_to_number.ensures.begun at,
      same_part,
      ended,
      c.push.ensures.items,
      places_push,
      place_part T 0 c.in-Opened.count transitions.0,
      append_assoc,
    ) refl
    in
    rw (c.in-Opened.is, (rw c.in-Opened.is at c.requires.lets_go).0)
    (rooted_gone C [] at new (LeadingNumber (tree_in C new c.descend_to_number.result.0) []) _
    (around_unless_ended C 24 coding path at old inner (start_leaf (part_of T 0))
    c.requires.known_outer
    ∙ (same ∙ ap (λ l. unless_ended (any_encapsulation_ended new) [] at (open_parts C at new) l)
    (rw same_part at c.descend_to_number.ensures.leaf))))

pub returns-in-Selected-clause-advances : goal.returns-in-Selected-clause-advances
returns-in-Selected-clause-advances c coding path at =
    let C = c.args.catalogue.now in
    let T = tree_in C c.args.self.now.outer.items c.args.of.0 in
    let same_part = case_parted c.args.catalogue.now c.args.self.now.outer.items
    c.push-in-Selected.new.self.items c.args.of.0 c.part_in-part.result.0
    c.in-Selected.index c.len.result c.requires.fit
    (omega (arith, c.push-in-Selected.ensures.len)) c.len.ensures.value
    c.part_in-part.ensures.tree in
    let old = c.args.self.now.outer.items in
    let new = c.descend_to_number-in-Selected.new.outer.items in
    let transitions = rw c.in-Selected.is at c.requires.transition_fits in
    let ended : any_encapsulation_ended c.push-in-Selected.new.self.items
    ≡ any_encapsulation_ended old =
    rw c.push-in-Selected.ensures.items (ended_push old _ refl) in
    let inner = Member T c.in-Selected.index ∷ start_outer (part_of T c.in-Selected.index) in
    let same : unless_ended (any_encapsulation_ended old) [] at (open_parts C at old ++ inner)
    (start_leaf (part_of T c.in-Selected.index))
    ≡ unless_ended (any_encapsulation_ended new) [] at (open_parts C at new)
    (start_leaf (part_of T c.in-Selected.index)) =
    rw (
      c.descend_to_number-in-Selected.ensures.ended,
      c.descend_to_number-in-Selected.ensures.begun at,
      same_part,
      ended,
      c.push-in-Selected.ensures.items,
      places_push,
      place_case T c.in-Selected.index 0 transitions,
      append_assoc,
    ) refl in
    rw (c.in-Selected.is, (rw c.in-Selected.is at c.requires.lets_go).0)
    (rooted_gone C [] at new (LeadingNumber (tree_in C new c.descend_to_number-in-Selected.result.0)
    []) _ (around_unless_ended C 24 coding path at old inner
    (start_leaf (part_of T c.in-Selected.index)) c.requires.known_outer
    ∙ (same ∙ ap (λ l. unless_ended (any_encapsulation_ended new) [] at (open_parts C at new) l)
    (rw same_part at c.descend_to_number-in-Selected.ensures.leaf))))

pub returns-in-Entered-clause-advances : goal.returns-in-Entered-clause-advances
returns-in-Entered-clause-advances c coding path at =
    let C = c.args.catalogue.now in
    let T = tree_in C c.args.self.now.outer.items c.args.of.0 in
    let kind = rw c.in-Entered.is at c.requires.transition_fits in
    let same_part = parted c.args.catalogue.now c.args.self.now.outer.items
    c.push-in-Entered.new.self.items c.args.of.0 c.part-part-in-Entered.result.0 0 c.requires.fit
    (omega (arith, c.push-in-Entered.ensures.len))
    (c.part-part-in-Entered.ensures.rooms (entered_bare c.args.catalogue.now
    c.args.self.now.outer.items c.args.of.0 kind.0)) in
    let old = c.args.self.now.outer.items in
    let pushed = c.push-in-Entered.new.self.items in
    let new = c.descend_to_number-in-Entered.new.outer.items in
    let part = part_of T 0 in
    let transitions = rw c.in-Entered.is at c.requires.transition_fits in
    let f = inside_frame c.args.of c.in-Entered.order c.in-Entered.count in
    let all : AreKnown C pushed = rw c.push-in-Entered.ensures.items
    (all_push (IsKnown C) old f c.requires.known_outer
    (record {
      known = c.requires.known;
      within = λ room. (
        held_in_room C (24 - length old) room c.args.of.0 transitions.0,
        omega arith,
        omega (arith, transitions.1),
      );
    })) in
    let same : unless_ended (any_encapsulation_ended pushed) []
    at (open_parts C at pushed ++ start_outer part)
    (start_leaf part) ≡ unless_ended (any_encapsulation_ended new) [] at (open_parts C at new)
    (start_leaf part) =
    rw (
      c.descend_to_number-in-Entered.ensures.ended,
      c.descend_to_number-in-Entered.ensures.begun at,
      same_part,
    ) refl in
    rw (c.in-Entered.is, (rw c.in-Entered.is at c.requires.lets_go).0)
    (rooted_gone C [] at new (LeadingNumber (tree_in C new c.descend_to_number-in-Entered.result.0)
    []) _
    (sym (ap (λ ps. resume_outer coding path ps (Short [] at (start_outer part) (start_leaf part)))
    (ap (open_parts C at) c.push-in-Entered.ensures.items ∙ places_push C 24 at old f)
    ∙ around-append coding path (open_parts C at old) (open_part C (24 - length old) at f)
    (Short [] at (start_outer part) (start_leaf part)))
    ∙ (around_unless_ended C 24 coding path at pushed (start_outer part) (start_leaf part) all
    ∙ (same ∙ ap (λ l. unless_ended (any_encapsulation_ended new) [] at (open_parts C at new) l)
    (rw same_part at c.descend_to_number-in-Entered.ensures.leaf)))))

pub returns-in-Opened-clause-stand : goal.returns-in-Opened-clause-stand
returns-in-Opened-clause-stand c at pos h =
    c.descend_to_number.ensures.stand at (rw c.push.ensures.items
    (stand_push at c.args.self.now.outer.items _ h tt))

pub returns-in-Selected-clause-stand : goal.returns-in-Selected-clause-stand
returns-in-Selected-clause-stand c at pos h =
    c.descend_to_number-in-Selected.ensures.stand at (rw c.push-in-Selected.ensures.items
    (stand_push at c.args.self.now.outer.items _ h tt))

pub returns-in-Entered-clause-stand : goal.returns-in-Entered-clause-stand
returns-in-Entered-clause-stand c at pos h =
    c.descend_to_number-in-Entered.ensures.stand at (rw c.push-in-Entered.ensures.items
    (stand_push at c.args.self.now.outer.items _ h (omega (arith, pos))))

pub returns-in-Entered-clause-link : goal.returns-in-Entered-clause-link
returns-in-Entered-clause-link c root leaf moved h e =
    let C = c.args.catalogue.now in
    let kind = rw c.in-Entered.is at c.requires.transition_fits in
    link_number C root c.descend_to_number-in-Entered.new.outer.items
    c.descend_to_number-in-Entered.result leaf (c.descend_to_number-in-Entered.ensures.linked root
    (link_next C root c.args.self.now.outer.items c.push-in-Entered.new.self.items c.args.of.0
    c.part-part-in-Entered.result.0 _ refl c.push-in-Entered.ensures.items 24
    (entered_bare C c.args.self.now.outer.items c.args.of.0 kind.0)
    c.part-part-in-Entered.ensures.number h)) e

pub returns-in-Ended-clause-stand : goal.returns-in-Ended-clause-stand
returns-in-Ended-clause-stand c at pos h = c.go_on_after_part-self.ensures.stand at h

pub returns-in-Ended-clause-advances : goal.returns-in-Ended-clause-advances
returns-in-Ended-clause-advances c coding path at =
    let C = c.args.catalogue.now in
    let empty = rw c.in-Ended.is at c.requires.lets_go in
    rw c.in-Ended.is (c.go_on_after_part-self.ensures.next coding path at
    ∙ gone_stopped C c.go_on_after_part-self.new.outer.items _ _ c.go_on_after_part-self.result at
    empty.0 empty.1)

pub returns-in-Opened-clause-link : goal.returns-in-Opened-clause-link
returns-in-Opened-clause-link c root leaf moved h e =
    let C = c.args.catalogue.now in
    let kind = rw c.in-Opened.is at c.requires.transition_fits in
    link_number C root c.descend_to_number.new.outer.items c.descend_to_number.result leaf
    (c.descend_to_number.ensures.linked root (link_next C root c.args.self.now.outer.items
    c.push.new.self.items c.args.of.0 c.part-part.result.0 _ refl c.push.ensures.items 24
    (opened_bare C c.args.self.now.outer.items c.args.of.0 c.in-Opened.count kind.0)
    c.part-part.ensures.number h))
    e

pub returns-in-Selected-clause-link : goal.returns-in-Selected-clause-link
returns-in-Selected-clause-link c root leaf moved h e =
    let C = c.args.catalogue.now in
    link_number C root c.descend_to_number-in-Selected.new.outer.items
    c.descend_to_number-in-Selected.result leaf (c.descend_to_number-in-Selected.ensures.linked root
    (link_push C root (24 - c.len.result) c.args.self.now.outer.items
    c.push-in-Selected.new.self.items c.args.of.0 c.part_in-part.result.0 _ refl
    c.push-in-Selected.ensures.items
    (omega (arith, c.len.ensures.value, c.push-in-Selected.ensures.len))
    c.part_in-part.ensures.number h)) e

pub returns-in-More-clause-inside : goal.returns-in-More-clause-inside
returns-in-More-clause-inside c at lines =
    let C = c.args.catalogue.now in
    let d = c.args.self.now in
    let leaf = c.in-More.leaf in
    let transitions = rw c.in-More.is at c.requires.transition_fits in
    rw (c.in-More.is, ← transitions.0)
    (unless_ended_inside (any_encapsulation_ended d.outer.items) lines
    at (open_parts C at d.outer.items) (leaf_of C d.outer.items leaf d.carry d.piece.items)
    ∙ leaf_inside C d.outer.items leaf d.carry d.piece.items)

pub returns-in-Ended-clause-inside : goal.returns-in-Ended-clause-inside
returns-in-Ended-clause-inside c at lines =
    rw c.in-Ended.is (stopped_silent c.args.catalogue.now c.go_on_after_part-self.new.outer.items _
    _ c.go_on_after_part-self.result lines at c.go_on_after_part-self.ensures.plain)

pub returns-in-Opened-clause-encloses : goal.returns-in-Opened-clause-encloses
returns-in-Opened-clause-encloses c =
    let a = c.descend_to_number.ensures.inside in
    a.1 ∙ (ap (within_after_frame a.0) c.requires.encloses
    ∙ sym (a.2 ∙ ap (within_after_frame a.0)
    (rw c.push.ensures.items (push_more c.args.self.now.outer.items _ refl))))

pub returns-in-Selected-clause-encloses : goal.returns-in-Selected-clause-encloses
returns-in-Selected-clause-encloses c =
    let a = c.descend_to_number-in-Selected.ensures.inside in
    a.1 ∙ (ap (within_after_frame a.0) c.requires.encloses
    ∙ sym (a.2 ∙ ap (within_after_frame a.0)
    (rw c.push-in-Selected.ensures.items (push_more c.args.self.now.outer.items _ refl))))

pub returns-in-Entered-clause-encloses : goal.returns-in-Entered-clause-encloses
returns-in-Entered-clause-encloses c =
    let a = c.descend_to_number-in-Entered.ensures.inside in
    a.1 ∙ (ap (within_after_frame a.0) (c.within_after_encapsulation-self.ensures
    ∙ ap within_after_encapsulation c.requires.encloses)
    ∙ sym (a.2 ∙ ap (within_after_frame a.0)
    (rw c.push-in-Entered.ensures.items (push_held c.args.self.now.outer.items _ _ refl refl))))

pub within_of-self-requires : goal.within_of-self-requires
within_of-self-requires c =
    rw c.as_slice.ensures.value (c.go_on_after_part-self.ensures.most
    (rw c.requires.encloses (at_most (within_of c.args.self.now.outer.items))))

pub part_in-part-requires-clause-led : goal.part_in-part-requires-clause-led
part_in-part-requires-clause-led c led =
    let C = c.args.catalogue.now in
    let old = c.args.self.now.outer.items in
    let i = c.in-Selected.index in
    let few = fit_room (24 - length old) (tree_in C old c.args.of.0) c.requires.fit in
    let one : 24 - length old ≡ suc (23 - length old) = omega (arith, few) in
    let case = rw c.in-Selected.is at c.requires.transition_fits in
    case_known C (23 - length old) c.args.of.0 i
    (subst (λ n. HasCase (tree_at C n c.args.of.0) i) one case) led

pub unreachable-unreachable : goal.unreachable-unreachable
unreachable-unreachable c = absurd (rw c.in-Recursed.is at c.requires.settled)

pub returns-in-Stopped-clause-stand : goal.returns-in-Stopped-clause-stand
returns-in-Stopped-clause-stand c at pos h = c.go_on_at_untyped-self.ensures.stand at h

pub returns-in-Stopped-clause-advances : goal.returns-in-Stopped-clause-advances
returns-in-Stopped-clause-advances c coding path at =
    let C = c.args.catalogue.now in
    let T = tree_in C c.args.self.now.outer.items c.args.of.0 in
    let empty = rw c.in-Stopped.is at c.requires.lets_go in
    rw c.in-Stopped.is (c.go_on_at_untyped-self.ensures.next coding path at T
    ∙ gone_stopped C c.go_on_at_untyped-self.new.outer.items _ _ c.go_on_at_untyped-self.result at
    empty.0 empty.1)

pub returns-in-Stopped-clause-inside : goal.returns-in-Stopped-clause-inside
returns-in-Stopped-clause-inside c at lines =
    rw c.in-Stopped.is (stopped_silent c.args.catalogue.now c.go_on_at_untyped-self.new.outer.items
    _ _ c.go_on_at_untyped-self.result lines at c.go_on_at_untyped-self.ensures.plain)

pub within_of-self-requires-in-Stopped : goal.within_of-self-requires-in-Stopped
within_of-self-requires-in-Stopped c =
    rw c.as_slice-in-Stopped.ensures.value (c.go_on_at_untyped-self.ensures.most
    (rw c.requires.encloses (at_most (within_of c.args.self.now.outer.items))))
