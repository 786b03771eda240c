use Rattle.std.proofs.Common.{◌≡◌, ◌∙◌, ◌-◌, ◌++◌, ◌∷◌, [], List, Bool, true, false, Some, ap, refl, subst}
use Rattle.std.specs.Prelude.{◌||◌}
use Rattle.giop_decode.specs.declared.frame.Frame.{Frame}
use Rattle.giop_decode.specs.declared.frame.Stage.{Stage}
use Rattle.giop_decode.specs.declared.frame.Within.{Within}
use Rattle.giop_decode.specs.declared.frame.Within.TheVariants as withins
use Rattle.giop_decode.specs.NextParts.{frames_above}
use Rattle.giop_decode.specs.Transitions.{IsAtMost, StandAt, any_is_encapsulation, within_of, is_some_stage, any_tells, within_by}
use Rattle.giop_decode.proofs.Going.{tell_popped}
use Rattle.giop_decode.proofs.Rooms.{led_bare}
use Rattle.giop_decode.proofs.Surrounding.{stand_pop, stand_push}
use Rattle.giop_decode.proofs.Telling.{ends_told, stops_told, then_told, told_here}
use Rattle.giop_sig.specs.Trees.{tree}
use Rattle.giop_sig.specs.Types.{Ends, Stops, Then}
use Rattle.giop_decode.proofs.frame.go_to_told_part.Goals as goal

or_true : (b : Bool) → b || true ≡ true
or_true true = refl
or_true false = refl

-- if the last frame tells what comes after it, the frames ask the most that can be asked

told_last : (rest : List Frame) (f : Frame) (stage : Stage) → f.told ≡ Some stage →
    any_tells (rest ++ f ∷ []) ≡ true
told_last [] f stage e = rw e refl
told_last (g ∷ rest) f stage e =
    ap (λ b. is_some_stage g.told || b) (told_last rest f stage e) ∙ or_true (is_some_stage g.told)

most_any : (x most : Within) → IsAtMost withins.Telling most → IsAtMost x most
most_any withins.Nothing most h = tt
most_any withins.Encapsulation withins.Telling h = tt
most_any withins.Telling withins.Telling h = tt
most_any x withins.Nothing h = absurd h
most_any x withins.Encapsulation h = absurd h

pub returns-in-Then-clause-most : goal.returns-in-Then-clause-most
returns-in-Then-clause-most c most h =
    let items = c.args.outer.now.items in
    let rest = frames_above items in
    let f = c.in-Some.frame in
    let all = rest ++ f ∷ [] in
    let told = c.requires.told rest f c.in-Some.ensures.some in
    let there = subst (λ fs. IsAtMost (within_of fs) most) c.in-Some.ensures.some h in
    most_any (within_of c.replace_innermost.new.outer.items) most
    (subst (λ x. IsAtMost x most)
    (ap (λ b. within_by b (any_is_encapsulation all)) (told_last rest f c.args.told told)) there)

pub returns-in-Then-clause-part : goal.returns-in-Then-clause-part
returns-in-Then-clause-part c =
    let C = c.args.catalogue.now in
    let items = c.args.outer.now.items in
    let rest = frames_above items in
    let f = c.in-Some.frame in
    let is = c.in-Some.ensures.some in
    let told = c.requires.told rest f is in
    let start = c.requires.open.0 in
    let P = tell_popped C start items rest f c.args.told c.requires.known c.requires.open.1 is
    told in
    let to = c.replace_innermost.ensures rest f is in
    let s = told_here C items rest f c.args.told start is told P c.len.result
    (Then (c.in-Then.place - 1)) c.len.ensures.value
    (rw c.signal_by.ensures at c.in-Then.ensures.is) in
    (then_told C items rest f c.args.told start is told P c.in-Then.place
    c.replace_innermost.new.outer.items _ c.part.result.0 c.in-Then.ensures.index s to refl
    c.part.ensures.known c.part.ensures.number
    (c.part.ensures.rooms (led_bare (tree C f.of.0) (P.within 24).0))).0

pub returns-in-Then-clause-known : goal.returns-in-Then-clause-known
returns-in-Then-clause-known c =
    let C = c.args.catalogue.now in
    let items = c.args.outer.now.items in
    let rest = frames_above items in
    let f = c.in-Some.frame in
    let is = c.in-Some.ensures.some in
    let told = c.requires.told rest f is in
    let start = c.requires.open.0 in
    let P = tell_popped C start items rest f c.args.told c.requires.known c.requires.open.1 is
    told in
    let to = c.replace_innermost.ensures rest f is in
    let s = told_here C items rest f c.args.told start is told P c.len.result
    (Then (c.in-Then.place - 1)) c.len.ensures.value
    (rw c.signal_by.ensures at c.in-Then.ensures.is) in
    (then_told C items rest f c.args.told start is told P c.in-Then.place
    c.replace_innermost.new.outer.items _ c.part.result.0 c.in-Then.ensures.index s to refl
    c.part.ensures.known c.part.ensures.number
    (c.part.ensures.rooms (led_bare (tree C f.of.0) (P.within 24).0))).1

pub returns-in-Then-clause-stand : goal.returns-in-Then-clause-stand
returns-in-Then-clause-stand c at h =
    let items = c.args.outer.now.items in
    let rest = frames_above items in
    let f = c.in-Some.frame in
    let is = c.in-Some.ensures.some in
    let told = c.requires.told rest f is in
    let P = tell_popped c.args.catalogue.now c.requires.open.0 items rest f c.args.told
    c.requires.known c.requires.open.1 is told in
    rw (c.replace_innermost.ensures rest f is) (stand_push at rest _
    (stand_pop at rest f (subst (StandAt at) is h)) (rw (P.within 24).1 tt))

pub returns-in-Ends-clause-none : goal.returns-in-Ends-clause-none
returns-in-Ends-clause-none c =
    let C = c.args.catalogue.now in
    let items = c.args.outer.now.items in
    let rest = frames_above items in
    let f = c.in-Some.frame in
    let is = c.in-Some.ensures.some in
    let told = c.requires.told rest f is in
    let start = c.requires.open.0 in
    let P = tell_popped C start items rest f c.args.told c.requires.known c.requires.open.1 is
    told in
    let s = told_here C items rest f c.args.told start is told P c.len.result
    Ends c.len.ensures.value (rw c.signal_by.ensures at c.in-Ends.ensures.is) in
    ends_told C items rest f c.args.told start is told P c.pop.new.self.items s
    c.pop.ensures.rest

pub returns-in-Stops-clause-known : goal.returns-in-Stops-clause-known
returns-in-Stops-clause-known c =
    let C = c.args.catalogue.now in
    let items = c.args.outer.now.items in
    let is = c.in-Some.ensures.some in
    let P = tell_popped C c.requires.open.0 items (frames_above items) c.in-Some.frame c.args.told
    c.requires.known c.requires.open.1 is (c.requires.told _ _ is) in
    c.pop_to_encapsulation.ensures.known C (rw c.pop-in-Stops.ensures.rest P.known_rest)

pub returns-in-Stops-clause-stand : goal.returns-in-Stops-clause-stand
returns-in-Stops-clause-stand c at h =
    let items = c.args.outer.now.items in
    let is = c.in-Some.ensures.some in
    c.pop_to_encapsulation.ensures.stand at (rw c.pop-in-Stops.ensures.rest
    (stand_pop at (frames_above items) c.in-Some.frame (subst (StandAt at) is h)))

pub returns-in-Stops-clause-none : goal.returns-in-Stops-clause-none
returns-in-Stops-clause-none c =
    let C = c.args.catalogue.now in
    let items = c.args.outer.now.items in
    let rest = frames_above items in
    let f = c.in-Some.frame in
    let is = c.in-Some.ensures.some in
    let told = c.requires.told rest f is in
    let start = c.requires.open.0 in
    let P = tell_popped C start items rest f c.args.told c.requires.known c.requires.open.1 is
    told in
    let s = told_here C items rest f c.args.told start is told P c.len.result
    Stops c.len.ensures.value (rw c.signal_by.ensures at c.in-Stops.ensures.is) in
    stops_told C items rest f c.args.told start is told P c.pop-in-Stops.new.self.items
    c.pop_to_encapsulation.new.outer.items s c.pop-in-Stops.ensures.rest
    (λ at h. c.pop_to_encapsulation.ensures.are_open C at h)
    (λ coding path at S. c.pop_to_encapsulation.ensures.next C coding path at S
    (rw c.pop-in-Stops.ensures.rest P.known_rest))
    (λ root inner h. c.pop_to_encapsulation.ensures.linked C root inner h)
