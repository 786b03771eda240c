use Rattle.std.proofs.Common.{◌≡◌, ◌+◌, ◌-◌, ◌++◌, ◌≤◌, ℕ, List, length, take, drop, ap, sym, ◌∙◌, subst, arith}
use Rattle.std.proofs.lemmas.List.{take_rest, take_all, length-drop}
use Rattle.capture_file.specs.CaptureState.{Reads, Answers}
use Rattle.capture_file.specs.CaptureSteps.{IsRecordDue}
use Rattle.capture_file.specs.Parts.{back, size}
use Rattle.capture_file.specs.declared.progress.Progress.TheVariants as progress
use Rattle.capture_file.proofs.Taking.{takes_piece, takes_at_once}
use Rattle.capture_file.proofs.WholeRecords.{takes_record}
use Rattle.capture_file.proofs.capture.Capture.take_part.Goals as goal

pub returns-in-Some-clause-reads : goal.returns-in-Some-clause-reads
returns-in-Some-clause-reads c p r =
    let due : IsRecordDue c.args.self.now (drop c.args.start c.args.octets.now)
    c.in-Some.info c.in-Some.captured =
    rw (c.in-Some.info-is, c.in-Some.captured-is, ← take_rest c.args.octets.now c.args.start)
    c.in-Some.ensures in
    rw c.take_record.ensures.count
    (takes_record p c.args.octets.now c.in-Some.info c.args.start c.in-Some.captured
    c.args.self.now c.take_record.new.self r c.requires.running due
    c.take_record.ensures.takes).reads

pub returns-in-Some-clause-answers : goal.returns-in-Some-clause-answers
returns-in-Some-clause-answers c p r =
    let due : IsRecordDue c.args.self.now (drop c.args.start c.args.octets.now)
    c.in-Some.info c.in-Some.captured =
    rw (c.in-Some.info-is, c.in-Some.captured-is, ← take_rest c.args.octets.now c.args.start)
    c.in-Some.ensures in
    rw c.take_record.ensures.count
    (takes_record p c.args.octets.now c.in-Some.info c.args.start c.in-Some.captured
    c.args.self.now c.take_record.new.self r c.requires.running due
    c.take_record.ensures.takes).answers

-- all octets from an index on, in the way that the code takes them
all_of : (octets : List ℕ) (start : ℕ) →
    take (length (take (length octets - start) (drop start octets))) (drop start octets)
    ≡ take (length octets - start) (drop start octets)
all_of octets start =
    let rest = take_rest octets start in
    ap (λ x. take (length x) (drop start octets)) rest
    ∙ take_all (length (drop start octets)) (drop start octets) (omega arith) ∙ sym rest

pub returns-then-missing-rest-clause-reads : goal.returns-then-missing-rest-clause-reads
returns-then-missing-rest-clause-reads c p r =
    let e = all_of c.args.octets.now c.args.start in
    subst (λ x. Reads c.hold_part_piece.new.self (p ++ x)) (sym e)
    (takes_piece p _ c.args.octets.now c.args.self.now c.hold_part_piece.new.self r
    c.requires.running
    c.hold_part_piece.ensures.kept
    c.hold_part_piece.ensures.taken c.hold_part_piece.ensures.octets
    (omega (arith, c.if-missing-rest.true, c.size.ensures))).reads

pub returns-then-missing-rest-clause-answers : goal.returns-then-missing-rest-clause-answers
returns-then-missing-rest-clause-answers c p r =
    let e = all_of c.args.octets.now c.args.start in
    subst (λ x. Answers progress.More p x c.hold_part_piece.new.self c.args.octets.now) (sym e)
    (takes_piece p _ c.args.octets.now c.args.self.now c.hold_part_piece.new.self r
    c.requires.running
    c.hold_part_piece.ensures.kept
    c.hold_part_piece.ensures.taken c.hold_part_piece.ensures.octets
    (omega (arith, c.if-missing-rest.true, c.size.ensures))).answers

-- the octets at the end of a piece that begins at an index, in the way that the code takes them
end_of_piece : (octets : List ℕ) (start count back known : ℕ) → back ≡ known →
    take (length (take count (take (length octets - start) (drop start octets))) - (count - back))
    (drop (count - back) (take count (take (length octets - start) (drop start octets))))
    ≡ drop (count - known) (take count (drop start octets))
end_of_piece octets start count back known is =
    take_rest (take count (take (length octets - start) (drop start octets))) (count - back)
    ∙ ap (λ x. drop (count - back) (take count x)) (take_rest octets start)
    ∙ ap (λ n. drop (count - n) (take count (drop start octets))) is

pub returns-clause-reads : goal.returns-clause-reads
returns-clause-reads c p r =
    let octets = c.args.octets.now in
    let start = c.args.start in
    let count = c.size.result - c.args.self.now.taken in
    let end = take (length (take count (take (length octets - start) (drop start octets))) -
    (count - c.back-back.result))
    (drop (count - c.back-back.result)
    (take count (take (length octets - start) (drop start octets)))) in
    let fresh : c.args.self.now.taken ≡ 0 = omega (arith, c.if-self-gt0.false) in
    let whole : count ≡ size c.args.self.now.part = omega (arith, c.size.ensures, fresh) in
    let left : length (take (length octets - start) (drop start octets)) ≡ length octets - start =
    ap length (take_rest octets start) ∙ length-drop start octets in
    let within : start + count ≤ length octets =
    omega (arith, c.if-missing-rest.false, left, c.requires.some) in
    (takes_at_once p octets end count c.args.self.now c.count_octets.new.self c.end_part.new.self
    c.end_part.result start r
    c.requires.running fresh whole within c.count_octets.ensures.advances.part
    c.count_octets.ensures.advances.interfaces
    (c.count_octets.ensures.advances.fault
    ∙ c.requires.running) c.count_octets.ensures.advances.packets
    c.count_octets.ensures.advances.octets
    (end_of_piece octets start count c.back-back.result _ c.back-back.ensures.value)
    c.end_part.ensures.completes).reads

pub returns-clause-answers : goal.returns-clause-answers
returns-clause-answers c p r =
    let octets = c.args.octets.now in
    let start = c.args.start in
    let count = c.size.result - c.args.self.now.taken in
    let end = take (length (take count (take (length octets - start) (drop start octets))) -
    (count - c.back-back.result))
    (drop (count - c.back-back.result)
    (take count (take (length octets - start) (drop start octets)))) in
    let fresh : c.args.self.now.taken ≡ 0 = omega (arith, c.if-self-gt0.false) in
    let whole : count ≡ size c.args.self.now.part = omega (arith, c.size.ensures, fresh) in
    let left : length (take (length octets - start) (drop start octets)) ≡ length octets - start =
    ap length (take_rest octets start) ∙ length-drop start octets in
    let within : start + count ≤ length octets =
    omega (arith, c.if-missing-rest.false, left, c.requires.some) in
    (takes_at_once p octets end count c.args.self.now c.count_octets.new.self c.end_part.new.self
    c.end_part.result start r
    c.requires.running fresh whole within c.count_octets.ensures.advances.part
    c.count_octets.ensures.advances.interfaces
    (c.count_octets.ensures.advances.fault
    ∙ c.requires.running) c.count_octets.ensures.advances.packets
    c.count_octets.ensures.advances.octets
    (end_of_piece octets start count c.back-back.result _ c.back-back.ensures.value)
    c.end_part.ensures.completes).answers
