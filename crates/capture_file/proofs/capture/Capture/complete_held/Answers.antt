use Rattle.std.proofs.Common.{[], take, ap, arith}
use Rattle.capture_file.proofs.Taking.{takes_rest}
use Rattle.capture_file.proofs.capture.Capture.complete_held.Goals as goal

pub returns-clause-reads : goal.returns-clause-reads
returns-clause-reads c p r =
    let mid = c.keep_needed.new.self in
    (takes_rest p c.args.piece.now []
    (take c.back-back.result mid.end_octets) c.args.self.now mid c.end_part.new.self
    c.end_part.result r c.requires.running c.requires.whole c.keep_needed.ensures.kept
    c.keep_needed.ensures.octets
    (omega (arith, mid.end_room))
    (ap (λ n. take n mid.end_octets) c.back-back.ensures.value)
    c.end_part.ensures.completes).reads

pub returns-clause-answers : goal.returns-clause-answers
returns-clause-answers c p octets r =
    let mid = c.keep_needed.new.self in
    (takes_rest p c.args.piece.now octets
    (take c.back-back.result mid.end_octets) c.args.self.now mid c.end_part.new.self
    c.end_part.result r c.requires.running c.requires.whole c.keep_needed.ensures.kept
    c.keep_needed.ensures.octets
    (omega (arith, mid.end_room))
    (ap (λ n. take n mid.end_octets) c.back-back.ensures.value)
    c.end_part.ensures.completes).answers
