use Rattle.std.proofs.Common.{ℕ, Ok, Err, Result, arith}
use Rattle.std.proofs.lemmas.Result.{MatchResult-from_err}
use Rattle.giop_stream.specs.EngineHolds.{rules_with}
use Rattle.giop_conversation.specs.TaggedState.{tagging_log}
use Rattle.giop_conversation.proofs.StampedLemmas.{HasNoReplyLines, NoLineDueBefore, not_waiting}
use Rattle.giop_conversation.proofs.StreamReadLemmas.{front_lines, piece_written, piece_calls, piece_front}
use Rattle.giop_conversation.proofs.direction.Direction.read_until_due.Goals as goal

pub returns-in_err-fed-clause-text : goal.returns-in_err-fed-clause-text
returns-in_err-fed-clause-text g c = λ a p holds agrees table now unanswered unraised.
    let none : HasNoReplyLines c.args.exchange.now = record {
      answered = unanswered;
      raised =
          unraised;
    } in
    let e = c.args.self.now.engine in
    let s = c.args.exchange.now in
    let octets = c.args.octets.now in
    let t = c.in_err-fed.ensures.text a p holds agrees (not_waiting s none) in
    MatchResult-from_err c.from_residual.result _ _ c.from_residual.ensures.0 (λ _.
    piece_front e.table a e.most s p octets t.n table none t.fronts t.within
    (tagging_log c.args.out.now) (tagging_log c.feed_until_due.new.out) t.all)

pub returns-in_err-write_due-clause-text : goal.returns-in_err-write_due-clause-text
returns-in_err-write_due-clause-text g c = λ a p holds agrees table now unanswered unraised.
    let none : HasNoReplyLines c.args.exchange.now = record {
      answered = unanswered;
      raised =
          unraised;
    } in
    let e = c.args.self.now.engine in
    let s = c.args.exchange.now in
    let octets = c.args.octets.now in
    let n = c.in_ok-fed.fed.count in
    let t = c.in_ok-fed.ensures.text a p holds agrees (not_waiting s none) in
    let undue : NoLineDueBefore e.table (rules_with e a) s p octets n =
    λ k few. t.fronts k (omega (arith, few, t.counted)) in
    let come = c.in_ok-fed.ensures.come a p holds agrees in
    let begun = c.in_ok-fed.ensures.begun p (record { answers = a; holds = holds }) in
    let wrote = rw (← t.counted) at t.all in
    let failed : Result ℕ ℕ = Err 0 in
    MatchResult-from_err c.from_residual-in_err-write_due.result _ _
    c.from_residual-in_err-write_due.ensures.0 (λ _.
    front_lines (rules_with e a) s p octets n (tagging_log c.args.out.now)
    (tagging_log c.write_due.new.out)
    (piece_written e.table a e.most s p octets n table none undue c.in_ok-fed.ensures.within failed
    c.feed_until_due.new.exchange c.in_ok-fed.fed.begun c.args.arrival.now
    (tagging_log c.args.out.now)
    (tagging_log c.feed_until_due.new.out) (tagging_log c.write_due.new.out) now wrote come.1 begun
    c.in_err-write_due.ensures.text))

pub returns-clause-text : goal.returns-clause-text
returns-clause-text g c = λ a p holds agrees table now unanswered unraised.
    let none : HasNoReplyLines c.args.exchange.now = record {
      answered = unanswered;
      raised =
          unraised;
    } in
    let e = c.args.self.now.engine in
    let s = c.args.exchange.now in
    let octets = c.args.octets.now in
    let n = c.in_ok-fed.fed.count in
    let t = c.in_ok-fed.ensures.text a p holds agrees (not_waiting s none) in
    let undue : NoLineDueBefore e.table (rules_with e a) s p octets n =
    λ k few. t.fronts k (omega (arith, few, t.counted)) in
    let come = c.in_ok-fed.ensures.come a p holds agrees in
    let begun = c.in_ok-fed.ensures.begun p (record { answers = a; holds = holds }) in
    let wrote = rw (← t.counted) at t.all in
    let done : Result ℕ ℕ = Ok 0 in
    record {
      holds = come.0;
      wrote = piece_written e.table a e.most s p octets n table none undue
          c.in_ok-fed.ensures.within done c.feed_until_due.new.exchange c.in_ok-fed.fed.begun
          c.args.arrival.now (tagging_log c.args.out.now) (tagging_log c.feed_until_due.new.out)
          (tagging_log c.write_due.new.out) now wrote come.1 begun c.in_ok-write_due.ensures.text;
      told = piece_calls e.table a e.most s p octets n table none undue c.in_ok-fed.ensures.within
          c.feed_until_due.new.exchange c.write_due.new.exchange come.1 c.write_due.ensures.taken;
    }
