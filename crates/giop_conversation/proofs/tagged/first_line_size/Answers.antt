use Rattle.std.proofs.Common.{sym, add-one, arith}
use Rattle.giop_conversation.proofs.TagLemmas.{line_none, line_some}
use Rattle.giop_conversation.proofs.tagged.first_line_size.Goals as goal

pub returns-in-Some-clause-value : goal.returns-in-Some-clause-value
returns-in-Some-clause-value c =
    let found = rw c.in-Some.is at c.memchr.ensures in
    rw add-one (sym (line_some c.args.octets.now c.in-Some.at found.0.high
    (λ j less. found.0.before j (omega arith) less) found.1))

pub returns-in-None-clause-value : goal.returns-in-None-clause-value
returns-in-None-clause-value c =
    let none = rw c.in-None.is at c.memchr.ensures in
    sym (line_none c.args.octets.now (λ k low. none k (omega arith) low))
