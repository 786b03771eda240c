use Rattle.std.proofs.Common.{refl}
use Rattle.giop_conversation.proofs.TimeLemmas.{pair_at}
use Rattle.giop_conversation.proofs.times.put_two_digits.Goals as goal

pub returns-clause-text : goal.returns-clause-text
returns-clause-text c =
    let pair = pair_at c.args.n c.requires.few in
    rw (c.put-2.ensures.text, c.put.ensures.text, pair.0, pair.1) refl
