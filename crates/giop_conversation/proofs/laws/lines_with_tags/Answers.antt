use Rattle.giop_conversation.proofs.TagLemmas.{taken, joined}
use Rattle.giop_conversation.proofs.laws.lines_with_tags.Goals as goal

pub returns-clause-taken : goal.returns-clause-taken
returns-clause-taken c = taken

pub returns-clause-more : goal.returns-clause-more
returns-clause-more c = joined
