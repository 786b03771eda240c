use Rattle.giop_conversation.proofs.Tagging.{ready_new, ready_with, ready_wrote, ready_front}
use Rattle.giop_conversation.proofs.laws.lines_stand_below.Goals as goal

pub returns-clause-start : goal.returns-clause-start
returns-clause-start c = ready_new

pub returns-clause-again : goal.returns-clause-again
returns-clause-again c = ready_with

pub returns-clause-writes : goal.returns-clause-writes
returns-clause-writes c = ready_wrote

pub returns-clause-front : goal.returns-clause-front
returns-clause-front c = ready_front
