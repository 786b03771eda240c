use Rattle.giop_message.proofs.MessageLaws.{few_said, four_said}
use Rattle.giop_message.proofs.request_id.request_id_laws.Goals as goal

pub returns : goal.returns
returns c = record { few = few_said; value = four_said }
