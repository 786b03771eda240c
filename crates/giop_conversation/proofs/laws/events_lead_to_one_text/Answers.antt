use Rattle.giop_conversation.proofs.OneText.{one_text, one_dump}
use Rattle.giop_conversation.proofs.laws.events_lead_to_one_text.Goals as goal

pub returns : goal.returns
returns c = record { text = one_text; rest = one_dump }
