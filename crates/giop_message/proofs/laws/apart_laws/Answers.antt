use Rattle.giop_message.specs.Signatures.{signatures_of}
use Rattle.giop_message.proofs.Closes.{is_apart}
use Rattle.giop_message.proofs.laws.apart_laws.Goals as goal

pub returns : goal.returns
returns c C answers = is_apart (λ phase number. signatures_of C (answers number) phase)
