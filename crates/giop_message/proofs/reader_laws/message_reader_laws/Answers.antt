use Rattle.giop_message.specs.Signatures.{signatures_of}
use Rattle.giop_message.proofs.AtOctet.{octet_text, octet_over, close_short}
use Rattle.giop_message.proofs.Followings.{follows_goes}
use Rattle.giop_message.proofs.reader_laws.message_reader_laws.Goals as goal

pub returns : goal.returns
returns c = record {
  text = λ C answers phase number. octet_text (signatures_of C (answers number) phase) number;
  over = λ C answers phase number. octet_over (signatures_of C (answers number) phase);
  running = λ C answers phase number header m s f. follows_goes f;
  short = λ C answers phase number. close_short (signatures_of C (answers number) phase);
}
