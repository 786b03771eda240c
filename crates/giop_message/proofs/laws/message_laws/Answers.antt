use Rattle.std.proofs.Common.{refl}
use Rattle.giop_message.specs.Signatures.{signatures_of}
use Rattle.giop_message.proofs.Going.{message_goes, message_resumes}
use Rattle.giop_message.proofs.Faults.{over_where_faulted}
use Rattle.giop_message.proofs.Causal.{is_causal, is_ordered}
use Rattle.giop_message.proofs.Closes.{is_closing}
use Rattle.giop_message.proofs.Named.{is_ending, is_named, signatures_have_ids}
use Rattle.giop_message.proofs.AtOctet.{text_is, close_is}
use Rattle.giop_message.proofs.Phased.{message_phased, ends_phased, lines_phased}
use Rattle.giop_message.proofs.Marks.{ends_alike}
use Rattle.giop_message.proofs.MessageLaws.{id_is_said}
use Rattle.giop_message.proofs.laws.message_laws.Goals as goal

pub returns : goal.returns
unfolding signatures_of
returns c = record {
  step = λ C answer phase. message_goes (signatures_of C answer phase);
  more = λ C answer phase. message_resumes (signatures_of C answer phase);
  phased = message_phased;
  phased_ends = ends_phased;
  over = λ C answer phase. over_where_faulted (signatures_of C answer phase);
  stays = λ C answers. is_causal (λ phase number. signatures_of C (answers number) phase);
  lines = λ C answers. lines_phased C answers;
  ends = λ C answers. is_ending (λ phase number. signatures_of C (answers number) phase);
  named = λ C answers. is_named (λ phase number. signatures_of C (answers number) phase)
      (λ phase number. refl) (λ phase number. signatures_have_ids C (answers number) phase);
  order = λ C answers. is_ordered (λ phase number. signatures_of C (answers number) phase);
  closing = λ C answers. is_closing (λ phase number. signatures_of C (answers number) phase);
  id = λ C answer. id_is_said C answer;
  writes = λ C answers phase number. text_is (signatures_of C (answers number) phase) number;
  closes = λ C answers phase number. close_is (signatures_of C (answers number) phase) number;
  told = λ C answer. ends_alike C answer;
}
