-- What the crate above may use of the reading of a message, in addition to the contracts of this
-- crate: lemmas on the public definitions. No other file of this crate's proofs can be cited from
-- outside.
use Rattle.std.proofs.Common.{false, refl, ◌≡◌, ℕ, ◌%◌, ◌<◌, List, [], ◌∷◌, length, Some}
use Rattle.giop_cdr.specs.Numbers.{num}
use Rattle.giop_sig.specs.Types.{Ty}
use Rattle.giop_sig.specs.HeaderTypes.{BeginsWithId, header_type}
use Rattle.giop_sig.specs.Table.{Table}
use Rattle.giop_message.specs.Phases.{Phase}
use Rattle.giop_message.specs.declared.message.Message.{Message as MessageValue}
use Rattle.giop_message.specs.MessageReader.{HasOnlyValuesInId}
use Rattle.giop_message.specs.Headers.{minor, kind, order}
use Rattle.giop_message.specs.Signatures.{Answer, Answers, signatures_of}
use Rattle.giop_message.specs.Messages.{read_message, message_lines, stage_of}
use Rattle.giop_message.specs.ReaderOfTable.{first_request_id, message_reader, is_over}
use Rattle.giop_message.specs.RequestId.{request_id_timed_line}
use Rattle.giop_message.proofs.AlikeHeaders.{begins_in_each}
use Rattle.giop_message.specs.MessageState.{Follows}
use Rattle.giop_message.proofs.Named as named
use Rattle.giop_message.proofs.Followings as followings
use Rattle.giop_message.proofs.RequestIdLine as lines
-- what the stream needs of a reading (`message_laws`)
pub use Rattle.giop_message.proofs.Causal.{is_causal, is_ordered}
pub use Rattle.giop_message.proofs.Closes.{is_closing}
pub use Rattle.giop_message.proofs.Named.{is_ending}
-- if the stream finds a message by its request id, the message's header begins with that id
pub use Rattle.giop_message.proofs.Named.{begins_with_id}
-- the lines of more octets; and after which octets a message is over
pub use Rattle.giop_message.proofs.Followings.{told_more}
pub use Rattle.giop_message.proofs.Faults.{over_where_faulted}
-- the text of octets: of two lists, one after the other; of no octets; and after a fault
pub use Rattle.giop_message.proofs.Dues.{text_both, text_none, text_over, text_ended}
-- one octet, and the close, from the reading alone (`message_reader_laws`)
pub use Rattle.giop_message.proofs.AtOctet.{octet_text, octet_over, close_short}
pub use Rattle.giop_message.proofs.AtOctet.{close_is}
-- at which octets headers and names end, and what is told of some of these ends and then of others
pub use Rattle.giop_message.proofs.HeaderEndLaws.{header_ends_both, header_ends_none, one_octet, over_none, bodiless_ends, ends_over, told_both, answers_first, answers_then}
pub use Rattle.giop_message.proofs.HeaderEndLaws.{header_noted_before, header_ended, unended_agree, alike_remarks, alike_closes}
pub use Rattle.giop_message.proofs.MessageAgreement.{follows_agree}
-- it is the same by phases that agree before its end, and what ends in octets is so too
pub use Rattle.giop_message.proofs.Phased.{message_phased, ends_phased, lines_phased}

-- ---- the same for the table of a catalogue, and the operations that the ids of each message
-- answer

pub is_named : (C : Table) (answers : Answers) → HasOnlyValuesInId (message_reader C answers)
unfolding signatures_of
is_named C answers = named.is_named (λ phase number. signatures_of C (answers number) phase)
    (λ phase number. refl) (λ phase number. named.signatures_have_ids C (answers number) phase)

-- If a header begins with its request id in version 1, it does so with each table. The id is the
-- number of the first four octets.
pub id_is_said : (C : Table) (answer : Answer) (phase : Phase) (header : List ℕ) (T : Ty) →
    header_type 1 (minor header) (kind header) ≡ Some T → BeginsWithId T →
    phase 12 % 4 ≡ 0 → (a b c d : ℕ) (xs : List ℕ) → first_request_id
    (message_lines (read_message (signatures_of C answer phase) header
    (a ∷ b ∷ c ∷ d ∷ xs))) ≡ Some (num (order header) (a ∷ b ∷ c ∷ d ∷ []))
unfolding signatures_of
id_is_said C answer phase header T found begins even =
    let each = begins_in_each C.version (minor header) (kind header) T found begins in
    named.id_is_said (signatures_of C answer phase) even header each.0 each.1 each.2

-- The line of the id is all that these octets add.
module _ (C : Table) (answers : Answers) (phase : Phase) (number : ℕ) (header : List ℕ) (T : Ty)
    (found : header_type 1 (minor header) (kind header) ≡ Some T) (begins : BeginsWithId T)
    (even : phase 12 % 4 ≡ 0) where
  pub few_said : (xs : List ℕ) → length xs < 4 →
      (message_reader C answers).reads phase number header xs ≡ []
  unfolding signatures_of
  few_said =
      let each = begins_in_each C.version (minor header) (kind header) T found begins in
      lines.few_said (λ phase k. signatures_of C (answers k) phase) phase number even header each.0
      each.1 each.2

  pub four_said : (a b c d : ℕ) → (message_reader C answers).reads phase number header
      (a ∷ b ∷ c ∷ d ∷ []) ≡ request_id_timed_line (num (order header) (a ∷ b ∷ c ∷ d ∷ [])) ∷ []
  unfolding signatures_of
  four_said =
      let each = begins_in_each C.version (minor header) (kind header) T found begins in
      lines.four_said (λ phase k. signatures_of C (answers k) phase) phase number even header each.0
      each.1 each.2

pub follows_goes : (C : Table) (answers : Answers) (phase : Phase) (number : ℕ) (header : List ℕ)
    (m : MessageValue)
    (s : List ℕ) → Follows C answers phase number header m s →
    is_over (stage_of (read_message (signatures_of C (answers number) phase) header s)) ≡ false
follows_goes C answers phase number header m s f = followings.follows_goes f
