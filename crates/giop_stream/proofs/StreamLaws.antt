-- What other crates may use of a stream, in addition to the contracts. No other file of this
-- crate's proofs can be cited from outside.
use Rattle.std.proofs.Common.{◌≡◌, ◌≤◌, ℕ, List, ◌++◌, length}
use Rattle.giop_sig.specs.Table.{Table}
use Rattle.giop_message.specs.Signatures.{RequestTable, Answers, signatures_of, by_list}
use Rattle.giop_stream.specs.Rules.{Rules, rules, rules_by}
use Rattle.giop_stream.specs.Framing.{cut, messages}
use Rattle.giop_stream.specs.HeaderEndsOfStream.{header_ends_from}
use Rattle.giop_message.proofs.MessageLaws.{is_causal}
use Rattle.giop_stream.specs.EngineHolds.{added}
use Rattle.giop_stream.proofs.SlotSteps.Parts.{in_turn}
use Rattle.giop_stream.proofs.StreamLines.MoreOctets as further
use Rattle.giop_stream.proofs.CodeSteps.HeaderEndSteps.{from_append}
use Rattle.giop_stream.proofs.Cuts.MessagesGrow as cuts
-- answers that agree at each header that ends in a stream
pub use Rattle.giop_stream.proofs.CodeSteps.AgreementAtHeaders.{closing_alike, final_alike, added_alike, ends_alike, alike_front, leads_on, back, both, itself}
pub use Rattle.giop_stream.proofs.CodeSteps.AnswersGoOn.{at_headers}

-- what q and then r add to the text of the stream p
pub added_both : (C : Table) (kept : RequestTable) (most : ℕ) (p q r : List ℕ) →
    added (rules C kept most) p (q ++ r) ≡ added (rules C kept most) p q
    ++ added (rules C kept most) (p ++ q) r
added_both C kept most p q r = further.added_both (rules C kept most)
    (is_causal (λ phase number. signatures_of C (by_list kept number) phase))
    (in_turn C (by_list kept)) p q r

-- the same, if these answers give the operations of the ids of each message
pub added_both_by : (C : Table) (a : Answers) (most : ℕ) (p q r : List ℕ) →
    added (rules_by C a most) p (q ++ r) ≡ added (rules_by C a most) p q
    ++ added (rules_by C a most) (p ++ q) r
added_both_by C a most p q r = further.added_both (rules_by C a most)
    (is_causal (λ phase number. signatures_of C (a number) phase)) (in_turn C a) p q r

-- the headers that end in q and then in r, after the stream p, are those that end in q, and then
-- those that end in r
pub header_ends_both : (R : Rules) (p q r : List ℕ) →
    header_ends_from R p (q ++ r) ≡ header_ends_from R p q ++ header_ends_from R (p ++ q) r
header_ends_both R p q r = from_append R q p r

-- if more octets come, as many messages have begun, or more
pub messages_grow : (p q : List ℕ) → length (messages (cut p)) ≤ length (messages (cut (p ++ q)))
messages_grow p q = cuts.messages_grow q p
