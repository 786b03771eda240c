-- What calls of a direction do with octets of its stream, and what they write (state).
use Rattle.std.specs.Prelude.{◌≡◌, ℕ, true, false, List, ◌++◌, None, Result, MatchResult}
use Rattle.giop_print.specs.Output.{Wrote}
use Rattle.giop_message.specs.Signatures.{Answers}
use Rattle.giop_stream.specs.EngineView.{EngineView}
use Rattle.giop_stream.specs.EngineHolds.{HoldsBy, rules_with}
use Rattle.giop_stream.specs.AnswersAgree.{AgreesOver}
use Rattle.giop_stream.specs.DueOctets.{is_due_after}
use Rattle.tcp_waiting.specs.declared.arrival.Arrival.{Arrival}
use Rattle.giop_conversation.specs.Tags.{with_tags}
use Rattle.giop_conversation.specs.TaggedState.{Tagging, tagging_log, IsReady, WroteTaggedFront}
use Rattle.giop_conversation.specs.Exchanges.{ExchangeView, answer_of, notified, is_reply_line_due}

-- These answers agree with the calls of the connection at each header that ends in these octets
-- after the stream. If it is the header of a Reply, the Reply has results of the operation of the
-- call that it answers.
abbrev pub AgreeWith : (engine : EngineView) (answers : Answers) (exchange : ExchangeView)
    (stream_before new_octets : List ℕ) → Type 0
AgreeWith e a s stream octets = AgreesOver answer_of notified s e a stream octets

-- no line of the conversation is due after these octets, which come after the stream
abbrev pub NoLineDueAfter : (engine : EngineView) (answers : Answers) (exchange : ExchangeView)
    (stream_before new_octets : List ℕ) → Type 0
NoLineDueAfter e a s stream octets =
    is_due_after is_reply_line_due notified true e.table s (rules_with e a) stream octets ≡ false

-- an engine reads by the same types as one before, and allows the same number of open messages
pub record HasSameSetup (engine engine_before : EngineView) : Type 0 where
  pub table : engine.table ≡ engine_before.table
  pub most : engine.most ≡ engine_before.most

-- the calls of the connection, when a stream of this number is read in this packet
abbrev pub exchange_for_reading : (engine : EngineView) (stream_number : ℕ) (arrival : Arrival)
    (exchange_before : ExchangeView) →
    ExchangeView
exchange_for_reading e stream arrival s =
    record s {
      table = e.table;
      stream = stream;
      arrival = arrival;
      replied = 0;
      answered = None;
      raised =
          None;
    }

-- The engine holds the stream p, these lines were written through the out with tags, and the calls
-- are these.
pub record ReadAndWroteThrough (engine : EngineView) (answers : Answers) (held_stream : List ℕ)
    (before after : Tagging)
    (written_lines : List ℕ) (exchange expected_exchange : ExchangeView) : Type 0 where
  pub holds : HoldsBy engine answers held_stream
  pub wrote : Wrote (tagging_log before) (tagging_log after) written_lines
  pub told : exchange ≡ expected_exchange

-- The engine holds the stream p, this was written to the out below, and the calls are these.
pub record ReadAndWroteBelow (engine : EngineView) (answers : Answers) (held_stream : List ℕ)
    (out_after : Tagging)
    (text_below : List ℕ) (exchange expected_exchange : ExchangeView) : Type 0 where
  pub holds : HoldsBy engine answers held_stream
  pub ready : IsReady out_after text_below
  pub told : exchange ≡ expected_exchange

-- The text below goes on with these lines, each with the tag in front. If a put failed, it goes on
-- with a front of them, and maybe with the beginning of a tag.
abbrev pub WritesTagged : {A E : Type 0} (result : Result A E) (out_after : Tagging)
    (text_below_before tag lines : List ℕ) → Type 0
WritesTagged result after text tag lines =
    MatchResult result (λ _. IsReady after (text ++ with_tags tag lines))
    (λ _. WroteTaggedFront after text tag lines)
