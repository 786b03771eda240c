-- The dump that the connections of a capture hold: what was written of them, and what they know of
-- their streams and calls (state).
use Rattle.std.specs.Prelude.{◌≡◌, ℕ, List, [], ◌∷◌, ◌++◌, Bool, ◌||◌, nat_lt, Result, MatchResult}
use Rattle.tcp_flow.specs.Flow.{Event}
use Rattle.giop_message.specs.Signatures.{Answers}
use Rattle.giop_stream.specs.EngineHolds.{HoldsBy}
use Rattle.tcp_waiting.specs.declared.arrival.Arrival.{Arrival}
use Rattle.giop_conversation.specs.declared.conversation.Side.{Side}
use Rattle.giop_conversation.specs.declared.conversation.Conversation.{Conversation}
use Rattle.giop_conversation.specs.declared.lines.CaptureTotals.{CaptureTotals}
use Rattle.giop_conversation.specs.Tags.{stream_tag, with_tags}
use Rattle.giop_conversation.specs.TaggedState.{Tagging, IsReady, WroteTaggedFront}
use Rattle.giop_conversation.specs.Exchanges.{ExchangeView}
use Rattle.giop_conversation.specs.Directions.{DirectionView}
use Rattle.giop_conversation.specs.Followed.{other}
use Rattle.giop_conversation.specs.Captured.{Setup, Half, Connection, Dump, Leads, start, finished_text, half, AnswersAreOfCalls, octets_delivered, lines_of_delivered}

-- a direction holds one flow of a connection
pub record HoldsHalf (S : Setup) (direction : DirectionView) (flow_state : Half) : Type 0 where
  pub holds : HoldsBy direction.engine flow_state.answers flow_state.octets
  pub table : direction.engine.table ≡ S.table
  pub most : direction.engine.most ≡ S.messages
  pub stream : direction.stream ≡ flow_state.stream
  pub live : direction.is_live ≡ flow_state.is_live
  pub flow : direction.flow ≡ flow_state.flow

-- The exchange has the calls of a connection. Those of this flow are its own.
pub record HasCalls (own_side : Side) (exchange : ExchangeView) (connection : Connection)
    : Type 0 where
  pub own : exchange.own ≡ (half own_side connection).calls
  pub opposite : exchange.opposite ≡ (half (other own_side) connection).calls

-- a conversation holds a connection: both flows, and the calls
pub record HoldsConnection (S : Setup) (conversation : Conversation)
    (connection : Connection) : Type 0 where
  pub even : HoldsHalf S conversation.even connection.even
  pub odd : HoldsHalf S conversation.odd connection.odd
  pub calls : HasCalls conversation.side conversation.exchange connection

-- What a call that reads octets of a flow has done. There are answers that are those of the calls.
-- By these, the conversation holds the connection after the octets, and the text below ends in
-- their lines, each with the tag of the stream. If a put failed, the text below ends in a front of
-- those lines.
pub record HasReadFlow {A E : Type 0} (S : Setup) (connection_before : Connection)
    (read_side : Side) (octets_read : List ℕ) (arrival : Arrival) (text_below_before : List ℕ)
    (result : Result A E) (conversation_after : Conversation) (out_after : Tagging) : Type 0
  where
    pub answers : Answers
    pub answered : AnswersAreOfCalls S answers read_side octets_read arrival connection_before
    pub reads : MatchResult result
        (λ _. HoldsConnection S conversation_after
        (octets_delivered S answers read_side octets_read arrival connection_before)
        × IsReady out_after
        (text_below_before ++ with_tags (stream_tag (half read_side connection_before).stream)
        (lines_of_delivered S answers read_side octets_read arrival connection_before)))
        (λ _. WroteTaggedFront out_after text_below_before
        (stream_tag (half read_side connection_before).stream)
        (lines_of_delivered S answers read_side octets_read arrival connection_before))

-- the conversations hold the connections, each the one at its place in the list
abbrev pub AreHeld : (S : Setup) (conversations : List Conversation)
    (connections : List Connection) → Type 0
AreHeld S [] [] = Unit {0}
AreHeld S [] (c ∷ cs) = ⊥
AreHeld S (r ∷ rs) [] = ⊥
AreHeld S (r ∷ rs) (c ∷ cs) = HoldsConnection S r c × AreHeld S rs cs

-- A dump is held: by the connections, by the text that they wrote through an out with tags, by the
-- packet that is read, the number of the first stream, and the sums over the streams.
pub record HoldsDump (S : Setup) (conversations : List Conversation) (out : Tagging)
    (arrival : Arrival) (first_stream_number : ℕ) (totals : CaptureTotals) (is_cut : Bool)
    (dump : Dump) : Type 0 where
  pub connections : AreHeld S conversations dump.connections
  pub ready : IsReady out dump.text
  pub arrival_is : arrival ≡ dump.arrival
  pub first_is : first_stream_number ≡ S.first
  pub streams_are : totals.streams ≡ dump.streams
  pub messages_are : totals.messages ≡ dump.messages
  pub faults_are : totals.faults ≡ dump.faults
  pub others_are : totals.others ≡ dump.others
  pub cut_is : is_cut ≡ dump.is_cut

-- The events lead from the start, when this was written below, to a dump that is held. So all of
-- its text was written, and nothing else.
pub record HasWritten (S : Setup) (text_before : List ℕ) (events : List Event)
    (conversations : List Conversation) (out : Tagging) (arrival : Arrival)
    (first_stream_number : ℕ) (totals : CaptureTotals) (is_cut : Bool) : Type 0 where
  pub dump : Dump
  pub leads : Leads S (start S text_before) events dump
  pub holds : HoldsDump S conversations out arrival first_stream_number totals is_cut dump

-- A put failed: a front of the text that the events lead to was written, and maybe the beginning of
-- a tag.
pub record HasWrittenFront (S : Setup) (text_before : List ℕ) (events : List Event) (out : Tagging)
    : Type 0 where
  pub dump : Dump
  pub leads : Leads S (start S text_before) events dump
  pub before : List ℕ
  pub tag : List ℕ
  pub lines : List ℕ
  pub text : dump.text ≡ before ++ with_tags tag lines
  pub front : WroteTaggedFront out before tag lines

-- The text of the events was written, and then the last line of the capture. `is_faulted` tells
-- whether the capture was cut or a fault was counted.
pub record HasFinished (S : Setup) (text_before : List ℕ) (events : List Event)
    (packet_count capture_octet_count : ℕ) (out : Tagging) (is_faulted : Bool) : Type 0 where
  pub dump : Dump
  pub leads : Leads S (start S text_before) events dump
  pub ready : IsReady out (finished_text dump packet_count capture_octet_count)
  pub faulted : is_faulted ≡ (dump.is_cut || nat_lt 0 dump.faults)

-- A put failed: a front of the text of the events and of the last line was written.
pub record HasFinishedFront (S : Setup) (text_before : List ℕ) (events : List Event)
    (packet_count capture_octet_count : ℕ)
    (out : Tagging) : Type 0 where
  pub dump : Dump
  pub leads : Leads S (start S text_before) events dump
  pub before : List ℕ
  pub tag : List ℕ
  pub lines : List ℕ
  pub text : finished_text dump packet_count capture_octet_count ≡ before ++ with_tags tag lines
  pub front : WroteTaggedFront out before tag lines
