-- What connections hold of a dump after one more event.
use Rattle.std.proofs.Common.{arith, ◌≡◌, ℕ, zero, suc, Bool, true, false, List, [], ◌∷◌, ◌++◌, Some, None, refl, ap, slice_get, set, replicate, ◌==◌, Result, MatchResult}
use Rattle.tcp_flow.specs.Flow.{Event}
use Rattle.giop_message.specs.Signatures.{Answers}
use Rattle.giop_stream.specs.EngineHolds.{HoldsBy, rules_with}
use Rattle.giop_stream.specs.Stream.{closing}
use Rattle.giop_stream.specs.AnswersAgree.{AnswersAgree}
use Rattle.giop_stream.specs.HeaderEndsOfStream.{header_ends_from}
use Rattle.giop_message.specs.HeaderEnds.{AgreesAtEnds}
use Rattle.tcp_flow.specs.declared.flow.CloseCause.{CloseCause}
use Rattle.tcp_waiting.specs.declared.arrival.Arrival.{Arrival}
use Rattle.giop_conversation.specs.declared.conversation.Side.{Side}
use Rattle.giop_conversation.specs.declared.conversation.Side.TheVariants.{Even, Odd}
use Rattle.giop_conversation.specs.declared.conversation.Conversation.{Conversation}
use Rattle.giop_conversation.specs.Tags.{tagged, with_tags, stream_tag}
use Rattle.giop_conversation.specs.TaggedState.{Tagging, WroteTaggedFront}
use Rattle.giop_conversation.specs.Lines.{closed_line}
use Rattle.giop_conversation.specs.Stamped.{stamped, after_octets}
use Rattle.giop_conversation.specs.Exchanges.{ExchangeView, answer_of, notified}
use Rattle.giop_conversation.specs.Directions.{DirectionView}
use Rattle.giop_conversation.specs.StreamReads.{AgreeWith, HasSameSetup, ReadAndWroteBelow, WritesTagged, exchange_for_reading}
use Rattle.giop_conversation.specs.Followed.{other, direction}
use Rattle.giop_conversation.specs.Captured.{Setup, Half, Connection, Dump, Step, Leads, half, calls_in, rules_in, calls_after_octets, octets_delivered, AnswersAreOfCalls}
use Rattle.giop_conversation.specs.DumpHeld.{HoldsHalf, HasCalls, HoldsConnection, HasReadFlow, AreHeld}

-- ---- one event more

pub leads_more : (S : Setup) (events : List Event) (d : Dump) (e : Event) (m behind : Dump) →
    Leads S d events m →
    Step S m e behind → Leads S d (events ++ e ∷ []) behind
leads_more S [] d e m behind leads step = search (arith)
leads_more S (e' ∷ es) d e m behind leads step =
    (leads.0, leads.1, leads_more S es leads.0 e m behind leads.2 step)

-- ---- the connection at a place

pub record IsHeldAt (S : Setup) (cs : List Connection) (i : ℕ) (r : Conversation) : Type 0 where
  pub connection : Connection
  pub is : slice_get cs i ≡ Some connection
  pub holds : HoldsConnection S r connection

pub held_at : (S : Setup) (rs : List Conversation) (cs : List Connection) (i : ℕ)
    (r : Conversation) →
    AreHeld S rs cs → slice_get rs i ≡ Some r → IsHeldAt S cs i r
held_at S [] [] i r held is = absurd cc
held_at S [] (c ∷ cs) i r held is = absurd held
held_at S (r' ∷ rs) [] i r held is = absurd held
held_at S (r' ∷ rs) (c ∷ cs) zero r held is = search (arith)
held_at S (r' ∷ rs) (c ∷ cs) (suc i) r held is = search (arith, held_at S rs cs i r held.1 is)

pub none_at : (S : Setup) (rs : List Conversation) (cs : List Connection) (i : ℕ) →
    AreHeld S rs cs → slice_get rs i ≡ None → slice_get cs i ≡ None
none_at S [] [] i held is = refl
none_at S [] (c ∷ cs) i held is = absurd held
none_at S (r' ∷ rs) [] i held is = absurd held
none_at S (r' ∷ rs) (c ∷ cs) zero held is = absurd cc
none_at S (r' ∷ rs) (c ∷ cs) (suc i) held is = none_at S rs cs i held.1 is

pub held_set : (S : Setup) (rs : List Conversation) (cs : List Connection) (i : ℕ)
    (r : Conversation) (c : Connection) →
    AreHeld S rs cs → HoldsConnection S r c → AreHeld S (set rs i r) (set cs i c)
held_set S [] [] i r c held new = tt
held_set S [] (c' ∷ cs) i r c held new = absurd held
held_set S (r' ∷ rs) [] i r c held new = absurd held
held_set S (r' ∷ rs) (c' ∷ cs) zero r c held new = (new, held.1)
held_set S (r' ∷ rs) (c' ∷ cs) (suc i) r c held new = (held.0, held_set S rs cs i r c held.1 new)

pub held_push : (S : Setup) (rs : List Conversation) (n : ℕ) (r : Conversation) (c : Connection) →
    AreHeld S rs (replicate n c) → HoldsConnection S r c →
    AreHeld S (rs ++ r ∷ []) (replicate (suc n) c)
held_push S [] zero r c held new = (new, tt)
held_push S [] (suc n) r c held new = absurd held
held_push S (r' ∷ rs) zero r c held new = absurd held
held_push S (r' ∷ rs) (suc n) r c held new = (held.0, held_push S rs n r c held.1 new)

-- ---- the two flows of a connection

-- a conversation holds a connection if it holds its two flows and its calls
pub holds_by : (S : Setup) (side : Side) (r : Conversation) (c : Connection) →
    r.side ≡ side →
    HoldsHalf S (direction side r) (half side c) →
    HoldsHalf S (direction (other side) r) (half (other side) c) →
    HasCalls side r.exchange c → HoldsConnection S r c
holds_by S Even r c here own opposite calls = search (arith)
holds_by S Odd r c here own opposite calls = search (arith)

-- the calls when a stream of a flow is read
pub reading_is : (S : Setup) (side : Side) (arrival : Arrival) (c : Connection)
    (d : DirectionView) (s : ExchangeView) →
    HoldsHalf S d (half side c) → HasCalls side s c →
    exchange_for_reading d.engine d.stream arrival s ≡ calls_in S side arrival c
reading_is S side arrival c d s h k = search (arith)

-- ---- lines without a tag

untagged_is : (text : List ℕ) (first : Bool) → tagged first [] text ≡ text
unfolding tagged
untagged_is [] first = refl
untagged_is (x ∷ xs) true = ap (λ (t : List ℕ). x ∷ t) (untagged_is xs (x == 10))
untagged_is (x ∷ xs) false = ap (λ (t : List ℕ). x ∷ t) (untagged_is xs (x == 10))

pub no_tag_is : (text : List ℕ) → with_tags [] text ≡ text
no_tag_is text = untagged_is text true

-- ---- a connection whose flow closes, or is read

rules_are : (S : Setup) (d : DirectionView) (s : Half) (a : Answers) → HoldsHalf S d s →
    rules_with d.engine a ≡ rules_in S a
rules_are S d s a h = search (arith)

pub close_in : {A E : Type 0} (r : Result A E) (S : Setup) (d : DirectionView) (s : Half)
    (cause : CloseCause) (out : Tagging) (w : List ℕ) →
    HoldsHalf S d s →
    WritesTagged r out w (stream_tag d.stream)
    (closed_line cause ++ closing (rules_with d.engine s.answers) s.octets) →
    WritesTagged r out w (stream_tag s.stream)
    (closed_line cause ++ closing (rules_in S s.answers) s.octets)
close_in r S d s cause out w h writes = search (arith, rules_are)

delivered_holds : (S : Setup) (side : Side) (k : Connection) (a : Answers) (octets : List ℕ)
    (arrival : Arrival) (new : Conversation) →
    new.side ≡ side → HoldsBy (direction side new).engine a
    ((half side k).octets ++ octets) →
    (direction side new).engine.table ≡ S.table →
    (direction side new).engine.most ≡ S.messages →
    (direction side new).stream ≡ (half side k).stream →
    (direction side new).is_live ≡ (half side k).is_live →
    (direction side new).flow ≡ (half side k).flow →
    HoldsHalf S (direction (other side) new) (half (other side) k) →
    new.exchange ≡ calls_after_octets S a side octets arrival k →
    HoldsConnection S new (octets_delivered S a side octets arrival k)
delivered_holds S Even k a octets arrival new is holds table most stream live flow opposite calls =
    search (arith)
delivered_holds S Odd k a octets arrival new is holds table most stream live flow opposite calls =
    search (arith)

-- what is known of the answers of a stream before octets of it are read
pub record KnownBeforeOctets (S : Setup) (k : Connection) (side : Side) (octets : List ℕ)
    (arrival : Arrival) (d : DirectionView)
    (t : ExchangeView) (a : Answers) : Type 0 where
  pub answered : AnswersAreOfCalls S a side octets arrival k
  pub holds : HoldsBy d.engine a (half side k).octets
  pub agrees : AgreeWith d.engine a (exchange_for_reading d.engine d.stream arrival t)
      (half side k).octets
      octets

pub goes_on_by : (S : Setup) (k : Connection) (side : Side) (octets : List ℕ)
    (arrival : Arrival) (d : DirectionView) (t : ExchangeView)
    (a : Answers) → HoldsHalf S d (half side k) → HasCalls side t k →
    (AnswersAgree d.engine.table d.engine.most (half side k).octets (half side k).answers a →
    HoldsBy d.engine (half side k).answers (half side k).octets →
    HoldsBy d.engine a (half side k).octets) →
    AnswersAgree S.table S.messages (half side k).octets (half side k).answers a →
    AgreesAtEnds answer_of notified S.table (calls_in S side arrival k) a
    (header_ends_from (rules_in S a) (half side k).octets octets) →
    KnownBeforeOctets S k side octets arrival d t a
goes_on_by S k side octets arrival d t a h calls held before now = search (
  arith,
  reading_is,
  rules_are,
)

pub reads_by : {A E : Type 0} (r : Result A E) (S : Setup) (k : Connection) (side : Side)
    (octets : List ℕ) (arrival : Arrival)
    (w : List ℕ) (new : Conversation) (out : Tagging) (d : DirectionView) (t : ExchangeView)
    (a : Answers) →
    HoldsHalf S d (half side k) → HasCalls side t k → KnownBeforeOctets S k side octets arrival d t
    a →
    new.side ≡ side →
    HasSameSetup (direction side new).engine d.engine → (direction side new).stream ≡ d.stream →
    (direction side new).is_live ≡ d.is_live →
    (direction side new).flow ≡ d.flow →
    HoldsHalf S (direction (other side) new) (half (other side) k) →
    MatchResult r
    (λ _. ReadAndWroteBelow (direction side new).engine a ((half side k).octets ++ octets) out
    (w ++ with_tags (stream_tag d.stream) (stamped (rules_with d.engine a)
    (exchange_for_reading d.engine d.stream arrival t) (half side k).octets octets))
    new.exchange (after_octets (rules_with d.engine a) (exchange_for_reading d.engine d.stream
    arrival t)
    (half side k).octets octets))
    (λ _. WroteTaggedFront out w (stream_tag d.stream)
    (stamped (rules_with d.engine a) (exchange_for_reading d.engine d.stream arrival t)
    (half side k).octets octets)) →
    HasReadFlow S k side octets arrival w r new out
reads_by r S k side octets arrival w new out d t a h calls on is alike stream live flow opposite
    reads = search (arith, reading_is, rules_are, delivered_holds)
