use Rattle.std.proofs.Common.{◌≡◌, ◌-◌, ◌≤◌, ◌++◌, ℕ, List, length, take, None}
use Rattle.giop_message.specs.MessageState.{AreKnown}
use Rattle.giop_conversation.specs.Exchanges.{answer_of}
use Rattle.giop_message.specs.Signatures.{Answers}
use Rattle.giop_stream.specs.EngineHolds.{HoldsBy}
use Rattle.giop_conversation.specs.Directions.{HasRead}
use Rattle.giop_conversation.specs.StreamReads.{AgreeWith, HasSameSetup}
use Rattle.giop_conversation.proofs.StreamReadLemmas.{HasReadTo}
use Rattle.giop_conversation.proofs.direction.Direction.read.Given as goal

abbrev pub invariant-loop-size : goal.invariant-loop-size
invariant-loop-size g l =
    record {
      within : l.at ≤ length l.octets;
      known : AreKnown l.self.engine.table (answer_of l.exchange);
      read : (p : List ℕ) → HasRead l.initial.self.engine p →
          HasRead l.self.engine (p ++ take l.at l.octets);
      text : (a : Answers) (p : List ℕ) → HoldsBy l.initial.self.engine a p →
          AgreeWith l.initial.self.engine a l.initial.exchange p l.octets →
          l.initial.exchange.table ≡ l.initial.self.engine.table →
          l.initial.exchange.arrival ≡ l.arrival →
          l.initial.exchange.answered ≡ None → l.initial.exchange.raised ≡ None →
          HasReadTo l.initial.self.engine l.self.engine a p l.octets l.at l.initial.exchange
          l.exchange l.initial.out l.out;
      same : HasSameSetup l.self.engine l.initial.self.engine;
      sound : l.out.failures ≡ l.initial.out.failures;
      stream : l.self.stream ≡ l.initial.self.stream;
      live : l.self.is_live ≡ l.initial.self.is_live;
      flow : l.self.flow ≡ l.initial.self.flow;
    }

abbrev pub decreases-loop-size : goal.decreases-loop-size
decreases-loop-size g l = length l.octets - l.at
