use Rattle.std.proofs.Common.{ap}
use Rattle.giop_conversation.proofs.conversation.Conversation.new.Goals as goal

pub returns-clause-held : goal.returns-clause-held
returns-clause-held c =
    let even = c.in_ok-new-2.ensures in
    let odd = c.in_ok-new-3.ensures in
    record {
      even = record {
        holds = even.holds _;
        table = even.table;
        most = even.most;
        stream = even.stream;
        live = even.live;
        flow = even.flow;
      };
      odd = record {
        holds = odd.holds _;
        table = odd.table;
        most = odd.most;
        stream = odd.stream;
        live = odd.live;
        flow = odd.flow;
      };
      calls = record {
        own = ap (λ e. e.own) c.in_ok-new.ensures;
        opposite = ap (λ e. e.opposite) c.in_ok-new.ensures;
      };
    }
