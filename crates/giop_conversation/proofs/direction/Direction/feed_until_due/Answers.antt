use Rattle.std.proofs.Common.{◌++◌, ◌∙◌, take}
use Rattle.giop_stream.specs.declared.status.Fed.{Fed}
use Rattle.giop_stream.specs.EngineHolds.{HoldsBy, added, rules_with}
use Rattle.giop_conversation.specs.TaggedState.{tagging_log}
use Rattle.giop_conversation.specs.Directions.{HasRead}
use Rattle.giop_conversation.specs.StreamReads.{AgreeWith}
use Rattle.giop_conversation.proofs.FailingLemmas.{stop_counts}
use Rattle.giop_conversation.proofs.StreamReadLemmas.{stop_front}
use Rattle.giop_conversation.proofs.direction.Direction.feed_until_due.Goals as goal

pub invariant_of-self : goal.invariant_of-self
invariant_of-self g c =
    let e = c.self.inside.engine in
    let p = c.self.invariant.0.stream in
    let h = c.self.invariant.0.read in
    let on = c.answers_go_on.ensures e.table h.answers e.most p c.args.piece.now c.args.exchange.now
    in
    let held = c.answers_agree.ensures.held e h.answers on.0 p on.1 h.holds in (
      record {
        same = c.in-Ok.ensures.same.0 ∙ c.self.invariant.0.same;
        stream = p ++ take c.in-Ok.fed.count c.args.piece.now;
        read = record {
          answers = on.0;
          holds = c.in-Ok.ensures.held on.0 p held on.2;
        };
      },
      c.self.invariant.1,
    )

pub returns-in-Ok-clause-read : goal.returns-in-Ok-clause-read
returns-in-Ok-clause-read g c = λ p read.
    let e = c.self.inside.engine in
    let h : HasRead e p = rw (← c.self.view_is) at read in
    let on = c.answers_go_on.ensures e.table h.answers e.most p c.args.piece.now c.args.exchange.now
    in
    let held = c.answers_agree.ensures.held e h.answers on.0 p on.1 h.holds in
    record { answers = on.0; holds = c.in-Ok.ensures.held on.0 p held on.2 }

pub returns-in-Ok-clause-begun : goal.returns-in-Ok-clause-begun
returns-in-Ok-clause-begun g c = λ p read.
    let e = c.self.inside.engine in
    let h : HasRead e p = rw (← c.self.view_is) at read in
    let on = c.answers_go_on.ensures e.table h.answers e.most p c.args.piece.now c.args.exchange.now
    in
    let held = c.answers_agree.ensures.held e h.answers on.0 p on.1 h.holds in
    c.in-Ok.ensures.begun on.0 p held on.2

pub returns-in-Ok-clause-status : goal.returns-in-Ok-clause-status
returns-in-Ok-clause-status g c = λ p read.
    let e = c.self.inside.engine in
    let h : HasRead e p = rw (← c.self.view_is) at read in
    let on = c.answers_go_on.ensures e.table h.answers e.most p c.args.piece.now c.args.exchange.now
    in
    let held = c.answers_agree.ensures.held e h.answers on.0 p on.1 h.holds in
    c.in-Ok.ensures.status on.0 p held on.2

pub returns-in-Ok-clause-fails : goal.returns-in-Ok-clause-fails
returns-in-Ok-clause-fails g c =
    let e = c.self.inside.engine in
    let p = c.self.invariant.0.stream in
    let h = c.self.invariant.0.read in
    let on = c.answers_go_on.ensures e.table h.answers e.most p c.args.piece.now c.args.exchange.now
    in
    let held = c.answers_agree.ensures.held e h.answers on.0 p on.1 h.holds in
    (c.in-Ok.ensures.text on.0 p held on.2).all.failures

pub returns-in-Err-clause-fails : goal.returns-in-Err-clause-fails
returns-in-Err-clause-fails g c =
    let e = c.self.inside.engine in
    let p = c.self.invariant.0.stream in
    let h = c.self.invariant.0.read in
    let on = c.answers_go_on.ensures e.table h.answers e.most p c.args.piece.now c.args.exchange.now
    in
    let held = c.answers_agree.ensures.held e h.answers on.0 p on.1 h.holds in
    let t = c.in-Err.ensures.text on.0 p held on.2 in
    stop_counts Fed c.in-Err.field-0 (tagging_log c.args.out.now) (tagging_log c.feed_by.new.out)
    (added (rules_with e on.0) p (take t.n c.args.piece.now)) e c.feed_by.new.self h.holds.sound
    c.in-Err.ensures.leaves t.all

pub returns-in-Ok-clause-come : goal.returns-in-Ok-clause-come
returns-in-Ok-clause-come g c = λ a p holds agrees.
    let e = c.self.inside.engine in
    let h : HoldsBy e a p = rw (← c.self.view_is) at holds in
    let k : AgreeWith e a c.args.exchange.now p c.args.piece.now =
    rw (← c.self.view_is) at agrees in
    rw (← c.self.view_is) (c.in-Ok.ensures.held a p h k, c.in-Ok.ensures.told a p h k)

pub returns-in-Ok-clause-text : goal.returns-in-Ok-clause-text
returns-in-Ok-clause-text g c = λ a p holds agrees calm.
    let e = c.self.inside.engine in
    let h : HoldsBy e a p = rw (← c.self.view_is) at holds in
    let k : AgreeWith e a c.args.exchange.now p c.args.piece.now =
    rw (← c.self.view_is) at agrees in
    let t = c.in-Ok.ensures.text a p h k in
    rw (← c.self.view_is) (record {
      n = t.n;
      counted = t.counted;
      within = t.within;
      some = t.some;
      fronts = λ i few. t.fronts i few calm;
      all = t.all;
    })

pub returns-in-Err-clause-text : goal.returns-in-Err-clause-text
returns-in-Err-clause-text g c = λ a p holds agrees calm.
    let e = c.self.inside.engine in
    let h : HoldsBy e a p = rw (← c.self.view_is) at holds in
    let k : AgreeWith e a c.args.exchange.now p c.args.piece.now =
    rw (← c.self.view_is) at agrees in
    let t = c.in-Err.ensures.text a p h k in
    rw (← c.self.view_is) (record {
      n = t.n;
      counted = tt;
      within = t.within;
      some = t.some;
      fronts = λ i few. t.fronts i few calm;
      all = stop_front Fed c.in-Err.field-0 (tagging_log c.args.out.now)
          (tagging_log c.feed_by.new.out)
          (added (rules_with e a) p (take t.n c.args.piece.now)) e c.feed_by.new.self h.sound
          c.in-Err.ensures.leaves t.all;
    })
