use Rattle.std.proofs.Common.{◌≡◌, ℕ, ◌+◌, List, ◌++◌, length, arith, sym, subst}
use Rattle.giop_stream.specs.Rules.{rules_by}
use Rattle.giop_stream.specs.FramingView.{framing_view}
use Rattle.giop_stream.specs.EngineStep.{run_state}
use Rattle.giop_stream.specs.ViewOfState.{Shows}
use Rattle.giop_stream.proofs.SlotSteps.AtHeader.{ready_later}
use Rattle.giop_stream.proofs.CodeSteps.HeaderRuns.{FitsInHeader, heads_show, heads_quiet}
use Rattle.giop_stream.proofs.framing.Framing.take_header_octets.Goals as goal

pub returns-clause-shows : goal.returns-clause-shows
returns-clause-shows c =
    λ C l s h.
    let m = framing_view c.args.self.now in
    let q = c.args.octets.now in
    let most = c.args.self.now.slots.slots.most in
    let asks = c.requires in
    let header : c.try_extend_from_slice.new.self.items ≡ m.header ++ q =
    grind (arith, c.try_extend_from_slice.ensures.ok, c.unwrap.ensures) in
    let fit : FitsInHeader (framing_view c.args.self.now) c.args.octets.now =
    record {
      free = asks.running;
      few = asks.before_last;
      room = asks.limit;
      right =
          asks.right;
    } in
    subst (λ (xs : List ℕ). Shows C l (record m {
      totals =
          record m.totals { octets = m.totals.octets + length q };
      header = xs;
    })
    (run_state (rules_by C l most) s q)) (sym header) (heads_show C l most q m s h fit)

pub returns-clause-lines : goal.returns-clause-lines
returns-clause-lines c =
    λ C l s h.
    let asks = c.requires in
    let fit : FitsInHeader (framing_view c.args.self.now) c.args.octets.now =
    record {
      free = asks.running;
      few = asks.before_last;
      room = asks.limit;
      right =
          asks.right;
    } in
    heads_quiet C l c.args.self.now.slots.slots.most c.args.octets.now
    (framing_view c.args.self.now) s h fit

pub returns-clause-ready : goal.returns-clause-ready
returns-clause-ready c = λ C h. ready_later C _ _ _ (omega arith) h
