use Rattle.std.proofs.Common.{refl, sym}
use Rattle.giop_stream.specs.FramingView.{framing_view}
use Rattle.giop_stream.specs.FramingSteps.{final_totals}
use Rattle.giop_stream.proofs.StreamLines.FinishByFields.{totals_at_end, no_more}
use Rattle.giop_stream.proofs.framing.Framing.final_totals.Goals as goal

pub returns-then-is_cut_short-clause-value : goal.returns-then-is_cut_short-clause-value
unfolding final_totals
returns-then-is_cut_short-clause-value c =
    λ C l s h. rw (
      ← totals_at_end C l (framing_view c.args.self.now) s h,
      sym c.is_cut_short.ensures,
      c.if-is_cut_short.true,
    ) refl

pub returns-else-is_cut_short-clause-value : goal.returns-else-is_cut_short-clause-value
unfolding final_totals
returns-else-is_cut_short-clause-value c =
    λ C l s h. rw (
      ← totals_at_end C l (framing_view c.args.self.now) s h,
      sym c.is_cut_short.ensures,
      c.if-is_cut_short.false,
    ) (sym (no_more c.args.self.now.totals))
