use Rattle.std.proofs.Common.{sym}
use Rattle.giop_print.proofs.Writing.{wrote-nil}
use Rattle.giop_stream.specs.FramingView.{framing_view}
use Rattle.giop_stream.proofs.StreamLines.FinishByFields.{truncation_is}
use Rattle.giop_stream.proofs.framing.Framing.write_truncated_line.Goals as goal

pub returns-then-is_cut_short : goal.returns-then-is_cut_short
returns-then-is_cut_short g c =
    λ C l s h. rw (
      truncation_is C l (framing_view c.args.self.now) s h,
      sym c.is_cut_short.ensures,
      c.if-is_cut_short.true,
    ) c.truncated_line.ensures

pub returns : goal.returns
returns g c = λ C l s h. rw (
  truncation_is C l (framing_view c.args.self.now) s h,
  sym c.is_cut_short.ensures,
  c.if-is_cut_short.false,
) (wrote-nil _)
