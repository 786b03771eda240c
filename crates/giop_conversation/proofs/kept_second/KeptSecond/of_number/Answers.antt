use Rattle.std.proofs.Common.{◌∙◌, refl}
use Rattle.giop_conversation.specs.Times.{day_text, time_of_day_text}
use Rattle.giop_conversation.proofs.TimeLemmas.{second_is}
use Rattle.giop_conversation.proofs.kept_second.KeptSecond.of_number.Goals as goal

pub copy_from_slice-requires : goal.copy_from_slice-requires
unfolding day_text time_of_day_text
copy_from_slice-requires c =
    rw (c.text.ensures, c.put_date_and_second.ensures.text, c.new-line.ensures.text) refl

pub invariant_of-result : goal.invariant_of-result
invariant_of-result c =
    let found = rw c.in_ok-passed.was at c.years_and_days_of.ensures in
    let text = second_is c.args.second c.in_ok-passed.passed c.in_ok-passed.days found.1 found.3 in
    record {
      early = found.0;
      spelled = c.copy_from_slice.ensures.after ∙ c.text.ensures
          ∙ rw (c.put_date_and_second.ensures.text, c.new-line.ensures.text) text;
    }
