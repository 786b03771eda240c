use Rattle.std.proofs.Common.{◌≡◌, ◌/◌, refl, sym, ap, ◌∙◌, arith}
use Rattle.giop_print.specs.Line.{line_text}
use Rattle.giop_conversation.specs.Times.{nanoseconds_per_second, date_and_second_text}
use Rattle.giop_conversation.proofs.TimeLemmas.{time_put, none_put, late_text}
use Rattle.giop_conversation.proofs.kept_second.KeptSecond.put_time.Goals as goal

pub returns-in_default-try_from-clause-text : goal.returns-in_default-try_from-clause-text
returns-in_default-try_from-clause-text c =
    let late = late_text c.in-Some.time
    (omega (arith, c.in_default-try_from.ensures, c.split_nanoseconds-seconds.ensures.value)) in
    rw (c.in-Some.is, late, c.put-in_default-try_from.ensures.text) refl

pub returns-then-try_keep_second-clause-text : goal.returns-then-try_keep_second-clause-text
returns-then-try_keep_second-clause-text c =
    let is : c.in-Ok.second ≡ c.in-Some.time / nanoseconds_per_second =
    omega (arith, c.in-Ok.ensures, c.split_nanoseconds-seconds.ensures.value) in
    let kept : c.try_keep_second.new.self.second ≡ c.in-Ok.second =
    c.if-try_keep_second.ensures.kept refl in
    rw (
      c.in-Some.is,
      c.put_octets.ensures.text,
      c.put_last_nine_digits.ensures.text,
      c.put-then-try_keep_second.ensures.text,
      c.split_nanoseconds-seconds.ensures.rest,
    )
    (time_put c.in-Some.time c.in-Ok.second c.try_keep_second.new.self.text (line_text
    c.args.line.now)
    is
    (sym c.if-try_keep_second.ensures.early)
    (c.try_keep_second.new.self.spelled ∙ ap (λ s. date_and_second_text s) kept))

pub returns-else-try_keep_second-clause-text : goal.returns-else-try_keep_second-clause-text
returns-else-try_keep_second-clause-text c =
    let is : c.in-Ok.second ≡ c.in-Some.time / nanoseconds_per_second =
    omega (arith, c.in-Ok.ensures, c.split_nanoseconds-seconds.ensures.value) in
    rw (
      c.in-Some.is,
      none_put c.in-Some.time c.in-Ok.second is (sym c.if-try_keep_second.ensures.early),
      c.put-else-try_keep_second.ensures.text,
    ) refl
