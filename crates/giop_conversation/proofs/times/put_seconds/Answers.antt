use Rattle.std.proofs.Common.{◌≤◌, length, arith}
use Rattle.giop_conversation.proofs.TimeLemmas.{seconds_short}
use Rattle.giop_conversation.proofs.times.put_seconds.Goals as goal

pub put_octets-requires : goal.put_octets-requires
put_octets-requires c =
    let short = seconds_short c.args.nanoseconds c.ranges.nanoseconds.fits in
    let digits : length c.as_bytes.result.now ≤ 30 =
    rw (c.as_bytes.ensures.value, c.format.ensures.text, c.split_nanoseconds-seconds.ensures.value)
    short in
    omega (arith, digits, c.put.ensures.room, c.put_last_nine_digits.ensures.room, c.requires)

pub returns-in-Err-clause-room : goal.returns-in-Err-clause-room
returns-in-Err-clause-room c =
    let short = seconds_short c.args.nanoseconds c.ranges.nanoseconds.fits in
    let digits : length c.as_bytes.result.now ≤ 30 =
    rw (c.as_bytes.ensures.value, c.format.ensures.text, c.split_nanoseconds-seconds.ensures.value)
    short in
    omega (
      arith,
      digits,
      c.put.ensures.room,
      c.put_last_nine_digits.ensures.room,
      c.put_octets.ensures.room,
    )
