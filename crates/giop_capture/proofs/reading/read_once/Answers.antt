-- The octets that are looked through for packets are those that the read gave.
use Rattle.std.proofs.Common.{take, arith}
use Rattle.giop_capture.proofs.ReadingOn.{handed_once, some_given, not_end}
use Rattle.giop_capture.proofs.reading.read_once.Goals as goal

pub returns-in-Ok-give_packets-clause-does : goal.returns-in-Ok-give_packets-clause-does
returns-in-Ok-give_packets-clause-does g c =
    λ start p reads taken. (
      take c.in-Ok.given c.read.new.into,
      handed_once c.in-Ok-give_packets.goes_on _ c.give_packets.new.capture p _ _ _
          (some_given _ c.in-Ok.given c.in-Ok.ensures.read.within
          (omega (arith, c.if-given-eq0.false))) c.in-Ok.ensures.read.left
          c.in-Ok.ensures.read.failures
          (not_end c.read.new.into c.in-Ok.given _ _ (omega (arith, c.if-given-eq0.false))
          c.in-Ok.ensures.read.ends)
          (c.in-Ok-give_packets.ensures.does start p reads taken),
    )
