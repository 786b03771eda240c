-- The octets that are fed are those that the read gave.
use Rattle.std.proofs.Common.{◌≡◌, ◌<◌, [], refl, length, take, arith, inl}
use Rattle.giop_run.proofs.TextLemmas.{wrote-none}
use Rattle.giop_run.proofs.ReadLemmas.{read_none, read_end, read_some, not_end}
use Rattle.giop_run.proofs.TurnLemmas.{took-none, turned_on}
use Rattle.giop_run.proofs.running.read_and_feed.Goals as goal

pub returns-in_default-clause-fed : goal.returns-in_default-clause-fed
returns-in_default-clause-fed g c =
    λ p h. (
      [],
      (
        read_none _ _ c.in_default.ensures.read,
        c.in_default.ensures.read.failures,
        wrote-none _ _ p,
      ),
    )

pub returns-then-ended-clause-fed : goal.returns-then-ended-clause-fed
returns-then-ended-clause-fed g c =
    λ p h.
    let room : 0 < length c.read.new.buffer = omega (arith, c.read.auto.buffer) in
    let none : c.in-Ok.given ≡ 0 = omega (arith, c.if-ended.true) in
    let read = read_end _ _ c.read.new.buffer c.in-Ok.given c.in-Ok.ensures.read none room in
    ([], (read.0, c.in-Ok.ensures.read.failures, inl read.1, took-none _ p _ _ refl h))

pub returns-clause-fed : goal.returns-clause-fed
returns-clause-fed g c =
    λ p h.
    let some : c.in-Ok.given ≡ 0 → ⊥ = λ none. omega (arith, c.if-ended.false) in
    let room : length c.read.new.buffer ≡ 4096 = omega (arith, c.read.auto.buffer) in
    let gave = c.in-Ok.ensures.read in
    let read = read_some _ _ c.read.new.buffer c.in-Ok.given gave c.in-Ok.ensures.octets room in
    let ends = not_end _ _ c.read.new.buffer c.in-Ok.given gave some in (
      take c.in-Ok.given c.read.new.buffer,
      turned_on _ c.feed.result p _ _ _ _ _ _ read gave.failures ends (c.feed.ensures.fed p h),
    )
