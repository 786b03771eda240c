use Rattle.std.proofs.Common.{◌≡◌, ◌<◌, ◌++◌, length, length-append, arith, Result, Ok, Err}
use Rattle.giop_print.proofs.Writing.{wrote-nil}
use Rattle.giop_message.proofs.Rests.{few_told, full_told, few_stage, full_stage}
use Rattle.giop_message.proofs.part.Rest.take.Goals as goal
use Rattle.std.specs.Prelude.{OnOk}

on_any : {A E : Type 0} (r : Result A E) (P : Type 0) → P → OnOk r P
on_any (Ok v) P p = p
on_any (Err e) P p = tt

pub returns-then-octets-room-clause-writes : goal.returns-then-octets-room-clause-writes
returns-then-octets-room-clause-writes g c place offset at =
    let m = c.args.self.now in
    let octets = c.args.octets.now in
    let few : length (m.held.items ++ octets) < 32 =
    omega (arith, length-append m.held.items octets, c.if-octets-room.true, c.room.ensures) in
    rw (few_told c.args.number place offset at m.offset (m.held.items ++ octets) few) (wrote-nil _)

pub returns-then-octets-room-clause-holds : goal.returns-then-octets-room-clause-holds
returns-then-octets-room-clause-holds g c at =
    let m = c.args.self.now in
    let octets = c.args.octets.now in
    let few : length (m.held.items ++ octets) < 32 =
    omega (arith, length-append m.held.items octets, c.if-octets-room.true, c.room.ensures) in
    let now : c.try_extend_from_slice.new.self.items ≡ m.held.items ++ octets =
    grind (arith, c.try_extend_from_slice.ensures.ok, c.unwrap.ensures) in
    rw now (few_stage at m.offset (m.held.items ++ octets) few)

pub returns-clause-writes : goal.returns-clause-writes
returns-clause-writes g c place offset at =
    let m = c.args.self.now in
    let octets = c.args.octets.now in
    let full : length (m.held.items ++ octets) ≡ 32 =
    omega (
      arith,
      length-append m.held.items octets,
      c.if-octets-room.false,
      c.room.ensures,
      c.requires.room,
    ) in
    rw (
      full_told c.args.number place offset at m.offset (m.held.items ++ octets) full,
      ← c.as_slice.ensures.value,
    ) c.split_rest_line-written.ensures

pub returns-clause-holds : goal.returns-clause-holds
returns-clause-holds g c = on_any c.split_rest_line-written.result _ (λ at.
    let m = c.args.self.now in
    let octets = c.args.octets.now in
    let full : length (m.held.items ++ octets) ≡ 32 =
    omega (
      arith,
      length-append m.held.items octets,
      c.if-octets-room.false,
      c.room.ensures,
      c.requires.room,
    ) in
    rw (c.clear.ensures) (full_stage at m.offset (m.held.items ++ octets) full))
