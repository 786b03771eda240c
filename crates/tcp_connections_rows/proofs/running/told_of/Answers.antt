use Rattle.std.proofs.Common.{◌≡◌, ◌∙◌, [], ap, arith, false, sym}
use Rattle.std.proofs.lemmas.Bool.{true≢false}
use Rattle.std.specs.Prelude.{Result, Ok, Err, OnOk}
use Rattle.std.specs.Result.{is_err}
use Rattle.tcp_flow.specs.declared.flow.ListenerError.{ListenerError}
use Rattle.tcp_streams.specs.Lives.{lives_from}
use Rattle.tcp_connections.specs.Connections.{State, with_packet}
use Rattle.tcp_connections.specs.State.{state_of}
use Rattle.tcp_connections.proofs.States.{packet_read, starts}
use Rattle.tcp_connections_rows.proofs.running.told_of.Goals as goal

pub loop-index-init : goal.loop-index-init
unfolding lives_from
loop-index-init c =
    let new = c.in-Ok.ensures in (
      (
        state_of c.in-Ok.known [],
        starts _ _ c.in-Ok.known _ _ c.args.row.now.setting.connections []
            tt c.in-Ok-new.ensures.empty (new.start []) new.sound new.free new.room new.ranked,
      ),
      ap (λ (w : State). w.segments) (new.start []),
    )

pub take-requires-clause-state : goal.take-requires-clause-state
take-requires-clause-state c =
    let h = c.loop-index.invariant.0 in (
      with_packet h.0 _,
      packet_read _ _ _ _ h.0 _ c.begin_packet.ensures.does c.begin_packet.ensures.free
          c.begin_packet.ensures.room
          c.begin_packet.ensures.givers h.1,
    )

pub take-requires-clause-count : goal.take-requires-clause-count
take-requires-clause-count c =
    let same = ap (λ (w : State). w.segments) (c.begin_packet.ensures.does []) in
    omega (arith, same, c.loop-index.invariant.1, c.loop-index-test.true)

on_ok : {X : Type 0} (P : Type 0) (r : Result X ListenerError) → is_err r ≡ false → OnOk r P → P
on_ok P (Ok x) e h = h
on_ok P (Err f) e h = absurd (true≢false e)

pub loop-index-preserved : goal.loop-index-preserved
loop-index-preserved c =
    let h = c.loop-index.invariant.0 in
    let read = packet_read _ _ _ _ h.0 _ c.begin_packet.ensures.does c.begin_packet.ensures.free
    c.begin_packet.ensures.room c.begin_packet.ensures.givers
    h.1 in
    let taken = sym c.is_err.ensures.value ∙ c.if-is_err.false in
    let same = ap (λ (w : State). w.segments) (c.begin_packet.ensures.does []) in
    let count = on_ok _ c.take.result taken c.take.ensures.count in (
      (_, on_ok _ c.take.result taken (c.take.ensures.does _ read)),
      omega (arith, same, count, c.loop-index.invariant.1),
    )
