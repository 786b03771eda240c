-- The last lines are written after the listener was told of all.
use Rattle.std.specs.Prelude.{Result, Ok, Err, IfOk, IfErr, OnOk}
use Rattle.giop_run.specs.declared.fault.RunFault.{RunFault}
use Rattle.giop_capture.specs.declared.ending.Ending.{Ending}
use Rattle.giop_capture.proofs.ending.dump_capture.Goals as goal

if_ended : (r : Result Ending RunFault) (P D : Ending → Type 0) (Q : Type 0) → IfOk r P → OnOk r Q
    → ((ending : Ending) → P ending → Q → D ending) → IfOk r D
if_ended (Ok ending) P D Q p q f = f ending p q
if_ended (Err why) P D Q p q f = tt

if_failed : (r : Result Ending RunFault) (P D : RunFault → Type 0) → IfErr r P
    → ((why : RunFault) → P why → D why) → IfErr r D
if_failed (Ok ending) P D p f = tt
if_failed (Err why) P D p f = f why p

pub returns-in-Ok-clause-dumped : goal.returns-in-Ok-clause-dumped
returns-in-Ok-clause-dumped g c =
    λ w h.
    let ran = c.in-Ok.ensures.ran w h in
    let r = c.read_capture.new.reader in
    if_ended c.finish_dump.result _ _ _ c.finish_dump.ensures.ends
    (c.finish_dump.ensures.last ran.1.read _ ran.1.reads ran.1.ended.observed)
    (λ ending ends last. record {
      listener = r.streams.listener;
      connections = r.connections;
      live = r.streams.live.items;
      octets = ran.0;
      found = c.in-Ok.fault;
      whole = record {
        given = ran.1.given;
        failures = ran.1.failures;
        read = ran.1.read;
        rest = ran.1.rest;
        parts = ran.1.parts;
        over = ran.1.over;
        reads = ran.1.reads;
        fault = ran.1.fault;
        ended = ran.1.ended;
        told = rw c.finish_dump.ensures.notices ran.1.told;
      };
      ends = ends;
      last = last;
    })

pub returns-in-Ok-clause-stopped : goal.returns-in-Ok-clause-stopped
returns-in-Ok-clause-stopped g c =
    λ w h.
    let ran = c.in-Ok.ensures.ran w h in
    if_failed c.finish_dump.result _ _ c.finish_dump.ensures.cause
    (λ why failed. (
      ran.0,
      rw failed.0 (record { given = ran.1.given; failures = ran.1.failures }),
    ))

pub returns-in-Err-clause-stopped : goal.returns-in-Err-clause-stopped
returns-in-Err-clause-stopped g c = λ w h. c.in-Err.ensures.ran w h
