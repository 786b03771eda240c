use Rattle.std.proofs.Common.{◌+◌, ◌*◌, ◌++◌, length, ap, arith}
use Rattle.giop_stream.proofs.Restored.Saved.{put_after, put_read, puts_all, ready_at, ok_within}
use Rattle.giop_stream.specs.SlotsRepresent.{OpenEntry}
use Rattle.giop_stream.proofs.SlotSteps.SlotLists.{entry_is}
use Rattle.giop_stream.proofs.saving.write_open_records.Goals as goal

pub loop-k-preserved : goal.loop-k-preserved
loop-k-preserved g c =
    let slots = c.args.slots.now.slots.entries in
    let i = c.loop-k.k in
    let below = rw c.len-k-end.ensures.value at c.loop-k-test.true in
    let slot : OpenEntry = record { key = c.request_id_at.result; value = c.open_at.result.now } in
    let is = entry_is slots i slot c.request_id_at.ensures c.open_at.ensures in
    record {
      put = λ C at before front ready puts.
          let so_far = c.loop-k.invariant.put C at before front ready puts in
          let one = c.write_open_record.ensures.put C at
          (ready_at C at slots i slot below is ready) in
          record {
            octets = so_far.octets ++ c.as_slice.result.now;
            is = put_read slots i slot _ _ _ below is so_far.is
                (put_after _ _ _ _ _ c.new-record.ensures c.as_slice.ensures.value one);
            puts = c.put_after-written.ensures.put before so_far.octets so_far.puts;
          };
      size =
          let few = c.write_open_record.ensures.len in
          let none = ap length c.new-record.ensures in
          let long = ap length c.as_slice.ensures.value in
          ok_within _ _ _ (omega (arith, few, none, long))
          (c.put_after-written.ensures.size (96 + 832 * i) c.loop-k.invariant.size);
    }

pub returns-clause-put : goal.returns-clause-put
returns-clause-put g c C at before front ready puts =
    let end = rw c.len-k-end.ensures.value at c.loop-k-test.false in
    puts_all c.args.slots.now.slots.entries c.loop-k.k _ _ _ front end
    (c.loop-k.invariant.put C at before front ready puts)
