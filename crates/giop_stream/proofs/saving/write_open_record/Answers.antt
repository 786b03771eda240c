use Rattle.std.proofs.Common.{refl, arith}
use Rattle.giop_stream.proofs.Restored.Saved.{over_is, open_is, ready_fits}
use Rattle.giop_stream.proofs.saving.write_open_record.Goals as goal

pub returns-in-Some-clause-put : goal.returns-in-Some-clause-put
returns-in-Some-clause-put c C at ready =
    open_is (record { key = c.args.id; value = c.args.slot.now }) c.in-Some.message _ _ c.in-Some.is
    (rw c.open_kind.ensures at (c.write_message_record.ensures.put C (ready_fits C at
    c.args.slot.now.message c.in-Some.message c.in-Some.is ready)))

pub returns-in-None-clause-put : goal.returns-in-None-clause-put
returns-in-None-clause-put c C at ready =
    over_is (record { key = c.args.id; value = c.args.slot.now }) _ _ _ _ c.in-None.is
    (record { frames = omega arith; typed = c.write.ensures.typed }) refl c.over_kind.ensures refl
    refl
    c.write.ensures.put c.put_zeros.ensures.put
