use Rattle.std.proofs.Common.{◌*◌, take, refl, arith}
use Rattle.std.proofs.lemmas.List.{length-take-le}
use Rattle.giop_checkpoint.specs.declared.sizes.TheConstants.{FRAME_SIZE}
use Rattle.giop_checkpoint.specs.Records.{StoredRecord}
use Rattle.giop_stream.proofs.Restored.Saved.{kept_put}
use Rattle.giop_stream.proofs.saving.write_message_record.Goals as goal

pub returns-clause-put : goal.returns-clause-put
returns-clause-put c C fits =
    let few = c.store-count.ensures.few in
    let entry : StoredRecord = record {
      record_is = record {
        frames = c.store-count.result;
        record_kind = c.args.record_kind;
        number =
            c.args.number;
        header = c.args.header;
      };
      message = c.store-count.new.fixed;
      frames = take (FRAME_SIZE * c.store-count.result) c.store-count.new.frames;
    } in
    record {
      entry = entry;
      is = record {
        range = record {
          own = record { frames = few; typed = c.write.ensures.typed };
          message = c.store-count.array_long;
          frames = length-take-le _ _ (omega (arith, few, c.store-count.array_long2));
        };
        standing_is = refl;
        number_is = refl;
        header_is = refl;
        message = record {
          stored = c.store-count.ensures.stored C fits;
          shallow =
              c.store-count.ensures.depth;
        };
      };
      put = kept_put _ _ _ _ entry c.write.ensures.put c.put_octets.ensures.put
          c.put_octets-2.ensures.put;
    }
