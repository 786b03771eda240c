use Rattle.std.proofs.Common.{refl, sym}
use Rattle.giop_stream.proofs.Restored.Saved.{saved_is}
use Rattle.giop_stream.proofs.Restored.SavedSizes.{HasRoom}
use Rattle.giop_stream.proofs.engine.Engine.save.Goals as goal

pub returns-in-Ok-clause-saves : goal.returns-in-Ok-clause-saves
returns-in-Ok-clause-saves g c p holds =
    let room : HasRoom _ _ _ _ = record {
      fixed = c.in-Ok.ensures.long;
      allows =
          c.in-Ok.ensures.allows;
      ready = c.self.invariant.1;
      table = c.laws.ensures;
    } in
    let whole = c.in-Ok.ensures.whole in
    saved_is _ _ p _ _ _ _ (sym c.self.view_is) refl holds whole.is room whole.puts.written
    whole.puts.count

pub returns-in-Err-clause-saves : goal.returns-in-Err-clause-saves
returns-in-Err-clause-saves g c p holds =
    let room : HasRoom _ _ _ _ = record {
      fixed = c.in-Err.ensures.long;
      allows =
          c.in-Err.ensures.allows;
      ready = c.self.invariant.1;
      table = c.laws.ensures;
    } in
    let whole = c.in-Err.ensures.whole in
    saved_is _ _ p _ _ _ _ (sym c.self.view_is) refl holds whole.is room whole.puts.written tt
