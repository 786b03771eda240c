use Rattle.giop_sig.proofs.Kept.{kept_pushed}
use Rattle.giop_sig.proofs.entries.Types.add.Goals as goal

pub invariant_of-self-2 : goal.invariant_of-self-2
invariant_of-self-2 c =
    kept_pushed c.self.inside.placed.items c.push.new.self.items c.self.inside.deepest
    c.max-self-inside.result
    (record {
      entry = c.args.entry;
      depth = c.entry_depth-depth.result;
      wide = c.entry_has_wide_text-wide.result;
    })
    c.args.self.now c.self.invariant c.self.view_is c.requires.few c.requires.formed
    c.entry_depth-depth.ensures c.entry_has_wide_text-wide.ensures c.in_ok-push.ensures.items
    c.max-self-inside.ensures
