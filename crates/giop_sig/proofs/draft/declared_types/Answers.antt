use Rattle.std.proofs.Common.{ℕ}
use Rattle.std.specs.Map.{lookup}
use Rattle.std.specs.Map.Iter.{deref_pair}
use Rattle.std.proofs.lemmas.Map.Iter.{rest_more}
use Rattle.arrayvec.specs.ArrayVec.{ArrayVec}
use Rattle.giop_sig.specs.declared.announced.Announcement.{Announcement}
use Rattle.giop_sig.specs.RequestList.{option_flatten}
use Rattle.giop_sig.specs.ScopeViews.{same_key_octets}
use Rattle.giop_sig.proofs.SettledEntries.{put_next}
use Rattle.giop_sig.proofs.draft.declared_types.Goals as goal

pub loop-key-preserved : goal.loop-key-preserved
loop-key-preserved c =
    let next = rest_more deref_pair c.loop-key.key-iterator c.next.new.self c.next.result
    _ c.in-Some.is c.next.ensures.steps in
    put_next (λ (e : ArrayVec ℕ × Announcement). option_flatten
    (lookup (same_key_octets e.0) c.args.names.now.entries))
    c.loop-key.types.items c.push.new.self.items c.loop-key.key-iterator c.next.new.self _ _
    next c.loop-key.invariant c.declared_type.ensures c.in_ok-push.ensures.items
