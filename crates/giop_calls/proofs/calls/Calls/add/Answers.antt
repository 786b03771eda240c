use Rattle.std.proofs.Common.{◌≡◌, ◌==◌, ◌<◌, false, length, arith, length-append, sym, ◌∙◌}
use Rattle.std.specs.List.{AllByRecursion as Each}
use Rattle.std.proofs.lemmas.Bool.{leb-false}
use Rattle.giop_calls.specs.declared.calls.Call.{Call}
use Rattle.giop_calls.proofs.OutstandingLemmas.{apart_push, each_drop, others_without}
use Rattle.giop_calls.proofs.calls.Calls.add.Goals as goal

pub invariant_of-self : goal.invariant_of-self
invariant_of-self c =
    let others : Each (λ other. (other.key == c.args.id) ≡ false) c.self.inside.table.entries =
    rw (c.self.view_is, c.make_room.ensures.entries, c.forget.ensures.entries)
    (each_drop {V = Call} (λ other. (other.key == c.args.id) ≡ false) _ _
    (others_without c.args.id c.args.self.now.entries)) in
    let room : length c.self.inside.table.entries < c.self.inside.table.most =
    leb-false _ _ (sym c.is_full.ensures ∙ c.if-not-is_full.true) in
    rw (c.add.ensures.entries, c.add.ensures.most) (
      apart_push _ _ c.self.invariant.0 others,
      rw (length-append c.self.inside.table.entries _) (omega (arith, room)),
    )
