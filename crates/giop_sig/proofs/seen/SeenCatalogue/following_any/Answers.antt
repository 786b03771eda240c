use Rattle.std.proofs.Common.{sym, arith}
use Rattle.giop_sig.proofs.Solid.{can_follow}
use Rattle.giop_sig.proofs.seen.SeenCatalogue.following_any.Goals as goal

pub overflow_add-result : goal.overflow_add-result
overflow_add-result c =
    let is = can_follow c.args.self.now c.args.room c.in-Is.i (sym c.if-can_be_value.ensures) in
    let known = is.known in
    let few = c.laws.ensures.types.placed.few in
    omega arith
