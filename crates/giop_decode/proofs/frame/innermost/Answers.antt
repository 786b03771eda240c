use Rattle.std.proofs.Common.{◌≡◌, ◌-◌, [], ◌∷◌, ◌++◌, get_or, None, subst, arith}
use Rattle.giop_decode.specs.declared.frame.Frame.{Frame}
use Rattle.giop_decode.specs.NextParts.{frames_above}
use Rattle.giop_decode.proofs.NextParts.{last_frame}
use Rattle.giop_decode.proofs.frame.innermost.Goals as goal

pub returns-clause-some : goal.returns-clause-some
returns-clause-some c =
    let i = c.len-depth.result - 1 in
    let none : Frame = record {
      of = record { 0 = 0 };
      index = 0;
      count = 0;
      inside = None;
      told =
          None;
    } in
    subst (λ xs. xs ≡ frames_above xs ++ get_or c.deref.result.now i none ∷ []) c.deref.ensures.0
    (last_frame c.deref.result.now i none (rw c.deref.ensures.0
    (omega (arith, c.len-depth.ensures.value, c.if-depth-eq0.false))))
