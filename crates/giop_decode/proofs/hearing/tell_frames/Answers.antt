use Rattle.std.proofs.Common.{◌≡◌, suc, ◌-◌, length, subst, arith}
use Rattle.giop_decode.specs.Heard.{IsSignOf}
use Rattle.giop_decode.specs.Transitions.{HasOutput}
use Rattle.giop_decode.proofs.HeardFrames.{heard_nothing, heard_sign, says_here}
use Rattle.giop_sig.specs.Trees.{tree_at}
use Rattle.giop_decode.proofs.hearing.tell_frames.Goals as goal

pub sign_of_finished-requires-clause-has_output : goal.sign_of_finished-requires-clause-has_output
sign_of_finished-requires-clause-has_output c =
    let old = c.args.outer.now.items in
    let one : 24 - length old ≡ suc (23 - length old) = omega (arith, c.requires.room) in (
      23 - length old,
      subst (λ n. HasOutput (tree_at c.args.catalogue.now n c.args.finished.of.0)
          c.args.finished.output) one c.requires.has_output,
    )

pub returns-in-Some : goal.returns-in-Some
returns-in-Some c =
    rw c.tell_frames_sign.ensures (heard_sign c.args.catalogue.now c.args.outer.now.items _ _ _
    c.requires.known_outer c.in-Some.sign
    (λ at path lines is. subst (λ s. IsSignOf s lines) c.in-Some.is
    (says_here c.args.catalogue.now c.args.outer.now.items _ _ _ c.sign_of_finished.result
    c.requires.room (λ room. c.sign_of_finished.ensures room) at path lines is)))

pub returns-in-None : goal.returns-in-None
returns-in-None c =
    heard_nothing c.args.catalogue.now c.args.outer.now.items _ _ _ c.requires.known_outer
    (λ at path lines is. subst (λ s. IsSignOf s lines) c.in-None.is
    (says_here c.args.catalogue.now c.args.outer.now.items _ _ _ c.sign_of_finished.result
    c.requires.room (λ room. c.sign_of_finished.ensures room) at path lines is))
