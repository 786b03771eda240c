use Rattle.std.proofs.Common.{◌≡◌, ◌+◌, length, get_or, drop, [], sym, ap, ◌∙◌, arith}
use Rattle.std.proofs.Math.Seq.{drop-length}
use Rattle.std.proofs.lemmas.List.{nil_from_length, length-drop}
use Rattle.giop_tokens.specs.Tokens.{after_gap, gap_step, here_or_on}
use Rattle.giop_tokens.proofs.Gaps.{gap_at, to_end, gap_none}
use Rattle.giop_tokens.proofs.lexer.after_gap.Goals as goal

pub returns-in-None : goal.returns-in-None
returns-in-None c =
    let i = c.loop-i.i in
    let s = c.args.text.now in
    let e = gap_at s i c.loop-i.comment c.loop-i-test.true in
    let k = sym c.in-None.is ∙ c.gap_step.ensures
    ∙ ap (gap_step c.loop-i.comment (get_or s i 0)) c.octet_at.ensures in
    to_end i s ∙ sym (e ∙ ap (λ o. here_or_on o (drop i s)
    (λ more. after_gap more (drop (i + 1) s)))
    (sym k)) ∙ c.loop-i.invariant

pub loop-i-preserved : goal.loop-i-preserved
loop-i-preserved c =
    let i = c.loop-i.i in
    let s = c.args.text.now in
    let e = gap_at s i c.loop-i.comment c.loop-i-test.true in
    let k = sym c.in-Some.is ∙ c.gap_step.ensures
    ∙ ap (gap_step c.loop-i.comment (get_or s i 0)) c.octet_at.ensures in
    sym (e ∙ ap (λ o. here_or_on o (drop i s) (λ more. after_gap more (drop (i + 1) s))) (sym k))
    ∙ c.loop-i.invariant

pub returns : goal.returns
returns c =
    let s = c.args.text.now in
    let nil : drop c.loop-i.i s ≡ [] = nil_from_length (drop c.loop-i.i s)
    (omega (arith, length-drop c.loop-i.i s)) in
    to_end (length s) s ∙ drop-length s ∙ sym (gap_none c.loop-i.comment)
    ∙ ap (after_gap c.loop-i.comment) (sym nil) ∙ c.loop-i.invariant
