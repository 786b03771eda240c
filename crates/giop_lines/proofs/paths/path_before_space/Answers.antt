use Rattle.std.proofs.Common.{◌≡◌, ℕ, List, ◌∷◌, ◌++◌, ◌-◌, length, take, drop, ap, arith, ◌∙◌, subst, rules}
use Rattle.giop_lines.specs.Paths.{IsPath}
use Rattle.giop_lines.proofs.Gone.{path_more, path_front, before_rest, first_and_rest}
use Rattle.giop_lines.proofs.paths.path_before_space.Goals as goal

pub loop-part-preserved : goal.loop-part-preserved
loop-part-preserved c =
    let f = c.in_ok-next.ensures in
    path_more c.args.text.now c.loop-part.rest.now c.in_ok-next.next.now c.loop-part._part
    c.in_ok-next.field-0-0 c.loop-part.invariant f.0 f.1

pub returns-in-32-clause-path : goal.returns-in-32-clause-path
returns-in-32-clause-path c =
    let p = path_front c.args.text.now c.loop-part.rest.now c.loop-part._part
    c.loop-part.invariant (omega arith) in
    let front = before_rest c.args.text.now p.0 c.loop-part.rest.now p.2 in
    subst (λ xs. IsPath xs) (search (rules, front)) p.1

pub returns-in-32-clause-spelled : goal.returns-in-32-clause-spelled
returns-in-32-clause-spelled c =
    let p = path_front c.args.text.now c.loop-part.rest.now c.loop-part._part
    c.loop-part.invariant (omega arith) in
    let front = before_rest c.args.text.now p.0 c.loop-part.rest.now p.2 in
    let space = first_and_rest c.loop-part.rest.now 32 (search (rules, arith)) (search rules) in
    let behind : List ℕ = take (length c.loop-part.rest.now - 1) (drop 1 c.loop-part.rest.now) in
    subst (λ xs. c.args.text.now ≡ xs ++ (32 ∷ behind)) (search (rules, front))
    (p.2 ∙ ap (λ (xs : List ℕ). p.0 ++ xs) space)
