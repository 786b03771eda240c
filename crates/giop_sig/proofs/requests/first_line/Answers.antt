use Rattle.std.proofs.Common.{length, rules, tests}
use Rattle.std.proofs.lemmas.Iterator.{YieldsList-from_slice}
use Rattle.std.proofs.lemmas.Iterator.Search.{position_from_yields_List}
use Rattle.giop_sig.proofs.ListLines.{is_lf, found, to_end, lines_at, lines_one}
use Rattle.giop_sig.proofs.ListNumbers.{is_some_length}
use Rattle.giop_sig.proofs.requests.first_line.Goals as goal

pub returns-in-None-clause-lines : goal.returns-in-None-clause-lines
returns-in-None-clause-lines c =
    let k = position_from_yields_List is_lf _ _ c.position.result c.position.ensures.ran
    (YieldsList-from_slice c.args.text.now cc)
    (λ x b q k. search (rules, tests)) in
    let f = rw c.in-None.is at (found is_lf c.args.text.now c.position.result k) in
    lines_one c.args.text.now (is_some_length (length c.args.text.now) c.if-is_empty.ensures) f

pub returns-in-Some-clause-lines : goal.returns-in-Some-clause-lines
returns-in-Some-clause-lines c =
    let k = position_from_yields_List is_lf _ _ c.position.result c.position.ensures.ran
    (YieldsList-from_slice c.args.text.now cc)
    (λ x b q k. search (rules, tests)) in
    let f = rw c.in-Some.is at (found is_lf c.args.text.now c.position.result k) in
    rw to_end (lines_at c.args.text.now c.in-Some.end f)
