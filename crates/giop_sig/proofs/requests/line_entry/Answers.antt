use Rattle.std.proofs.Common.{rules, tests}
use Rattle.std.proofs.lemmas.Iterator.{YieldsList-from_slice}
use Rattle.std.proofs.lemmas.Iterator.Search.{position_from_yields_List}
use Rattle.giop_sig.proofs.ListLines.{found, to_end}
use Rattle.giop_sig.proofs.ListEntries.{is_space, no_entry, no_number, no_words}
use Rattle.giop_sig.proofs.requests.line_entry.Goals as goal

pub returns-in_err-space : goal.returns-in_err-space
returns-in_err-space c =
    let k = position_from_yields_List is_space _ _ c.position.result c.position.ensures.ran
    (YieldsList-from_slice c.args.line.now cc)
    (λ x b q k. search (rules, tests)) in
    let f = rw c.in_err-space.was at (found is_space c.args.line.now c.position.result k) in
    rw c.from_residual.ensures (no_entry c.args.line.now f)

pub returns-in_err-id : goal.returns-in_err-id
returns-in_err-id c =
    let k = position_from_yields_List is_space _ _ c.position.result c.position.ensures.ran
    (YieldsList-from_slice c.args.line.now cc)
    (λ x b q k. search (rules, tests)) in
    let f = rw c.in_ok-space.was at (found is_space c.args.line.now c.position.result k) in
    rw c.from_residual-in_err-id.ensures (no_number c.args.line.now c.in_ok-space.space f
    c.in_err-id.ensures)

pub returns-in_err-words_of : goal.returns-in_err-words_of
returns-in_err-words_of c =
    let k = position_from_yields_List is_space _ _ c.position.result c.position.ensures.ran
    (YieldsList-from_slice c.args.line.now cc)
    (λ x b q k. search (rules, tests)) in
    let f = rw c.in_ok-space.was at (found is_space c.args.line.now c.position.result k) in
    rw c.from_residual-in_err-words_of.ensures (no_words c.args.line.now c.in_ok-space.space f
    (rw to_end at c.in_err-words_of.ensures))
