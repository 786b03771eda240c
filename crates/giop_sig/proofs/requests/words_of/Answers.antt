use Rattle.std.proofs.Common.{rules, tests}
use Rattle.std.proofs.lemmas.Bool.{false≢true}
use Rattle.std.proofs.lemmas.Iterator.{YieldsList-from_slice}
use Rattle.std.proofs.lemmas.Iterator.Search.{position_from_yields_List}
use Rattle.giop_sig.proofs.ListLines.{found}
use Rattle.giop_sig.proofs.ListEntries.{is_space, no_one_word}
use Rattle.giop_sig.proofs.requests.words_of.Goals as goal

pub returns-then-not-is_name : goal.returns-then-not-is_name
returns-then-not-is_name c =
    let k = position_from_yields_List is_space _ _ c.position.result c.position.ensures.ran
    (YieldsList-from_slice c.args.text.now cc)
    (λ x b q k. search (rules, tests)) in
    let f = rw c.in-None.is at (found is_space c.args.text.now c.position.result k) in
    no_one_word c.args.third_word c.args.text.now f (λ n. false≢true (c.if-not-is_name.ensures.1 n))
