use Rattle.std.proofs.Common.{◌≡◌, ◌<◌, length, arith, rules, tests}
use Rattle.std.specs.List.{list_all}
use Rattle.std.proofs.lemmas.Bool.{lt-ltb}
use Rattle.std.proofs.lemmas.Iterator.{YieldsList-from_slice}
use Rattle.std.proofs.lemmas.Iterator.Search.{all_from_yields_List}
use Rattle.giop_message.specs.Messages.{is_graphic, is_graphic_name}
use Rattle.giop_message.proofs.word.is_graphic_name.Goals as goal

pub returns-then-not-is_empty : goal.returns-then-not-is_empty
unfolding is_graphic_name
returns-then-not-is_empty c =
    let name = c.args.name.now in
    let e : c.all.result ≡ list_all is_graphic name =
    all_from_yields_List is_graphic _ _ c.all.result c.all.ensures.ran
    (YieldsList-from_slice name cc) (λ x b q k. search (rules, tests)) in
    let some : 0 < length name = search (rules, tests, arith) in
    rw (lt-ltb 0 (length name) some) e
