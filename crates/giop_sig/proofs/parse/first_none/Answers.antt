use Rattle.std.proofs.Common.{rules, tests}
use Rattle.std.specs.Prelude.{not}
use Rattle.std.specs.Option.{is_some}
use Rattle.std.proofs.lemmas.Iterator.{YieldsList-from_slice}
use Rattle.std.proofs.lemmas.Iterator.Search.{position_from_yields_List}
use Rattle.giop_sig.proofs.parse.first_none.Goals as goal

pub returns : goal.returns
returns c =
    position_from_yields_List (λ t. not (is_some t)) _ _ c.position.result c.position.ensures.ran
    (YieldsList-from_slice c.args.types.now cc) (λ x b q k. search (rules, tests))
