use Rattle.std.proofs.Common.{rules, tests, sym, ◌∙◌}
use Rattle.std.specs.Str.{bytes_eq}
use Rattle.std.proofs.lemmas.Iterator.{YieldsList-from_slice}
use Rattle.std.proofs.lemmas.Iterator.Search.{any_from_yields_List}
use Rattle.giop_sig.proofs.Added.{list_any-map}
use Rattle.giop_sig.proofs.read_items.is_among.Goals as goal

pub returns : goal.returns
returns c =
    let k = any_from_yields_List (λ e. bytes_eq e.now c.args.name.now) _ _ c.any.result
    c.any.ensures.ran (YieldsList-from_slice c.args.seen.now cc)
    (λ x b q k. search (rules, tests)) in
    k ∙ sym (list_any-map (λ n. bytes_eq n c.args.name.now) (λ n. n.now) c.args.seen.now)
