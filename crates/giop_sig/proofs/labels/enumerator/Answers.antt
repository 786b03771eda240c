use Rattle.std.proofs.Common.{rules, tests, sym, ap, ◌∙◌}
use Rattle.std.specs.Str.{bytes_eq}
use Rattle.std.proofs.lemmas.Iterator.{YieldsList-from_slice}
use Rattle.std.proofs.lemmas.Iterator.Search.{position_from_yields_List}
use Rattle.giop_sig.specs.Scopes.{enumerator_number}
use Rattle.giop_sig.proofs.Finds.{position-map}
use Rattle.giop_sig.proofs.labels.enumerator.Goals as goal

pub returns-in_err-index : goal.returns-in_err-index
returns-in_err-index c =
    let k = position_from_yields_List (λ e. bytes_eq c.args.name.now e.items) _ _ c.position.result
    c.position.ensures.ran
    (YieldsList-from_slice c.args.names.now cc) (λ x b q k. search (rules, tests)) in
    c.from_residual.ensures ∙ ap enumerator_number (sym c.in_err-index.was ∙ k
    ∙ sym (position-map (bytes_eq c.args.name.now) (λ n. n.items) c.args.names.now))

pub returns : goal.returns
returns c =
    let k = position_from_yields_List (λ e. bytes_eq c.args.name.now e.items) _ _ c.position.result
    c.position.ensures.ran
    (YieldsList-from_slice c.args.names.now cc) (λ x b q k. search (rules, tests)) in
    ap enumerator_number (sym c.in_ok-index.was ∙ k
    ∙ sym (position-map (bytes_eq c.args.name.now) (λ n. n.items) c.args.names.now))
