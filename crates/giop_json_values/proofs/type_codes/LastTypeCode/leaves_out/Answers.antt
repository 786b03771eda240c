use Rattle.std.proofs.Common.{◌≡◌, ◌≢◌, ◌++◌, ◌∙◌, [], None, Some, false, ap, sym, rules}
use Rattle.std.proofs.lemmas.Slice.Eq.{strip_prefix_is}
use Rattle.std.proofs.lemmas.Bool.Decides.{Decides-eqb}
use Rattle.giop_json_values.proofs.LeftOut.{not_left_out, left_out_along}
use Rattle.giop_json_values.proofs.type_codes.LastTypeCode.leaves_out.Goals as goal

pub returns-in-None : goal.returns-in-None
returns-in-None c =
    not_left_out _ _ _ _ (λ rest e. strip_prefix_is Decides-eqb c.args.path.now
    c.as_slice.result.now None c.in-None.ensures.cases rest
    (e ∙ ap (λ p. p ++ rest) (sym c.as_slice.ensures.value)))

pub returns-in-Some : goal.returns-in-Some
returns-in-Some c =
    let short : c.args.options.has_types ≡ false = search rules in
    let known : c.args.self.now.parameters.items ≢ [] = search rules in
    left_out_along _ _ _ _ _ c.in-Some.below.now short known
    (strip_prefix_is Decides-eqb c.args.path.now c.as_slice.result.now (Some c.in-Some.below)
    c.in-Some.ensures.cases ∙ ap (λ p. p ++ c.in-Some.below.now) c.as_slice.ensures.value)
    c.is_left_out_parameter.ensures
