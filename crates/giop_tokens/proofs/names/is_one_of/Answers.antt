use Rattle.std.proofs.Common.{sym, ◌∙◌, rules, tests, List, [], ◌∷◌, Bool, ◌≡◌, refl, map, ap}
use Rattle.std.specs.List.{list_any}
use Rattle.std.specs.Prelude.{◌||◌}
use Rattle.std.specs.Str.{bytes_eq}
use Rattle.std.proofs.lemmas.Iterator.{YieldsList-from_slice}
use Rattle.std.proofs.lemmas.Iterator.Search.{any_from_yields_List}
use Rattle.giop_tokens.proofs.names.is_one_of.Goals as goal

list_any-map : {X Y : Type 0} (test : Y → Bool) (f : X → Y) (xs : List X) →
    list_any test (map f xs) ≡ list_any (λ x. test (f x)) xs
list_any-map test f [] = refl
list_any-map test f (x ∷ xs) = ap (λ b. test (f x) || b) (list_any-map test f xs)

pub returns : goal.returns
returns c =
    let k = any_from_yields_List (λ o. bytes_eq c.args.word.now o.now) _ _ c.any.result
    c.any.ensures.ran (YieldsList-from_slice c.args.others.now cc)
    (λ x b q k. search (rules, tests)) in
    k ∙ sym (list_any-map (bytes_eq c.args.word.now) (λ o. o.now) c.args.others.now)
