use Rattle.std.proofs.Common.{◌≡◌, ℕ, ◌%◌, ◌&&◌, true, nat_eq, List, length, ◌∙◌, sym, ap, rules, tests}
use Rattle.std.specs.List.{list_all}
use Rattle.std.proofs.lemmas.Iterator.{YieldsList-from_slice}
use Rattle.std.proofs.lemmas.Iterator.Search.{all_from_yields_List}
use Rattle.giop_sig.specs.Interfaces.{is_digit, digits_of, is_key}
use Rattle.giop_sig.proofs.interfaces.is_key.Goals as goal

key_by : (digits text : List ℕ) → digits ≡ digits_of text → list_all is_digit digits ≡ true
    → nat_eq (length digits % 2) 0 ≡ is_key text
key_by digits text same all =
    sym (ap (λ v. v && nat_eq (length digits % 2) 0) all)
    ∙ ap (λ (d : List ℕ). list_all is_digit d && nat_eq (length d % 2) 0) same

pub returns-then-all : goal.returns-then-all
returns-then-all c =
    let all = all_from_yields_List is_digit _ _ c.all.result c.all.ensures.ran
    (YieldsList-from_slice c.digits_of-digits.result.now cc) (λ x b q k. search (rules, tests)) in
    key_by c.digits_of-digits.result.now c.args.text.now c.digits_of-digits.ensures
    (sym all ∙ c.if-all.true)
