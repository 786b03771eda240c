use Rattle.std.proofs.Common.{◌≡◌, true, map, subst}
use Rattle.giop_sig.specs.UnionCases.{case_view, KeysRise, AreLabels}
use Rattle.giop_sig.proofs.CaseLabels.{in_any_order}
use Rattle.giop_sig.proofs.cases.UnionCases.new.Goals as goal

pub invariant_of-result : goal.invariant_of-result
invariant_of-result c =
    let sorted = c.sort_unstable_by_key.new.self.items in
    let all = subst (λ es. AreLabels (map case_view es) c.in_ok-labels.labels.items)
    c.deref.ensures.value c.in_ok-labels.ensures in
    record {
      labels = in_any_order (map case_view c.args.cases.items) c.in_ok-labels.labels.items sorted
          c.sort_unstable_by_key.ensures.permutation all;
      order = subst (λ ls. c.keys_rise-rises.result ≡ true → KeysRise ls) c.deref-2.ensures.value
          c.keys_rise-rises.ensures;
    }
