-- The labels and cases of a union that is being read, as contracts see them (state).
use Rattle.std.specs.Prelude.{map}
use Rattle.giop_sig.specs.declared.labels.LabelValue as code
use Rattle.giop_sig.specs.declared.labels.LabelValue.TheVariants as seen
use Rattle.giop_sig.specs.declared.read_unions.Cases as kept
use Rattle.giop_sig.specs.Grammar.{Value, Plain, Below, Truth, Enumerator}
use Rattle.giop_sig.specs.UnionCases.{case_view}
use Rattle.giop_sig.specs.UnionReading.{Cases}

abbrev pub value_view : (value : code.LabelValue) → Value
value_view (seen.Plain n) = Plain n
value_view (seen.Below n) = Below n
value_view (seen.Truth b) = Truth b
value_view (seen.Enumerator w) = Enumerator w.now

abbrev pub cases_view : (cases : kept.Cases) → Cases
cases_view cs =
    record {
      labels = cs.labels.items;
      names = map (λ n. n.now) cs.names.items;
      cases = map case_view cs.cases.items;
      otherwise = cs.otherwise;
    }
