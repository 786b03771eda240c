use Rattle.std.proofs.Common.{◌≡◌, ℕ, ◌≤◌, List, ◌++◌, map, length, nat_eq}
use Rattle.std.specs.List.{All}
use Rattle.std.specs.HashMap.{get, IsUnique}
use Rattle.std.specs.Map.{keys_of}
use Rattle.giop_sig.specs.RequestList.{Entry, IsEntry, line_of, lines, asked_of, ids_of}
use Rattle.giop_sig.proofs.ListKept.{kept_of_asked, kept_view}
use Rattle.giop_sig.proofs.requests.read_lines.Given as goal

-- the entries of the lines before the rest
abbrev pub invariant-loop-line : goal.invariant-loop-line
invariant-loop-line l = record {
  es : List Entry;
  entries : All (IsEntry l.third_word) es;
  spelled : lines l.text ≡ map line_of es ++ lines l.rest;
  counted : l.count ≡ length es;
  few : l.count ≤ 65536;
  unique : IsUnique nat_eq l.asked;
  keys : keys_of l.asked.entries ≡ ids_of es;
  kept : (q : ℕ) → kept_view (get nat_eq l.asked q) ≡ kept_of_asked (asked_of es q);
}

abbrev pub decreases-loop-line : goal.decreases-loop-line
decreases-loop-line l = length l.rest
