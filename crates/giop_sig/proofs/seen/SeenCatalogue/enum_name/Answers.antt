use Rattle.std.proofs.Common.{◌∙◌, ◌≤◌, ℕ, List, length, refl}
use Rattle.giop_sig.specs.Table.{name_at}
use Rattle.giop_sig.specs.Views.{node_view}
use Rattle.giop_sig.proofs.Builtins.{some_numbered}
use Rattle.giop_sig.proofs.Tables.{entered, enum_name_tree, enum_name_within}
use Rattle.giop_sig.proofs.seen.SeenCatalogue.enum_name.Goals as goal

pub returns-clause-tree : goal.returns-clause-tree
returns-clause-tree c =
    let e = entered _ c.args.self.now c.args.t.0 (node_view c.entry.result.now) c.laws.ensures refl
    c.requires c.entry.ensures.node in
    c.enum_name.ensures ∙ enum_name_tree c.args.self.now c.args.t.0 c.args.number 24
    (node_view c.entry.result.now) e

pub returns-clause-short : goal.returns-clause-short
returns-clause-short c =
    let e = entered _ c.args.self.now c.args.t.0 (node_view c.entry.result.now) c.laws.ensures refl
    c.requires c.entry.ensures.node in
    some_numbered (λ (xs : List ℕ). length xs ≤ 64) (λ x. x.now) c.enum_name.result
    (name_at (node_view c.entry.result.now) c.args.number) c.enum_name.ensures
    (enum_name_within c.args.self.now c.args.t.0 c.args.number (node_view c.entry.result.now) e)

pub returns-clause-rooms : goal.returns-clause-rooms
returns-clause-rooms c = λ n.
    let e = entered _ c.args.self.now c.args.t.0 (node_view c.entry.result.now) c.laws.ensures refl
    c.requires c.entry.ensures.node in
    c.enum_name.ensures ∙ enum_name_tree c.args.self.now c.args.t.0 c.args.number n
    (node_view c.entry.result.now) e
