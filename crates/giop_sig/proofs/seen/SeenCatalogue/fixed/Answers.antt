use Rattle.std.proofs.Common.{◌<◌, length, sym, ap, subst, ◌∙◌}
use Rattle.giop_sig.specs.Fits.{IsFit}
use Rattle.giop_sig.specs.Trees.{tree}
use Rattle.giop_sig.specs.HeaderTypes.{fixed_type_number}
use Rattle.giop_sig.proofs.Builtins.{fixed_built_in, builtin_known, builtin_tree, builtin_fit}
use Rattle.giop_sig.proofs.seen.SeenCatalogue.fixed.Goals as goal

pub returns-clause-known : goal.returns-clause-known
returns-clause-known c =
    subst (λ n. n < length c.args.self.now.types)
    (sym (c.fixed_type_id.ensures ∙ ap (λ v. fixed_type_number v c.args.fixed) c.version.ensures))
    (builtin_known c.args.self.now (fixed_type_number c.args.self.now.version c.args.fixed)
    c.laws.ensures (fixed_built_in c.args.self.now.version c.args.fixed))

pub returns-clause-tree : goal.returns-clause-tree
returns-clause-tree c =
    ap (tree c.args.self.now)
    (c.fixed_type_id.ensures ∙ ap (λ v. fixed_type_number v c.args.fixed) c.version.ensures)
    ∙ builtin_tree c.args.self.now (fixed_type_number c.args.self.now.version c.args.fixed)
    c.laws.ensures (fixed_built_in c.args.self.now.version c.args.fixed)

pub returns-clause-fit : goal.returns-clause-fit
returns-clause-fit c =
    subst (λ n. IsFit 24 (tree c.args.self.now n))
    (sym (c.fixed_type_id.ensures ∙ ap (λ v. fixed_type_number v c.args.fixed) c.version.ensures))
    (builtin_fit c.args.self.now (fixed_type_number c.args.self.now.version c.args.fixed)
    c.laws.ensures (fixed_built_in c.args.self.now.version c.args.fixed))
