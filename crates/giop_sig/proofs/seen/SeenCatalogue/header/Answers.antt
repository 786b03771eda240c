use Rattle.std.proofs.Common.{◌<◌, length, ap, ◌∙◌}
use Rattle.giop_sig.specs.Fits.{IsFit}
use Rattle.giop_sig.specs.Trees.{tree}
use Rattle.giop_sig.specs.HeaderTypes.{header_type_number}
use Rattle.giop_sig.proofs.Builtins.{header_built_in, some_numbered, some_known, some_fit, header_found}
use Rattle.giop_sig.proofs.HeaderLaws.{id_found}
use Rattle.giop_sig.proofs.seen.SeenCatalogue.header.Goals as goal

pub returns-clause-known : goal.returns-clause-known
returns-clause-known c =
    let found = header_type_number c.args.self.now.version c.args.minor c.args.message_type in
    some_numbered (λ n. n < length c.args.self.now.types) (λ t. t.0) c.header_type_id.result found
    (c.header_type_id.ensures ∙ ap (λ v. header_type_number v c.args.minor c.args.message_type)
    c.version.ensures)
    (some_known c.args.self.now found c.laws.ensures
    (header_built_in c.args.self.now.version c.args.minor c.args.message_type))

pub returns-clause-tree : goal.returns-clause-tree
returns-clause-tree c =
    header_found c.args.self.now (λ t. t.0) c.header_type_id.result c.args.minor c.args.message_type
    c.laws.ensures
    (c.header_type_id.ensures ∙ ap (λ v. header_type_number v c.args.minor c.args.message_type)
    c.version.ensures)

pub returns-clause-fit : goal.returns-clause-fit
returns-clause-fit c =
    let found = header_type_number c.args.self.now.version c.args.minor c.args.message_type in
    some_numbered (λ n. IsFit 24 (tree c.args.self.now n)) (λ t. t.0) c.header_type_id.result found
    (c.header_type_id.ensures ∙ ap (λ v. header_type_number v c.args.minor c.args.message_type)
    c.version.ensures)
    (some_fit c.args.self.now found c.laws.ensures
    (header_built_in c.args.self.now.version c.args.minor c.args.message_type))

pub returns-clause-id : goal.returns-clause-id
returns-clause-id c =
    id_found c.args.self.now (λ t. t.0) c.header_type_id.result c.args.minor c.args.message_type
    c.laws.ensures
    (c.header_type_id.ensures ∙ ap (λ v. header_type_number v c.args.minor c.args.message_type)
    c.version.ensures)
