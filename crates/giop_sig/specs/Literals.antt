-- The table that the code's literals of the built-in types stand for (state).
use Rattle.std.specs.Prelude.{[], ◌∷◌, map, None, Some}
use Rattle.giop_cdr.specs.declared.number.Number.TheVariants.{Signed, Unsigned}
use Rattle.giop_sig.specs.declared.types.Selected.TheVariants.{Refused}
use Rattle.giop_sig.specs.declared.builtin.Literal.{Literal}
use Rattle.giop_sig.specs.declared.builtin.Literal.TheVariants as literals
use Rattle.giop_sig.specs.declared.builtin.Named.{Named}
use Rattle.giop_sig.specs.declared.builtin.Labelled.{Labelled}
use Rattle.giop_sig.specs.declared.builtin.Parameters.{Parameters}
use Rattle.giop_sig.specs.declared.numbers.TheConstants.{NAMED}
use Rattle.giop_sig.specs.Table.{Node, Part, Case}
use Rattle.giop_sig.specs.Table as nodes

abbrev pub literal_part : (name_and_type : Named) → Part
literal_part p = record { name = p.0.now; type = p.1 }

abbrev pub literal_case : (label_name_and_type : Labelled) → Case
literal_case c = record { labels = Signed c.0 ∷ []; part = record { name = c.1.now; type = c.2 } }

abbrev pub literal_parameters : (labels_name_and_type : Parameters) → Case
literal_parameters p =
    record { labels = map Unsigned p.0.now; part = record { name = p.1.now; type = p.2 } }

abbrev pub literal_node : (literal : Literal) → Node
literal_node (literals.Prim p) = nodes.prim p
literal_node literals.Text = nodes.text None
literal_node literals.Octets = nodes.octets None
literal_node literals.WideText = nodes.wide_text
literal_node literals.WideChar = nodes.wide_char
literal_node (literals.Names names) = nodes.enumeration (map (λ n. n.now) names.now)
literal_node (literals.Members parts) = nodes.members (map literal_part parts.now)
literal_node (literals.Target switch cases) =
    nodes.union switch (map literal_case cases.now) Refused
literal_node (literals.Sequence element) = nodes.sequence None element
literal_node (literals.Array count element) = nodes.array count element
literal_node (literals.Encapsulation held) = nodes.encapsulation held
literal_node (literals.Marked mark) = nodes.marked mark
literal_node (literals.Any code) = nodes.any code
literal_node (literals.TypeCode kind all) =
    nodes.typecode (Some NAMED) kind (map literal_parameters all.now)
literal_node (literals.Tagged special tag inner other) =
    nodes.tagged special (literal_part tag) (literal_part inner) (literal_part other)
