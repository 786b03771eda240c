-- The entries of a catalogue's types as contracts see them (state).
use Rattle.std.specs.Prelude.{◌≡◌, ℕ, ◌<◌, ◌≤◌, false, List, length, map, slice_index_or, Some}
use Rattle.giop_sig.specs.declared.entries.TagEntry.{TagEntry}
use Rattle.giop_sig.specs.declared.entries.Entry.{Entry}
use Rattle.giop_sig.specs.declared.entries.Entry.TheVariants as entries
use Rattle.giop_sig.specs.declared.entries.EntryWithDepth.{EntryWithDepth}
use Rattle.giop_sig.specs.declared.entries.TypeCodeEntry.{TypeCodeEntry}
use Rattle.giop_sig.specs.HeaderTypes.{IsTable}
use Rattle.giop_sig.specs.Table.{Node, Table, prim, enumeration, text, octets, wide_text, wide_char, members, union, sequence, array, encapsulation, tagged, marked, any, announced, recursive, typecode}
use Rattle.giop_sig.specs.Trees.{AreFormed, depth_in, depth_of, has_wide_text}
use Rattle.giop_sig.specs.UnionCases.{part_view}

abbrev pub tag_view : (entry : TagEntry) → Node
tag_view t = tagged t.special (part_view t.tag) (part_view t.inner) (part_view t.other)

abbrev pub code_view : (entry : TypeCodeEntry) → Node
code_view c = typecode (Some c.wide.0) c.kind.0 c.cases

abbrev pub node_view : (entry : Entry) → Node
node_view (entries.Prim p) = prim p
node_view (entries.Enumeration names) = enumeration (map (λ n. n.items) names.items)
node_view (entries.Text bound) = text bound
node_view (entries.Octets bound) = octets bound
node_view entries.WideText = wide_text
node_view entries.WideChar = wide_char
node_view (entries.Members parts) = members (map part_view parts.items)
node_view (entries.Union switch cases otherwise) =
    union switch.0 cases otherwise
node_view (entries.Marked mark) = marked mark
node_view (entries.Any code) = any code.0
node_view (entries.TypeCode code) = code_view code
node_view (entries.Sequence bound element) = sequence bound element.0
node_view (entries.Array count element) = array count element.0
node_view (entries.Encapsulation held) = encapsulation held.0
node_view (entries.Tagged t) = tag_view t
node_view (entries.Announced index) = announced index
node_view (entries.Recursive bound element) = recursive bound element.0

-- an entry with at most as many parts or names as a shape can count
abbrev pub HasCountableParts : (entry : Entry) → Type 0
HasCountableParts (entries.Enumeration names) = length names.items ≤ 1024
HasCountableParts (entries.Members parts) = length parts.items ≤ 256
HasCountableParts (entries.Union switch cases otherwise) = length cases ≤ 256
HasCountableParts (entries.TypeCode code) = length code.cases ≤ 256
HasCountableParts entry = Unit {0}

abbrev pub nodes_view : (entries : List EntryWithDepth) → List Node
nodes_view entries = map (λ p. node_view p.entry) entries

-- a table as messages see it, and the entries of its types
pub record IsTableWithEntries (seen_table : Table) (type_entries : List EntryWithDepth)
    : Type 0 where
  pub table : IsTable seen_table
  pub entries : nodes_view type_entries ≡ seen_table.types

-- the depth of each entry's type, whether it has wide text, and the greatest depth, as they are
-- kept
pub record AreDepthsKept (type_entries : List EntryWithDepth) (kept_greatest_depth : ℕ)
    : Type 0 where
  pub types : AreFormed (nodes_view type_entries)
  pub each : (i : ℕ) → i < length type_entries
      → slice_index_or (map (λ p. p.depth) type_entries) i 0 ≡ depth_in (nodes_view type_entries) i
  pub wide : (i : ℕ) → i < length type_entries
      → slice_index_or (map (λ p. p.wide) type_entries) i false
      ≡ has_wide_text (nodes_view type_entries) i
  pub greatest : kept_greatest_depth ≡ depth_of (nodes_view type_entries)
