use Rattle.std.proofs.Common.{◌∙◌, ap, subst, sym}
use Rattle.giop_sig.specs.Views.{HasCountableParts, node_view}
use Rattle.giop_sig.specs.declared.entries.EntryWithDepth.{EntryWithDepth}
use Rattle.giop_sig.proofs.Tables.{seen_node, seen_index, seen_sized}
use Rattle.giop_sig.proofs.seen.SeenCatalogue.entry.Goals as goal

pub bounds-self-inside-t : goal.bounds-self-inside-t
bounds-self-inside-t c =
    seen_index _ c.args.self.now c.self.inside.entries.now c.args.t.0 c.self.invariant
    c.self.view_is c.requires

pub returns-clause-node : goal.returns-clause-node
returns-clause-node c =
    ap (λ (p : EntryWithDepth). node_view p.entry) (sym c.index-self-t.is)
    ∙ seen_node _ c.args.self.now c.self.inside.entries.now c.args.t.0 c.index-self-t.result
    c.self.invariant c.self.view_is c.requires c.index-self-t.is

pub returns-clause-sized : goal.returns-clause-sized
returns-clause-sized c =
    subst (λ (p : EntryWithDepth). HasCountableParts p.entry) c.index-self-t.is
    (seen_sized _ c.args.self.now c.self.inside.entries.now c.args.t.0 c.index-self-t.result
    c.self.invariant c.self.view_is c.requires c.index-self-t.is)
