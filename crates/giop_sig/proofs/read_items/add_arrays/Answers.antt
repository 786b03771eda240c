use Rattle.std.proofs.Common.{◌<◌, Some, subst}
use Rattle.std.proofs.lemmas.List.Elements.{All-pop}
use Rattle.giop_tokens.proofs.ReaderLaws.{ok_is}
use Rattle.giop_sig.specs.Table as nodes
use Rattle.giop_sig.specs.Scopes.{AddedType}
use Rattle.giop_sig.specs.ScopeViews.{IsKnown}
use Rattle.giop_sig.proofs.TypeTaken.{node_known}
use Rattle.giop_sig.proofs.LengthLaws.{arrays_on}
use Rattle.giop_sig.proofs.read_items.add_arrays.Goals as goal

pub loop-n-preserved : goal.loop-n-preserved
loop-n-preserved c =
    let before : AddedType = (c.loop-n.draft, c.loop-n.t.0) in
    let added = ok_is _ _ c.in_ok-t.ensures in
    record {
      so_far = arrays_on c.loop-n.lengths.items c.pop.new.self.items c.in-Some.n before
          (c.add.new.self, c.in_ok-t.t.0) _ c.in-Some.ensures.items added c.loop-n.invariant.so_far;
      known = subst (λ (q : AddedType). IsKnown (q.0).table.types q.1) added
          (node_known c.loop-n.draft (nodes.array c.in-Some.n c.loop-n.t.0) tt);
      some = (All-pop (λ n. 0 < n) c.loop-n.lengths.items c.pop.new.self.items
          (Some c.in-Some.n) c.in-Some.ensures.items c.loop-n.invariant.some).0;
    }
