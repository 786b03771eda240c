use Rattle.std.proofs.Common.{refl, ap, ◌∙◌, arith}
use Rattle.giop_print.specs.Paths.{PathText}
use Rattle.giop_decode.proofs.Segments.{path_none, path_step}
use Rattle.giop_decode.proofs.current_path.path_to_innermost.Goals as goal

pub loop-frame-init : goal.loop-frame-init
loop-frame-init c = record {
  text = λ here. ap (λ (p : PathText). p.text) c.new-path.ensures ∙ path_none c.args.root;
  segments = omega (arith, ap (λ (p : PathText). p.segments) c.new-path.ensures);
}

pub loop-frame-preserved : goal.loop-frame-preserved
loop-frame-preserved c = record {
  text = λ here. path_step c.args.catalogue.now here c.args.root c.args.outer.now
      c.loop-frame.frame-index _ _ _ _ c.loop-frame-test.true refl
      (c.loop-frame.invariant.text here) (λ room. c.push_segment.ensures.text room here);
  segments = omega (arith, c.push_segment.ensures.segments, c.loop-frame.invariant.segments);
}
