use Rattle.std.proofs.Common.{◌≡◌, suc, ◌-◌, length, arith}
use Rattle.giop_decode.specs.FrameChain.{FramesChain}
use Rattle.giop_decode.proofs.decoder.Decoder.parts_fit.Goals as goal

pub returns-then-frames_chain : goal.returns-then-frames_chain
returns-then-frames_chain c =
    let items = c.args.self.now.outer.items in
    let few = c.requires.few in
    let one : suc (23 - length items) ≡ 24 - length items = omega (arith, few) in
    let inner = rw (c.as_slice-then-frames_chain.ensures.value, one) at
    (c.leaf_fits.ensures (23 - length items)) in
    let chain : FramesChain c.args.catalogue.now 24 c.args.root.0 items c.args.leaf =
    rw c.as_slice.ensures.value at (c.frames_chain.ensures.0 c.if-frames_chain.true) in
    (λ fits. (chain, inner.0 fits), λ h. inner.1 h.1)
