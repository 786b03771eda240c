use Rattle.std.proofs.Common.{◌≡◌, ◌<◌, ◌+◌, ◌-◌, ◌++◌, length, take, arith, refl, ◌∙◌, ap}
use Rattle.tcp_waiting.specs.Layout.{total_octets, octets_at}
use Rattle.tcp_waiting.proofs.Held.{ok_items}
use Rattle.tcp_waiting.proofs.Packing.{IsPacked, pack_start, next_of, next_ends, pack_step, pack_end, length_places, length_copied, counts_take}
use Rattle.tcp_waiting.proofs.Queries.{here}
use Rattle.tcp_waiting.proofs.pool.pack.Goals as goal

pub loop-index-init : goal.loop-index-init
loop-index-init c = (
  pack_start c.args.octets.now.items c.args.waiting.now.items c.clear.new.self.items
      c.clear.ensures.items,
  refl,
  omega arith,
)

pub overflow_add-here : goal.overflow_add-here
overflow_add-here c =
    let ends = next_ends _ _ _ _ _ c.loop-index.invariant.0 c.requires.within (omega arith)
    c.at-here.result c.at-here.ensures in
    omega (arith, ap length c.deref.ensures.value)

pub slice_bounds-extend_from_slice-end : goal.slice_bounds-extend_from_slice-end
slice_bounds-extend_from_slice-end c =
    let ends = next_ends _ _ _ _ _ c.loop-index.invariant.0 c.requires.within (omega arith)
    c.at-here.result c.at-here.ensures in
    omega (arith, ap length c.deref.ensures.value)

pub loop-index-smaller : goal.loop-index-smaller
loop-index-smaller c =
    omega (arith, length_places _ _ _ _ _ c.loop-index.invariant.0)

pub loop-index-preserved : goal.loop-index-preserved
loop-index-preserved c =
    let all = c.args.octets.now.items in
    let ws = c.args.waiting.now.items in
    let k = c.loop-index.index in
    let w = c.at-here.result in
    let p = c.loop-index.invariant.0 in
    let now = c.loop-index.spare.items in
    let h : k < length ws =
    omega (arith, length_places all ws k now c.loop-index.waiting.items p) in
    let same = next_of all ws k now c.loop-index.waiting.items p h w c.at-here.ensures in
    let long : length now ≡ total_octets (take k ws) =
    length_copied all ws k now c.loop-index.waiting.items c.requires.within p in
    let n = here all ws k w c.requires.within h same in
    let m : w.from + w.count - w.from ≡ w.count = omega arith in
    let here_from : c.len-from.result ≡ length now = omega arith in
    let copied : c.extend_from_slice-copied.new.self.items ≡ now ++ octets_at all w.from w.count =
    ok_items c.extend_from_slice-copied.result _ _ _
    (c.extend_from_slice-copied.ensures.succeeds (rw (m, c.deref.ensures.value) (omega (
      arith,
      counts_take k ws w h same,
    )))) c.extend_from_slice-copied.ensures.items ∙ rw (m, c.deref.ensures.value) refl in (
      rw (c.replace.ensures.items, copied, here_from) (pack_step all ws k now
          c.loop-index.waiting.items c.requires.within p h w c.at-here.ensures),
      c.replace.ensures.room ∙ c.loop-index.invariant.1,
      omega arith,
    )

packed : (c : goal.After-swap) → IsPacked c.args.octets.now.items c.args.waiting.now.items
    c.swap.new.x.items c.loop-index.waiting.items
packed c = rw c.swap.ensures.x_after (pack_end _ _ _ _ _ c.requires.within
    c.loop-index.invariant.0 (omega (arith, length_places _ _ _ _ _ c.loop-index.invariant.0)))

pub returns-clause-held : goal.returns-clause-held
returns-clause-held c = (packed c).held

pub returns-clause-within : goal.returns-clause-within
returns-clause-within c = (packed c).within

pub returns-clause-fits : goal.returns-clause-fits
returns-clause-fits c = (packed c).fits
