use Rattle.std.proofs.Common.{◌≡◌, ◌-◌, map, []}
use Rattle.giop_sig.specs.Repeats.{in_steps}
use Rattle.giop_sig.specs.ItemReading.{member_step, too_many_members}
use Rattle.giop_sig.specs.UnionCases.{part_view}
use Rattle.giop_sig.proofs.read_items.members_at.Given as goal

abbrev pub invariant-loop : goal.invariant-loop
invariant-loop l =
    in_steps member_step too_many_members (257 - l.counter)
    (l.draft, map (λ n. n.now) l.seen.items, map part_view l.parts.items, l.rest)
    ≡ in_steps member_step too_many_members 257 (l.fn.draft, [], [], l.text)
