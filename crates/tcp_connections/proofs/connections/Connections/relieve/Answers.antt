use Rattle.std.proofs.Common.{◌≡◌, ◌<◌, ◌≤◌, ◌-◌, ℕ, List, true, get_or, sym, ap, subst, ◌∙◌, arith}
use Rattle.tcp_waiting.specs.Payload.{blocks_of}
use Rattle.tcp_connections.specs.Connections.{State, flow_at, is_holding, gapped, heaviest, heaviest_from, relieved}
use Rattle.tcp_connections.specs.State.{IsStateOver}
use Rattle.tcp_connections.proofs.Cases.{relieved_none, relieved_enough, relieved_gap}
use Rattle.tcp_connections.proofs.Heaviest.{heaviest_holds, none_blocks}
use Rattle.tcp_connections.proofs.Shown.{gapped_fewer}
use Rattle.tcp_connections.proofs.States.{moved, enough}
use Rattle.tcp_connections.proofs.connections.Connections.relieve.Goals as goal

pub returns-then-blocks_in_use-blocks-clause-does :
    goal.returns-then-blocks_in_use-blocks-clause-does
returns-then-blocks_in_use-blocks-clause-does g c w h =
    let i = c.loop-left.invariant w h in
    let fits : blocks_of i.0.held ≤ i.0.blocks = omega (
      arith,
      c.if-blocks_in_use-blocks.true,
      c.blocks_in_use.ensures,
      c.blocks-in-loop-left.ensures,
      ap (λ (u : State). blocks_of u.held) i.1.0.same,
      ap (λ (u : State). u.blocks) i.1.0.same,
    ) in
    moved _ _ _ _ _
    (sym i.1.1.0 ∙ relieved_enough g.L.Listener.reader c.loop-left.left i.0 fits)
    (enough _ _ _ _ i.1.0 (omega (arith, fits)))

pub returns-clause-does : goal.returns-clause-does
returns-clause-does g c w h =
    let i = c.loop-left.invariant w h in
    let none = none_blocks i.0.held (omega (arith, i.1.1.1, c.loop-left-test.false)) in
    moved _ _ _ _ _
    (sym i.1.1.0 ∙ relieved_none g.L.Listener.reader c.loop-left.left i.0 c.loop-left-test.false)
    (enough _ _ _ _ i.1.0 (omega (arith, none)))

pub loop-left-preserved : goal.loop-left-preserved
loop-left-preserved g c w h =
    let F = g.L.Listener.reader in
    let i = c.loop-left.invariant w h in
    let v = i.0 in
    let short : v.blocks < blocks_of v.held = omega (
      arith,
      c.if-blocks_in_use-blocks.false,
      c.blocks_in_use.ensures,
      c.blocks-in-loop-left.ensures,
      ap (λ (u : State). blocks_of u.held) i.1.0.same,
      ap (λ (u : State). u.blocks) i.1.0.same,
    ) in
    let ids : List ℕ = c.loop-left.to.live.items in
    let id : c.find_heaviest-id.result ≡ heaviest v =
    c.find_heaviest-id.ensures.is
    ∙ ap (λ (u : State). heaviest_from u.held (get_or ids 0 0) ids) i.1.0.same
    ∙ ap (λ (xs : List ℕ). heaviest_from v.held (get_or xs 0 0) xs) i.1.0.live in
    let holds : is_holding v.held (flow_at v c.find_heaviest-id.result) ≡ true =
    subst (λ (n : ℕ). is_holding v.held (flow_at v n) ≡ true) (sym id)
    (heaviest_holds v i.1.0.sound i.1.0.told short) in
    let packed : IsStateOver 256 (g.L.Listener.observed c.find_heaviest-id.new.to.listener)
    c.find_heaviest-id.new.to.live.items c.loop-left.self v =
    rw (c.find_heaviest-id.ensures.listener, c.find_heaviest-id.ensures.live) i.1.0 in (
      gapped F v c.find_heaviest-id.result,
      (
        c.in_ok-make_gap.ensures.does 256 v packed,
        (
          ap (λ (n : ℕ). relieved F (c.loop-left.left - 1) (gapped F v n)) id
              ∙ sym (relieved_gap F c.loop-left.left v c.loop-left-test.true short) ∙ i.1.1.0,
          omega (arith, i.1.1.1, gapped_fewer F v c.find_heaviest-id.result holds),
        ),
      ),
    )
