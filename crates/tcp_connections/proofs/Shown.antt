-- What stays if the flows of a connection show what they hold before it is forgotten.
use Rattle.std.proofs.Common.{◌≡◌, ℕ, ◌<◌, ◌≤◌, true, List, [], ◌∷◌, length, Option, Some, None, refl, sym, ◌∙◌, ap, subst, arith, true≢false}
use Rattle.std.specs.List.{remove}
use Rattle.tcp_waiting.specs.Payload.{Payload, count_of}
use Rattle.tcp_flow.specs.declared.flow.CloseCause.{CloseCause}
use Rattle.tcp_flow.specs.declared.flow.FlowState.{FlowState}
use Rattle.tcp_flow.specs.Flow.{Reader, oldest_held}
use Rattle.tcp_flow.specs.State.{state}
use Rattle.tcp_flow.proofs.Room.{gap_fewer}
use Rattle.tcp_streams.specs.declared.pair.EndpointPair.{EndpointPair}
use Rattle.tcp_streams.specs.declared.pair.Side.{Side}
use Rattle.tcp_streams.specs.Pairs.{flow_id, opposite}
use Rattle.tcp_connections.specs.Connections.{State, flow_at, with_flow, gapped, gaps_at, is_holding, shown, forgotten}
use Rattle.tcp_connections.proofs.Cases.{gapped_some}
use Rattle.tcp_connections.proofs.Forgotten.{forgotten_known, forgotten_lasts}
use Rattle.tcp_connections.proofs.Kept.{HasSameConnections, kept_self, gapped_kept}
use Rattle.tcp_connections.proofs.Repeated.{own_keep}

pub shown_keeps : (F : Reader) (P : State → Type 0) →
    ((w : State) (id : ℕ) → P w → P (gapped F w id)) → (w : State) (slot : ℕ) (side : Side) →
    P w → P (shown F w slot side)
unfolding shown
shown_keeps F P k w slot side h =
    let own : ℕ = flow_id slot side in
    let other : ℕ = flow_id slot (opposite side) in
    let v : State = gaps_at F (length w.held) w own in
    own_keep F P other (λ u. k u other) (length v.held) v
    (own_keep F P own (λ u. k u own) (length w.held) w h)

-- each gap leaves less
pub gapped_fewer : (F : Reader) (w : State) (id : ℕ) → is_holding w.held (flow_at w id) ≡ true →
    length (gapped F w id).held < length w.held
unfolding is_holding with_flow oldest_held
gapped_fewer F w id e = by (flow_at w id) refl
  where
    by : (o : Option FlowState) → flow_at w id ≡ o → length (gapped F w id).held < length w.held
    by None a = absurd (true≢false (sym e ∙ ap (is_holding w.held) a))
    by (Some s) a = subst (λ (v : State). length v.held < length w.held)
        (sym (gapped_some F w id s a))
        (gap_fewer F (state s w.held w.events) (sym (ap (is_holding w.held) a) ∙ e))

pub none_counts : (id : ℕ) (ps : List Payload) → length ps ≤ 0 → count_of id ps ≡ 0
unfolding count_of
none_counts id [] l = refl
none_counts id (p ∷ ps) l = absurd (omega (arith, l))

-- the known connections stay
pub shown_kept : (F : Reader) (w : State) (slot : ℕ) (side : Side) →
    HasSameConnections w (shown F w slot side)
shown_kept F w slot side = shown_keeps F (HasSameConnections w)
    (λ v id h. gapped_kept F w v id h) w slot side
    (kept_self w)

-- the connection is forgotten afterwards
pub shown_known : (F : Reader) (w : State) (index slot : ℕ) (side other : Side)
    (cause : CloseCause) → (forgotten (shown F w slot side) index other cause).known
    ≡ remove w.known index
shown_known F w index slot side other cause =
    forgotten_known (shown F w slot side) index other cause
    ∙ ap (λ (ps : List EndpointPair). remove ps index) (shown_kept F w slot side).known

pub shown_lasts : (F : Reader) (w : State) (index slot : ℕ) (side other : Side)
    (cause : CloseCause) → (forgotten (shown F w slot side) index other cause).lasts ≡ w.lasts
shown_lasts F w index slot side other cause =
    forgotten_lasts (shown F w slot side) index other cause ∙ (shown_kept F w slot side).lasts
