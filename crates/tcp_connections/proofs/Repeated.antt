-- What each gap and each close keeps, all of them keep.
use Rattle.std.proofs.Common.{ℕ, zero, suc, Bool, true, false, nat_lt, List, [], ◌∷◌, length, get_or}
use Rattle.tcp_flow.specs.declared.flow.CloseCause.{CloseCause}
use Rattle.tcp_flow.specs.Flow.{Reader}
use Rattle.tcp_waiting.specs.Payload.{blocks_of}
use Rattle.tcp_streams.specs.Lives.{lives}
use Rattle.tcp_connections.specs.Connections.{State, flow_at, heaviest, relieved, gapped, gaps_at, is_holding, gaps_from, closed_at, end_cause, all_closed}

-- gaps in one flow
pub own_keep : (F : Reader) (P : State → Type 0) (id : ℕ) → ((w : State) → P w → P (gapped F w id))
    → (count : ℕ) (w : State) → P w → P (gaps_at F count w id)
unfolding gaps_at
own_keep F P id k zero w h = h
own_keep F P id k (suc count) w h =
    elim (is_holding w.held (flow_at w id)) as (λ (b : Bool). P (elim b [
      | true ↦ gaps_at F count (gapped F w id) id
      | false ↦ w
    ])) [ true ↦ own_keep F P id k count (gapped F w id) (k w h) | false ↦ h ]

-- gaps while the pool is short
pub relieved_keep : (F : Reader) (P : State → Type 0) →
    ((w : State) (id : ℕ) → P w → P (gapped F w id)) → (count : ℕ) (w : State) → P w →
    P (relieved F count w)
unfolding relieved
relieved_keep F P k zero w h = h
relieved_keep F P k (suc count) w h =
    elim (nat_lt w.blocks (blocks_of w.held)) as (λ (b : Bool). P (elim b [
      | true ↦ relieved F count (gapped F w (heaviest w))
      | false ↦ w
    ])) [
      | true ↦ relieved_keep F P k count (gapped F w (heaviest w)) (k w (heaviest w) h)
      | false ↦ h
    ]

-- gaps at the end of the capture
pub gaps_keep : (F : Reader) (P : State → Type 0) →
    ((w : State) (id : ℕ) → P w → P (gapped F w id)) → (count rank : ℕ) (w : State) → P w →
    P (gaps_from F count rank w)
unfolding gaps_from
gaps_keep F P k zero rank w h = h
gaps_keep F P k (suc count) rank w h =
    let id : ℕ = get_or (lives w.events) rank 0 in
    elim (nat_lt rank (length (lives w.events))) as (λ (b : Bool). P (elim b [
      | false ↦ w
      | true ↦ elim (is_holding w.held (flow_at w id)) [
        | true ↦ gaps_from F count rank (gapped F w id)
        | false ↦ gaps_from F count (suc rank) w
      ]
    ])) [
      | false ↦ h
      | true ↦
          elim (is_holding w.held (flow_at w id)) as (λ (b : Bool). P (elim b [
            | true ↦ gaps_from F count rank (gapped F w id)
            | false ↦ gaps_from F count (suc rank) w
          ])) [
            | true ↦ gaps_keep F P k count rank (gapped F w id) (k w id h)
            | false ↦ gaps_keep F P k count (suc rank) w h
          ]
    ]

pub closes_keep : (P : State → Type 0) →
    ((w : State) (id : ℕ) (cause : CloseCause) → P w → P (closed_at w id cause)) → (ids : List ℕ)
    (w : State) → P w → P (all_closed ids w)
unfolding all_closed
closes_keep P k [] w h = h
closes_keep P k (id ∷ ids) w h =
    let cause : CloseCause = end_cause (flow_at w id) in
    closes_keep P k ids (closed_at w id cause) (k w id cause h)
