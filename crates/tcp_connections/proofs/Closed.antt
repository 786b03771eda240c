-- All streams have closed at the end of a capture: an id that stands for a live stream is that of a
-- flow that was told to have one.
use Rattle.std.proofs.Common.{◌≡◌, ℕ, ◌+◌, ◌<◌, Bool, true, false, cond, not, List, [], ◌∷◌, length, Option, Some, None, is_some, refl, sym, ◌∙◌, ap, subst, arith, inl, inr, true≢false}
use Rattle.std.proofs.lemmas.Bool.{and_left, cases_Bool, eqb-true}
use Rattle.tcp_segment.specs.Segments.{Segment}
use Rattle.tcp_flow.specs.declared.flow.FlowState.{FlowState}
use Rattle.tcp_flow.specs.Flow.{lives as has_stream, Event, Opens, Begins, Delivers, Closes, OfCapture, Reader}
use Rattle.tcp_streams.specs.Lives.{lives, lives_from, lives_behind, with_begun, most_ids}
use Rattle.tcp_connections.specs.Connections.{State, flow_at, has_live, gaps_from, all_closed, ended}
use Rattle.tcp_connections.specs.Gapless.{AreWhole}
use Rattle.tcp_connections.specs.Owned.{Standing, Unopened, Idle, Live, is_of, behind, standing}
use Rattle.tcp_connections.specs.State.{times}
use Rattle.tcp_connections.proofs.Closing.{all_quiet}
use Rattle.tcp_connections.proofs.FollowOwned.{is_there, due_in, owned_whole}
use Rattle.tcp_connections.proofs.Living.{times_ended, begun_own, begun_beside}
use Rattle.tcp_connections.proofs.OwnFlows.{standing_after, standing_of}
use Rattle.tcp_connections.proofs.Owners.{IsStandingOf, IsOwned, gapped_owns, closed_owns}
use Rattle.tcp_connections.proofs.Repeated.{gaps_keep, closes_keep}
use Rattle.tcp_connections.proofs.Settled.{IsSoundAmong, gapped_at}
use Rattle.tcp_connections.proofs.Sound.{some_within}

-- an id that stands for a live stream was told to have one
abbrev IsLiveTold : (id : ℕ) (standing : Standing) (live : List ℕ) → Type 0
IsLiveTold id s live = is_some (due_in s) ≡ true → 0 < times id live

-- an event of the id's flow
own_told : (id : ℕ) (s : Standing) (live : List ℕ) (e : Event) → id < most_ids →
    is_of id e ≡ true → IsLiveTold id s live → IsLiveTold id (behind s e) (lives_behind live e)
unfolding lives_behind
own_told id s live (Opens k flow) small own h = λ e. absurd (true≢false (sym e))
own_told id Unopened live (Begins k start) small own h = λ e. absurd (true≢false (sym e))
own_told id (Idle o) live (Begins k start) small own h = λ e.
    subst (λ (n : ℕ). 0 < times id (with_begun n live)) (sym (eqb-true k id own))
    (begun_own id live small)
own_told id (Live o n) live (Begins k start) small own h = λ e.
    subst (λ (n : ℕ). 0 < times id (with_begun n live)) (sym (eqb-true k id own))
    (begun_own id live small)
own_told id Unopened live (Delivers k xs) small own h = λ e. absurd (true≢false (sym e))
own_told id (Idle o) live (Delivers k xs) small own h = λ e. absurd (true≢false (sym e))
own_told id (Live o n) live (Delivers k xs) small own h = λ e. h refl
own_told id Unopened live (Closes k cause) small own h = λ e. absurd (true≢false (sym e))
own_told id (Idle o) live (Closes k cause) small own h = λ e. absurd (true≢false (sym e))
own_told id (Live o n) live (Closes k cause) small own h = λ e. absurd (true≢false (sym e))
own_told id s live (OfCapture event) small own h = absurd (true≢false (sym own))

-- how often a flow is among those with streams, after an event of another
beside_times : (id : ℕ) (live : List ℕ) (e : Event) → is_of id e ≡ false →
    times id (lives_behind live e) ≡ times id live
unfolding lives_behind
beside_times id live (Opens k flow) other = refl
beside_times id live (Begins k start) other = begun_beside k id live (λ o.
    true≢false (sym (is_there (Begins k start) id (ap Some (sym o))) ∙ other))
beside_times id live (Delivers k xs) other = refl
beside_times id live (Closes k cause) other = times_ended k id cause live (λ o.
    true≢false (sym (is_there (Closes k cause) id (ap Some (sym o))) ∙ other))
beside_times id live (OfCapture event) other = refl

event_told : (id : ℕ) (s : Standing) (live : List ℕ) (e : Event) (b : Bool) → is_of id e ≡ b →
    id < most_ids → IsLiveTold id s live →
    IsLiveTold id (cond b (behind s e) s) (lives_behind live e)
event_told id s live e true is small h = own_told id s live e small is h
event_told id s live e false is small h = λ d.
    subst (λ (n : ℕ). 0 < n) (sym (beside_times id live e is)) (h d)

all_told : (id : ℕ) (s : Standing) (live : List ℕ) (es : List Event) → id < most_ids →
    IsLiveTold id s live → IsLiveTold id (standing id s es) (lives_from live es)
unfolding standing lives_from
all_told id s live [] small h = h
all_told id s live (e ∷ es) small h =
    all_told id (cond (is_of id e) (behind s e) s) (lives_behind live e) es small
    (event_told id s live e (is_of id e) refl small h)

-- a number is due in what an id stands for if the stream of its flow is live
due_is : (segments : List Segment) (id : ℕ) (s : Standing) (flow : Option FlowState) →
    IsStandingOf segments id s flow → is_some (due_in s) ≡ has_live flow
unfolding has_live
due_is segments id Unopened None h = refl
due_is segments id (Idle o) None h = refl
due_is segments id (Live o n) None h = absurd (h o n refl)
due_is segments id s (Some f) h =
    ap (λ (x : Standing). is_some (due_in x)) h.is ∙ by (has_stream f.live f.waits)
  where
    by : (b : Bool) → is_some (due_in (standing_of h.endpoints (cond b (Some f.next) None))) ≡ b
    by true = refl
    by false = refl

live_told : (segments : List Segment) (w : State) (id : ℕ) → IsSoundAmong segments w →
    has_live (flow_at w id) ≡ true → 0 < times id (lives w.events)
unfolding has_live
live_told segments w id h live =
    all_told id Unopened [] w.events (within (flow_at w id) refl live)
    (λ e. absurd (true≢false (sym e)))
    (due_is segments id (standing_after w.events id) (flow_at w id) (h.owns.flows id) ∙ live)
  where
    within : (o : Option FlowState) → flow_at w id ≡ o → has_live o ≡ true → id < most_ids
    within None e l = absurd (true≢false (sym l))
    within (Some s) e l =
        omega (arith, some_within w.flows id s e, h.sound.flows, h.sound.most)

pub end_owns : (segments : List Segment) (F : Reader) (w : State) → IsOwned segments w →
    IsOwned segments (ended F w)
unfolding ended
end_owns segments F w h =
    let many : ℕ = length w.held + length (lives w.events) in
    let v : State = gaps_from F many 0 w in
    closes_keep (IsOwned segments) (closed_owns segments) (lives v.events) v
    (gaps_keep F (IsOwned segments) (gapped_owns segments F) many 0 w h)

-- no id stands for a live stream after the end
ended_quiet : (segments : List Segment) (F : Reader) (w : State) (id : ℕ) →
    IsSoundAmong segments w → due_in (standing_after (ended F w).events id) ≡ None
unfolding ended has_live
ended_quiet segments F w id h =
    let many : ℕ = length w.held + length (lives w.events) in
    let v : State = gaps_from F many 0 w in
    let u : State = all_closed (lives v.events) v in
    let t : IsSoundAmong segments v =
    gaps_keep F (IsSoundAmong segments) (gapped_at segments F) many 0 w h in
    let owns : IsOwned segments u = end_owns segments F w h.owns in
    none_due (due_in (standing_after u.events id))
    (due_is segments id (standing_after u.events id) (flow_at u id) (owns.flows id)
    ∙ all_quiet (λ o. has_live o ≡ false) refl
    (λ s e. and_left (is_some s.live) (not s.waits) (ap is_some e)) (lives v.events) v id
    (elim (cases_Bool (has_live (flow_at v id))) [
      | inl y ↦ inl (live_told segments v id t y)
      | inr z ↦ inr z
    ]))
  where
    none_due : (o : Option ℕ) → is_some o ≡ false → o ≡ None
    none_due None e = refl
    none_due (Some n) e = absurd (true≢false e)

pub whole_at_end : (segments : List Segment) (F : Reader) (w : State) → IsSoundAmong segments w →
    AreWhole segments (ended F w).events
whole_at_end segments F w h = owned_whole segments (ended F w).events
    (end_owns segments F w h.owns).come (λ id. ended_quiet segments F w id h)
