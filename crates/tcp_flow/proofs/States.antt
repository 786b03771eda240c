-- What is shown of the code's state is shown of the flow.
use Rattle.std.proofs.Common.{arith, ◌≡◌, ◌<◌, ◌^◌, [], ℕ, List, Bool, true, false, cond, is_some, Option, Some, None, refl, sym}
use Rattle.std.specs.Prelude.{Result, OnOk}
use Rattle.std.proofs.lemmas.Result.{on_ok_weaker}
use Rattle.tcp_waiting.specs.Payload.{Payload}
use Rattle.tcp_flow.specs.declared.flow.CloseCause.TheVariants.{Fault}
use Rattle.tcp_flow.specs.declared.flow.FlowState.{FlowState}
use Rattle.tcp_flow.specs.Flow.{Flow, Event, Reader, stream_closed, closed_at_fault, number_after_octet, delivered_unchecked, delivered, without_stale_fin, closed_for_gap, oldest_held, held_by_others}
use Rattle.tcp_flow.specs.Laws.{HoldsOnlyToCome}
use Rattle.tcp_flow.specs.State.{state, IsState}

-- a claim about a flow follows from the claim about the code's state of it
pub by_state : (P : Flow → Type 0) (O : List Event → Type 0) (s : FlowState) (held : List Payload)
    (f : Flow) → IsState O s held f
    → ((events : List Event) → O events → P (state s held events)) → P f
by_state P O s held f h k = search (arith)

-- a call that went on with a flow went on with an equal one
pub on_ok_equal : {T E : Type 0} (r : Result T E) (O : List Event → Type 0) (s : FlowState)
    (held : List Payload) (f g : Flow) → f ≡ g → OnOk r (IsState O s held f) →
    OnOk r (IsState O s held g)
on_ok_equal r O s held f g e t = search (arith, on_ok_weaker)

pub delivered_on : (F : Reader) (f : Flow) (p : Payload) →
    F.faulted (delivered_unchecked f p).events ≡ None →
    delivered F f p ≡ delivered_unchecked f p
unfolding delivered closed_at_fault
delivered_on F f p e = rw e refl

pub delivered_fault : (F : Reader) (f : Flow) (p : Payload) (at : ℕ) →
    F.faulted (delivered_unchecked f p).events ≡ Some at
    → delivered F f p ≡ stream_closed (delivered_unchecked f p)
    (number_after_octet (delivered_unchecked f p) at) Fault
unfolding delivered closed_at_fault
delivered_fault F f p at e = rw e refl

-- a FIN is kept or dropped
pub with_fin : (O : List Event → Type 0) (s : FlowState) (held : List Payload) (f : Flow)
    (n : Option ℕ) → IsState O s held f
    → IsState O (record s { fin = n }) held (record f { fin = n })
with_fin O s held f n h = search (arith)

same_events : (b : Bool) (f g : Flow) → f.events ≡ g.events → (cond b f g).events ≡ f.events
same_events true f g e = refl
same_events false f g e = sym e

stale_events : (f : Flow) → (without_stale_fin f).events ≡ f.events
unfolding without_stale_fin
stale_events f = search (arith, same_events, is_some)

pub stale_state : (O : List Event → Type 0) (s s' : FlowState) (held : List Payload) (f : Flow) →
    IsState O s held f
    → ((ps : List Payload) (events : List Event) →
    state s' ps events ≡ without_stale_fin (state s ps events)) →
    IsState O s' held (without_stale_fin f)
stale_state O s s' held f h k = search (arith, by_state, stale_events)

-- whether a flow is settled doesn't depend on what has happened
pub settled_whatever : (s : FlowState) (held : List Payload) (before behind : List Event) →
    HoldsOnlyToCome (state s held before) → HoldsOnlyToCome (state s held behind)
unfolding oldest_held
settled_whatever s held before behind t = search (arith)

-- if the flow is settled, so is the code's state
pub settled_state : (O : List Event → Type 0) (s : FlowState) (held : List Payload) (f : Flow) →
    IsState O s held f → HoldsOnlyToCome f → HoldsOnlyToCome (state s held [])
settled_state O s held f h t = search (arith, settled_whatever)

pub settled_flow : (O : List Event → Type 0) (s : FlowState) (held : List Payload) (f : Flow) →
    IsState O s held f → HoldsOnlyToCome (state s held []) → HoldsOnlyToCome f
settled_flow O s held f h t = search (arith, settled_whatever)

pub held_of : (O : List Event → Type 0) (s : FlowState) (held : List Payload) (f : Flow) →
    IsState O s held f → held ≡ f.held
held_of O s held f h = search (arith)

pub next_of : (O : List Event → Type 0) (s : FlowState) (held : List Payload) (f : Flow) →
    IsState O s held f → s.next < 2 ^ 32 → f.next < 2 ^ 32
next_of O s held f h l = search (arith)

-- what others hold is the same in the code's states if it is the same in the flows
pub others_of : (O O' : List Event → Type 0) (s s' : FlowState) (held held' : List Payload)
    (f g : Flow) → IsState O s held f → IsState O' s' held' g
    → held_by_others f.id g.held ≡ held_by_others f.id f.held →
    held_by_others s.id held' ≡ held_by_others s.id held
others_of O O' s s' held held' f g h n e = search (arith, held_of)

-- the same if the numbers of octets that are passed over are equal
pub parted_on : (O : List Event → Type 0) (s : FlowState) (held : List Payload) (f : Flow)
    (passed over : Option ℕ) → passed ≡ over → IsState O s held (closed_for_gap f passed) →
    IsState O s held (closed_for_gap f over)
parted_on O s held f passed over e h = search (arith)
