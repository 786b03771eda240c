-- What connections have followed after one more event.
use Rattle.std.proofs.Common.{◌≡◌, ℕ, ◌<◌, ◌≤◌, ◌/◌, ◌%◌, ◌==◌, ◌⊎◌, true, false, List, [], ◌∷◌, ◌++◌, length, Option, Some, None, refl, sym, ap, ◌∙◌, arith, inl, inr, get_or, slice_get, Result, Ok, Err, IfOk, OnOk}
use Rattle.std.proofs.Math.ListN.{set}
use Rattle.std.proofs.lemmas.Bool.{eqb-true, eqb-false, eq-eqb, cases_lt, cases_eq, false≢true}
use Rattle.std.proofs.lemmas.List.{get_or-set_same, get_or-set_other}
use Rattle.std.proofs.lemmas.Option.{slice_get_within, slice_get_past, slice_get-get_or, slice_get_cases, slice_get_read}
use Rattle.std.specs.List.{All}
use Rattle.std.proofs.Math.ListN.{length-set}
use Rattle.tcp_flow.specs.Flow.{Event, Opens, Begins, Delivers, Closes, OfCapture, Passes}
use Rattle.tcp_flow.specs.declared.flow.Start.{Start}
use Rattle.tcp_flow.specs.declared.flow.CloseCause.{CloseCause}
use Rattle.tcp_segment.specs.declared.endpoint.Flow.{Flow}
use Rattle.giop_conversation.specs.Followed.{octets_after_event, octets_after_events, stream_octets_of, fault_at, last_fault_at, reader_faulted, reader_lacking, side_of, other, direction, HaveFollowed}
use Rattle.giop_conversation.specs.Directions.{DirectionView, HasRead, fault_place}
use Rattle.giop_stream.specs.Framing.{cut, lacking}
use Rattle.giop_conversation.specs.declared.conversation.Side.{Side}
use Rattle.giop_conversation.specs.declared.conversation.Side.TheVariants.{Even, Odd}
use Rattle.giop_conversation.specs.declared.conversation.Conversation.{Conversation}

octets_more : (flow : ℕ) (p : List ℕ) (events : List Event) (e : Event) →
    octets_after_events flow p (events ++ e ∷ []) ≡ octets_after_event flow (octets_after_events
    flow p events) e
unfolding octets_after_events
octets_more flow p [] e = refl
octets_more flow p (e' ∷ es) e = octets_more flow (octets_after_event flow p e') es e

last_more : (all events : List Event) (e : Event) →
    last_fault_at all (events ++ e ∷ []) ≡ fault_at all e
unfolding last_fault_at
last_more all [] e = refl
last_more all (e' ∷ []) e = refl
last_more all (e' ∷ e'' ∷ es) e = last_more all (e'' ∷ es) e

same_side : (g f : ℕ) → side_of g ≡ side_of f → g % 2 ≡ f % 2
same_side g f same = search (arith, eqb-true, eqb-false)

same_flow : (g f : ℕ) → g / 2 ≡ f / 2 → side_of g ≡ side_of f → g ≡ f
same_flow g f half same = search (arith, same_side)

by_side : (p q : Side) → (q ≡ p) ⊎ (q ≡ other p)
by_side Even Even = inl refl
by_side Even Odd = inr refl
by_side Odd Even = inr refl
by_side Odd Odd = inl refl

differ : (p : Side) → p ≡ other p → ⊥
differ Even is = cc
differ Odd is = cc

in_place : {X : Type 0} (xs : List X) (i : ℕ) (x y : X) → slice_get xs i ≡ Some x →
    slice_get (set xs i y) i ≡ Some y
in_place xs i x y is =
    let below : i < length xs = slice_get_within xs i x is in
    let l = length-set xs i y in
    let below' : i < length (set xs i y) = omega arith in
    slice_get-get_or (set xs i y) i y below' ∙ ap Some (get_or-set_same xs i y y below)

elsewhere : {X : Type 0} (xs : List X) (i j : ℕ) (y : X) → (j ≡ i → ⊥) →
    slice_get (set xs i y) j ≡ slice_get xs j
elsewhere xs i j y apart =
    elim (cases_lt j (length xs)) [
      | inl below ↦
          let l = length-set xs i y in
          let below' : j < length (set xs i y) = omega arith in
          slice_get-get_or (set xs i y) j y below'
          ∙ (ap Some (get_or-set_other xs i j y y apart) ∙ sym (slice_get-get_or xs j y below))
      | inr past ↦
          let l = length-set xs i y in
          let past' : length (set xs i y) ≤ j = omega arith in
          slice_get_past (set xs i y) j past' ∙ sym (slice_get_past xs j past)
    ]

-- the event changes no other flow's stream
abbrev pub IsOfFlow : (flow : ℕ) (e : Event) → Type 0
IsOfFlow flow e = (g : ℕ) (p : List ℕ) → (g ≡ flow → ⊥) → octets_after_event g p e ≡ p

-- if the direction of the event's flow follows it, all directions do
pub followed_on : (slots : List Conversation) (events : List Event) (e : Event) (flow : ℕ)
    (old new : Conversation) → HaveFollowed slots events → slice_get slots (flow / 2) ≡ Some old →
    IsOfFlow flow e →
    (HasRead (direction (side_of flow) old).engine (stream_octets_of flow events) →
    HasRead (direction (side_of flow) new).engine
    (octets_after_event flow (stream_octets_of flow events) e)) →
    (direction (other (side_of flow)) new).engine
    ≡ (direction (other (side_of flow)) old).engine →
    HaveFollowed (set slots (flow / 2) new) (events ++ e ∷ [])
followed_on slots events e flow old new follows here only reads stays g = search (
  arith,
  cases_eq,
  in_place,
  octets_more,
  by_side,
  same_flow,
  differ,
  elsewhere,
)

-- the same for an event that is of no flow's stream
pub followed_still : (slots : List Conversation) (events : List Event) (e : Event) →
    HaveFollowed slots events → ((g : ℕ) (p : List ℕ) → octets_after_event g p e ≡ p) →
    HaveFollowed slots (events ++ e ∷ [])
followed_still slots events e follows none g = search (arith, octets_more)

-- the same for an event in a flow whose connection has no slot
pub followed_beyond : (slots : List Conversation) (events : List Event) (e : Event) (flow : ℕ) →
    HaveFollowed slots events → slice_get slots (flow / 2) ≡ None → IsOfFlow flow e →
    HaveFollowed slots (events ++ e ∷ [])
followed_beyond slots events e flow follows beyond only g = search (arith, cases_eq, octets_more)

-- ---- the events

apart_false : (a b : ℕ) → (b ≡ a → ⊥) → (a == b) ≡ false
apart_false a b apart = search (arith, eqb-true)

pub of_begins : (flow : ℕ) (start : Start) → IsOfFlow flow (Begins flow start)
unfolding octets_after_event
of_begins flow start g p apart = search (arith, apart_false)

pub of_delivers : (flow : ℕ) (octets : List ℕ) → IsOfFlow flow (Delivers flow octets)
unfolding octets_after_event
of_delivers flow octets g p apart = search (arith, apart_false)

pub behind_begins : (flow : ℕ) (start : Start) (p : List ℕ) →
    octets_after_event flow p (Begins flow start) ≡ []
unfolding octets_after_event
behind_begins flow start p = search (arith, eq-eqb)

pub behind_delivers : (flow : ℕ) (octets p : List ℕ) →
    octets_after_event flow p (Delivers flow octets) ≡ p ++ octets
unfolding octets_after_event
behind_delivers flow octets p = search (arith, eq-eqb)

pub none_of_opens : (flow : ℕ) (endpoints : Flow) (g : ℕ) (p : List ℕ) →
    octets_after_event g p (Opens flow endpoints) ≡ p
unfolding octets_after_event
none_of_opens flow endpoints g p = refl

pub none_of_closes : (flow : ℕ) (cause : CloseCause) (g : ℕ) (p : List ℕ) →
    octets_after_event g p (Closes flow cause) ≡ p
unfolding octets_after_event
none_of_closes flow cause g p = refl

pub none_of_passes : (octets : List ℕ) (g : ℕ) (p : List ℕ) →
    octets_after_event g p (OfCapture (Passes octets)) ≡ p
unfolding octets_after_event
none_of_passes octets g p = refl

pub fault_of_delivers : (flow : ℕ) (octets : List ℕ) (events : List Event) →
    reader_faulted (events ++ Delivers flow octets ∷ [])
    ≡ fault_place (cut (stream_octets_of flow events ++ octets)).stop
fault_of_delivers flow octets events =
    last_more (events ++ Delivers flow octets ∷ []) events (Delivers flow octets)
    ∙ ap (λ (p : List ℕ). fault_place (cut p).stop)
    (octets_more flow [] events (Delivers flow octets)
    ∙ behind_delivers flow octets (stream_octets_of flow events))

-- ---- the start

-- neither direction has read any octet of a stream
pub record IsNew (c : Conversation) : Type 0 where
  pub even : HasRead c.even.engine []
  pub odd : HasRead c.odd.engine []

new_direction : (p : Side) (c : Conversation) → IsNew c → HasRead (direction p c).engine []
new_direction Even c new = new.even
new_direction Odd c new = new.odd

pub followed_none : (slots : List Conversation) → All IsNew slots → HaveFollowed slots []
unfolding octets_after_events
followed_none slots new flow = search (arith, slice_get_cases, slice_get, get_or, new_direction)

-- ---- each event, by what the connection does

-- the element at a place
pub element : {X : Type 0} (xs : List X) (n i : ℕ) (x : X) → n ≡ length xs → i < n →
    x ≡ get_or xs i x → slice_get xs i ≡ Some x
element xs n i x many below is = search (arith, slice_get_read)

pub no_element : {X : Type 0} (xs : List X) (n i : ℕ) → n ≡ length xs → (i < n → false ≡ true) →
    slice_get xs i ≡ None
no_element xs n i many none = search (arith, cases_lt, false≢true, slice_get_past)

same_engine : (p : Side) (old new : Conversation) → new.even.engine ≡ old.even.engine →
    new.odd.engine ≡ old.odd.engine → (direction p new).engine ≡ (direction p old).engine
same_engine Even old new even odd = even
same_engine Odd old new even odd = odd

-- the connection changes, but not what it has read
pub engines_stay : (slots : List Conversation) (events : List Event) (e : Event) (flow : ℕ)
    (old new : Conversation) → HaveFollowed slots events → slice_get slots (flow / 2) ≡ Some old →
    new.even.engine ≡ old.even.engine → new.odd.engine ≡ old.odd.engine →
    ((g : ℕ) (p : List ℕ) → octets_after_event g p e ≡ p) →
    HaveFollowed (set slots (flow / 2) new) (events ++ e ∷ [])
engines_stay slots events e flow old new follows here even odd none = search (
  arith,
  followed_on,
  same_engine,
)

pub stream_begun : (slots : List Conversation) (events : List Event) (flow : ℕ) (start : Start)
    (old new : Conversation) → HaveFollowed slots events → slice_get slots (flow / 2) ≡ Some old →
    HasRead (direction (side_of flow) new).engine [] →
    direction (other (side_of flow)) new ≡ direction (other (side_of flow)) old →
    HaveFollowed (set slots (flow / 2) new) (events ++ Begins flow start ∷ [])
stream_begun slots events flow start old new follows here read stays =
    followed_on slots events (Begins flow start) flow old new follows here (of_begins flow start)
    (λ h. rw (behind_begins flow start (stream_octets_of flow events)) read)
    (ap (λ (d : DirectionView). d.engine) stays)

octets_read : (slots : List Conversation) (events : List Event) (flow : ℕ) (octets : List ℕ)
    (old new : Conversation) → HaveFollowed slots events → slice_get slots (flow / 2) ≡ Some old →
    ((p : List ℕ) → HasRead (direction (side_of flow) old).engine p →
    HasRead (direction (side_of flow) new).engine (p ++ octets)) →
    direction (other (side_of flow)) new ≡ direction (other (side_of flow)) old →
    HaveFollowed (set slots (flow / 2) new) (events ++ Delivers flow octets ∷ [])
octets_read slots events flow octets old new follows here reads stays =
    followed_on slots events (Delivers flow octets) flow old new follows here
    (of_delivers flow octets)
    (λ h. rw (behind_delivers flow octets (stream_octets_of flow events))
    (reads (stream_octets_of flow events) h))
    (ap (λ (d : DirectionView). d.engine) stays)

at_fault : (slots : List Conversation) (events : List Event) (flow : ℕ) (octets : List ℕ)
    (old : Conversation) (at : Option ℕ) → HaveFollowed slots events →
    slice_get slots (flow / 2) ≡ Some old →
    ((p : List ℕ) → HasRead (direction (side_of flow) old).engine p →
    at ≡ fault_place (cut (p ++ octets)).stop) →
    at ≡ reader_faulted (events ++ Delivers flow octets ∷ [])
at_fault slots events flow octets old at follows here tells = search (arith, fault_of_delivers)

pub lacking_told : (slots : List Conversation) (events : List Event) (flow : ℕ)
    (old : Conversation) (count : Option ℕ) → HaveFollowed slots events →
    slice_get slots (flow / 2) ≡ Some old →
    ((p : List ℕ) → HasRead (direction (side_of flow) old).engine p → count ≡ lacking (cut p)) →
    count ≡ reader_lacking events flow
lacking_told slots events flow old count follows here tells =
    tells (stream_octets_of flow events) (rw here at (follows flow))

pub octets_told : {E : Type 0} (r : Result (Option ℕ) E) (slots : List Conversation)
    (events : List Event) (flow : ℕ) (octets : List ℕ) (old new : Conversation) →
    HaveFollowed slots events → slice_get slots (flow / 2) ≡ Some old →
    ((p : List ℕ) → HasRead (direction (side_of flow) old).engine p →
    OnOk r (HasRead (direction (side_of flow) new).engine (p ++ octets))) →
    ((p : List ℕ) → HasRead (direction (side_of flow) old).engine p →
    IfOk r (λ at. at ≡ fault_place (cut (p ++ octets)).stop)) →
    direction (other (side_of flow)) new ≡ direction (other (side_of flow)) old →
    IfOk r (λ at. HaveFollowed (set slots (flow / 2) new) (events ++ Delivers flow octets ∷ [])
    × (at ≡ reader_faulted (events ++ Delivers flow octets ∷ [])))
octets_told (Ok at) slots events flow octets old new follows here reads tells stays = (
  octets_read slots events flow octets old new follows here reads stays,
  at_fault slots events flow octets old at follows here tells,
)
octets_told (Err e) slots events flow octets old new follows here reads tells stays = tt

pub on_ok : {A E : Type 0} (r : Result A E) (P : Type 0) → P → OnOk r P
on_ok (Ok x) P h = h
on_ok (Err e) P h = tt
