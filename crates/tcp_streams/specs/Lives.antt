-- Which streams live, or were closed by a gap or by the end of the capture, in the order in which
-- they began (meaning).
use Rattle.std.specs.Prelude.{ℕ, suc, ◌<◌, cond, eqb, nat_eq, nat_lt, List, [], ◌∷◌, ◌++◌, Option, Some, None}
use Rattle.std.specs.Option.{option_map}
use Rattle.std.specs.List.{AllByRecursion, IsDistinct}
use Rattle.tcp_streams.specs.declared.pair.Side.{Side}
use Rattle.tcp_streams.specs.declared.pair.Side.TheVariants.{FromLesser, FromGreater}
use Rattle.tcp_streams.specs.Pairs.{flow_id}
use Rattle.tcp_flow.specs.declared.flow.CloseCause.{CloseCause}
use Rattle.tcp_flow.specs.declared.flow.CloseCause.TheVariants.{Fin, Reset, Syn, Fault, Gap, Room, End}
use Rattle.tcp_flow.specs.Flow.{Event, Opens, Begins, Delivers, Closes, OfCapture}

-- the index of the first element that is this number
unfoldable pub index_of : (number : ℕ) (numbers : List ℕ) → Option ℕ
index_of number [] = None
index_of number (x ∷ xs) = cond (nat_eq x number) (Some 0) (option_map suc (index_of number xs))

-- the list without the first element that is this number
unfoldable pub without : (number : ℕ) (numbers : List ℕ) → List ℕ
without number [] = []
without number (x ∷ xs) = cond (nat_eq x number) xs (x ∷ without number xs)

-- the ids of flows are below this: two for each of 65,536 connections
abbrev pub most_ids : ℕ
most_ids = 131072

-- each number is the id of a flow, and no number comes twice
abbrev pub AreIds : (ids : List ℕ) → Type 0
AreIds ids = AllByRecursion (λ id. id < most_ids) ids × IsDistinct eqb ids

-- the flows of the streams after a stream has begun: its flow comes last, and nowhere else. A
-- number that is no id changes nothing
unfoldable pub with_begun : (begun_flow_id : ℕ) (live_flow_ids : List ℕ) → List ℕ
with_begun id live = cond (nat_lt id most_ids) (without id live ++ id ∷ []) live

-- the flows of the streams after a stream was closed. If a gap closed it, its flow keeps its place,
-- since the flow may wait for its next stream and hold octets of it. If the end of the capture
-- closed it, its flow keeps its place too, so that the order stays while all streams are closed
abbrev pub with_closed : (closed_flow_id : ℕ) (close_cause : CloseCause) (live_flow_ids : List ℕ) →
    List ℕ
with_closed id Gap live = live
with_closed id Fin live = without id live
with_closed id Reset live = without id live
with_closed id Syn live = without id live
with_closed id Fault live = without id live
with_closed id Room live = without id live
with_closed id End live = live

-- the flows of the streams after one more event
unfoldable pub lives_behind : (flow_ids_before : List ℕ) (event : Event) → List ℕ
lives_behind live (Opens id endpoints) = live
lives_behind live (Begins id start) = with_begun id live
lives_behind live (Delivers id octets) = live
lives_behind live (Closes id cause) = with_closed id cause live
lives_behind live (OfCapture event) = live

-- the flows of the streams after all events, if these were the flows before them
unfoldable pub lives_from : (flow_ids_before : List ℕ) (events : List Event) → List ℕ
lives_from live [] = live
lives_from live (e ∷ es) = lives_from (lives_behind live e) es

-- the flows whose last streams live after all events, or were closed by a gap or by the end of the
-- capture, in the order in which these streams began; this is the order of their numbers
abbrev pub lives : (events : List Event) → List ℕ
lives events = lives_from [] events

-- the side of the first of these flows that belongs to this slot; the side of the lesser endpoint
-- if none does
unfoldable pub elder_side : (slot : ℕ) (flow_ids_in_order : List ℕ) → Side
elder_side slot [] = FromLesser
elder_side slot (id ∷ ids) =
    cond (nat_eq id (flow_id slot FromLesser)) FromLesser
    (cond (nat_eq id (flow_id slot FromGreater)) FromGreater (elder_side slot ids))
