-- The order in which payloads come makes no difference, if they agree on their octets and nothing
-- is given up (meaning).
use Rattle.std.specs.Prelude.{◌≡◌, ◌⊎◌, ℕ, ◌+◌, ◌<◌, ◌≤◌, ◌^◌, cond, nat_eq, List, [], ◌∷◌, ◌++◌, length, take, drop, is_some, true, false}
use Rattle.std.specs.List.{AllByRecursion}
use Rattle.tcp_waiting.specs.Numbers.{onward}
use Rattle.tcp_flow.specs.Flow.{Flow, Reader, Event, Opens, Begins, Delivers, Closes, OfCapture, Arrival, Octets, End, Hears, oldest_held, lives, after}

-- the octets that an event delivers to a flow
abbrev pub octets_in : (flow_id : ℕ) (event : Event) → List ℕ
octets_in id (Opens flow endpoints) = []
octets_in id (Begins flow start) = []
octets_in id (Delivers flow octets) = cond (nat_eq flow id) octets []
octets_in id (Closes flow cause) = []
octets_in id (OfCapture event) = []

-- the octets that all events deliver to a flow, one after another
unfoldable pub octets_of : (flow_id : ℕ) (events : List Event) → List ℕ
octets_of id [] = []
octets_of id (e ∷ es) = octets_in id e ++ octets_of id es

-- how many streams of a flow an event closes
abbrev pub closes_in : (flow_id : ℕ) (event : Event) → ℕ
closes_in id (Opens flow endpoints) = 0
closes_in id (Begins flow start) = 0
closes_in id (Delivers flow octets) = 0
closes_in id (Closes flow cause) = cond (nat_eq flow id) 1 0
closes_in id (OfCapture event) = 0

-- how many streams of a flow all events close
unfoldable pub closes_of : (flow_id : ℕ) (events : List Event) → ℕ
closes_of id [] = 0
closes_of id (e ∷ es) = closes_in id e + closes_of id es

-- octets at a number are those that a content, which begins at number `content_first_number`, has
-- from a place on
pub record Agrees (content_first_number : ℕ) (content : List ℕ)
    (index_in_content octets_first_number : ℕ) (octets : List ℕ) : Type 0 where
  pub number_is : octets_first_number ≡ onward content_first_number index_in_content
  pub within : index_in_content + length octets ≤ length content
  pub octets_are : octets ≡ take (length octets) (drop index_in_content content)

-- what comes is a payload of the content
unfoldable pub IsOfContent : (content_first_number : ℕ) (content : List ℕ) (arrival : Arrival) →
    Type 0
IsOfContent start content (Octets n octets arrival) =
    (place : ℕ) × Agrees start content place n octets
IsOfContent start content (End n) = ⊥
IsOfContent start content (Hears h) = ⊥

-- this is one of the arrivals
unfoldable pub StandsIn : (arrivals : List Arrival) (arrival : Arrival) → Type 0
StandsIn [] c = ⊥
StandsIn (d ∷ ds) c = (c ≡ d) ⊎ StandsIn ds c

-- a live stream to which the first `octets_delivered` octets of a content have come; nothing waits
pub record IsAt (content_first_number octets_delivered : ℕ) (content : List ℕ) (flow : Flow) :
    Type 0 where
  pub live : lives flow.live flow.waits ≡ true
  pub next : flow.next ≡ onward content_first_number octets_delivered
  pub within : octets_delivered ≤ length content
  pub waits : is_some (oldest_held flow) ≡ false

-- If the same payloads come in two orders, and no stream closes, then the same is delivered. The
-- content is shorter than half of all sequence numbers, so that none of its octets is taken for an
-- old one.
abbrev pub OrderMakesNoDifference : Type 0
OrderMakesNoDifference =
    (F : Reader) (f : Flow) (start at : ℕ) (content : List ℕ) (ps qs : List Arrival)
    → length content < 2 ^ 31 → IsAt start at content f
    → AllByRecursion (IsOfContent start content) ps
    → AllByRecursion (StandsIn qs) ps → AllByRecursion (StandsIn ps) qs
    → closes_of f.id (after F f ps).events ≡ closes_of f.id f.events
    → closes_of f.id (after F f qs).events ≡ closes_of f.id f.events
    → octets_of f.id (after F f ps).events ≡ octets_of f.id (after F f qs).events
