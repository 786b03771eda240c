-- Readers of streams that come to a fault by a rule that is easily told (meaning).
use Rattle.std.specs.Prelude.{ℕ, cond, nat_eq, List, [], ◌∷◌, Option, Some, None}
use Rattle.tcp_flow.specs.Flow.{Event, Opens, Begins, Delivers, Closes, OfCapture, Reader}

-- a reader is at a fault at its 13th octet if what it is given begins with the octet 255
abbrev pub fault_in : (octets : List ℕ) → Option ℕ
fault_in [] = None
fault_in (x ∷ xs) = cond (nat_eq x 255) (Some 13) None

-- the fault that one event brings
abbrev pub fault_of : Event → Option ℕ
fault_of (Opens id flow) = None
fault_of (Begins id start) = None
fault_of (Delivers id octets) = fault_in octets
fault_of (Closes id cause) = None
fault_of (OfCapture event) = None

-- the fault that the last of all events brings
unfoldable pub last_fault : (events : List Event) → Option ℕ
last_fault [] = None
last_fault (e ∷ []) = fault_of e
last_fault (e ∷ d ∷ es) = last_fault (d ∷ es)

-- readers with these faults, none of which knows where a message ends
abbrev pub plain_reader : Reader
plain_reader = record { faulted = last_fault; lacking = λ events id. None }
