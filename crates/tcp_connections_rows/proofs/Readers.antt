-- The last event says whether a reader is at a fault.
use Rattle.std.proofs.Common.{◌≡◌, List, [], ◌∷◌, ◌++◌, refl}
use Rattle.tcp_flow.specs.Flow.{Event}
use Rattle.tcp_connections_rows.specs.Readers.{fault_of, last_fault}

pub last_more : (es : List Event) (e : Event) → last_fault (es ++ e ∷ []) ≡ fault_of e
unfolding last_fault
last_more [] e = refl
last_more (d ∷ []) e = refl
last_more (d ∷ c ∷ es) e = last_more (c ∷ es) e
