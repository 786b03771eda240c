-- What octets add to the text of a stream, piece by piece; and what the status of an engine says
-- about the stream.
use Rattle.std.proofs.Common.{◌≡◌, List, ℕ, [], ◌++◌, Option, Some, None, refl, append-nil, IsSome}
use Rattle.std.proofs.Math.Seq.{drop-length}
use Rattle.giop_print.specs.Output.{OutLog, Wrote}
use Rattle.giop_stream.specs.Rules.{Rules}
use Rattle.giop_stream.specs.Framing.{cut, fault_of}
use Rattle.giop_stream.specs.Stream.{text}
use Rattle.giop_stream.specs.EngineHolds.{added, status_of, rules_of}
use Rattle.giop_checkpoint.specs.declared.fault.StreamFault.{StreamFault}
use Rattle.giop_stream.specs.declared.status.Status.TheVariants.{Running, Stopped}
use Rattle.giop_stream.specs.EngineView.{EngineView}
use Rattle.giop_stream.proofs.StreamLaws.{added_both}
use Rattle.giop_print.proofs.Writing.{wrote-nil}
use Rattle.giop_run.specs.Running.{HasStreamFault}
use Rattle.giop_run.specs.RunSteps.{HasNoStreamFault}

pub added-nil : (R : Rules) (p : List ℕ) → added R p [] ≡ []
unfolding added
added-nil R p = rw append-nil (drop-length (text R p))

-- what octets add to the text of a stream is what the first of them add, and then what the others
-- add
abbrev pub AddsUp : Rules → Type 0
AddsUp R = (p s t : List ℕ) → added R p (s ++ t) ≡ added R p s ++ added R (p ++ s) t

pub adds_up : (e : EngineView) → AddsUp (rules_of e)
adds_up e p s t = added_both e.table e.request_table e.most p s t

-- if nothing was read, nothing is due
pub wrote-none : (R : Rules) (a : OutLog) (p : List ℕ) → Wrote a a (added R p [])
wrote-none R a p = rw added-nil (wrote-nil a)

running_fault : (o : Option (ℕ × StreamFault)) → Running ≡ status_of (fault_of o) → o ≡ None
running_fault None e = refl
running_fault (Some o) e = cc

stopped_fault : (o : Option (ℕ × StreamFault)) (f : _) → Stopped f ≡ status_of (fault_of o) →
    IsSome o
stopped_fault None f e = cc
stopped_fault (Some o) f e = refl

-- an engine with status Running holds a stream without a fault
pub is_running : (p : List ℕ) → Running ≡ status_of (fault_of (cut p).stop) → HasNoStreamFault p
is_running p e = running_fault (cut p).stop e

-- an engine with status Stopped holds a stream with a fault
pub is_stopped : (p : List ℕ) (f : _) → Stopped f ≡ status_of (fault_of (cut p).stop) →
    HasStreamFault p
is_stopped p f e = stopped_fault (cut p).stop f e

not_both : (o : Option (ℕ × StreamFault)) → o ≡ None → IsSome o → ⊥
not_both None n s = cc
not_both (Some o) n s = cc

-- no stream is both running and stopped
pub runs_or_stops : (p : List ℕ) → HasNoStreamFault p → HasStreamFault p → ⊥
runs_or_stops p r s = not_both (cut p).stop r s
