-- Why no engine is loaded from the octets of a checkpoint file, and what a loaded engine holds.
use Rattle.std.proofs.Common.{◌≡◌, ◌≢◌, ℕ, List, Some, Result, Ok, Err, IfOk, IfErr, Bor, refl}
use Rattle.giop_checkpoint.specs.declared.fixed.Counts.{Counts}
use Rattle.giop_checkpoint.specs.declared.fault.LoadFault.{LoadFault}
use Rattle.giop_checkpoint.specs.declared.fault.LoadFault.TheVariants as loads
use Rattle.giop_checkpoint.specs.Refusals.{PassesUpToCounts}
use Rattle.giop_sig.specs.Table.{Table}
use Rattle.giop_message.specs.Signatures.{RequestTable}
use Rattle.giop_stream.specs.EngineView.{EngineView}
use Rattle.giop_stream.specs.EngineHolds.{Holds}
use Rattle.giop_stream.specs.Checkpoint.{counts_of, IsRefused, Spells}
use Rattle.giop_run.specs.Files.{KnownFiles, FileErrors, HoldsOfResumed, IsReadToOneOver, NoCheckpoint, checkpoint_most}
use Rattle.giop_run.specs.declared.fault.ProgramError.{ProgramError}
use Rattle.giop_run.specs.declared.fault.ProgramError.TheVariants as faults

-- the octets of the file are refused, so no engine is loaded
pub not_resumed : {A : Type 0} → (r : Result A ProgramError) (held : KnownFiles)
    (refuses : FileErrors)
    (name : Bor (List ℕ)) (counts : Counts) (octets : List ℕ)
    → IsReadToOneOver checkpoint_most (held name.now) octets
    → IfErr r (λ why. (fault : LoadFault) ×
    (fault ≡ loads.OutOfMemory → why ≡ faults.OutOfMemory)
    × (fault ≢ loads.OutOfMemory → why ≡ faults.Checkpoint name fault)
    × IsRefused counts octets fault)
    → IfErr r (NoCheckpoint held refuses (Some name.now) counts)
not_resumed (Ok engine) held refuses name counts octets front refused = tt
not_resumed (Err why) held refuses name counts octets front
    (loads.OutOfMemory, memory, is, refused) =
    rw (memory refl) tt
not_resumed (Err why) held refuses name counts octets front (loads.Magic, memory, is, refused) =
    rw (is (λ e. cc)) (refl, (octets, front, refused))
not_resumed (Err why) held refuses name counts octets front (loads.Version, memory, is, refused) =
    rw (is (λ e. cc)) (refl, (octets, front, refused))
not_resumed (Err why) held refuses name counts octets front (loads.Catalogue, memory, is, refused) =
    rw (is (λ e. cc)) (refl, (octets, front, refused))
not_resumed (Err why) held refuses name counts octets front (loads.Length, memory, is, refused) =
    rw (is (λ e. cc)) (refl, (octets, front, refused))
not_resumed (Err why) held refuses name counts octets front (loads.State, memory, is, refused) =
    rw (is (λ e. cc)) (refl, (octets, front, refused))

-- the octets of the file are loaded, so the engine holds what they are a checkpoint of
pub is_resumed : {E : Type 0} (r : Result EngineView E) (held : KnownFiles) (name : Bor (List ℕ))
    (most : ℕ) (C : Table) (l : RequestTable)
    (octets : List ℕ) → IsReadToOneOver checkpoint_most (held name.now) octets
    → IfOk r (λ e. (n : ℕ) (p : List ℕ) → Spells octets C l n p → (e.most ≡ n) × Holds e p)
    → IfOk r (λ e. PassesUpToCounts (counts_of C l) octets)
    → IfOk r (λ e. HoldsOfResumed held (Some name.now) most C l (λ n p. (e.most ≡ n) × Holds e p))
is_resumed (Ok e) held name most C l octets front again ours = (octets, front, ours, again)
is_resumed (Err why) held name most C l octets front again ours = tt
