-- What the program did, by what the steps up to the run did, and by what the save after it did.
use Rattle.std.proofs.Common.{◌≡◌, ℕ, List, refl, Option, Some, None, Result, Ok, Err, IfSome, IfErr, OnOk, ◌⊎◌, inl, inr}
use Rattle.giop_sig.specs.Table.{Table}
use Rattle.giop_message.specs.Signatures.{RequestTable}
use Rattle.giop_stream.specs.Checkpoint.{counts_of}
use Rattle.giop_stream.specs.EngineHolds.{IsRequestTableOf}
use Rattle.giop_stream.specs.declared.status.Totals.{Totals}
use Rattle.giop_run.specs.Console.{Dumped, run_result}
use Rattle.giop_run.specs.Files.{KnownFiles, FileErrors, Asked, HoldsOfResumed, ReadsBy, StepFailed, NoCheckpoint, NoStream, stream_octets, setup_by}
use Rattle.giop_run.specs.Saving.{Saved}
use Rattle.giop_run.specs.Performing.{Task, Performed, FailedBy, HasPerformed, HasSaved}
use Rattle.giop_run.specs.declared.running.Report.{Report}
use Rattle.giop_run.specs.declared.fault.RunFault.{RunFault}
use Rattle.giop_run.specs.declared.fault.RunFault.TheVariants as fault
use Rattle.giop_run.specs.declared.fault.ProgramError.{ProgramError}
use Rattle.giop_run.specs.declared.fault.ProgramError.TheVariants as faults

-- no step before the run fails with these two faults
not_unwritable : (held : KnownFiles) (refuses : FileErrors) (asked : Asked) (name : _) →
    StepFailed held refuses asked (faults.Unwritable name) → ⊥
not_unwritable held refuses asked name (inl q) = q
not_unwritable held refuses asked name (inr (inl (C, c, q))) = q
not_unwritable held refuses asked name (inr (inr (C, l, r, inl q))) = q
not_unwritable held refuses asked name (inr (inr (C, l, r, inr q))) = q

not_words : (held : KnownFiles) (refuses : FileErrors) (asked : Asked) →
    StepFailed held refuses asked faults.Words → ⊥
not_words held refuses asked (inl q) = q
not_words held refuses asked (inr (inl (C, c, q))) = q
not_words held refuses asked (inr (inr (C, l, r, inl q))) = q
not_words held refuses asked (inr (inr (C, l, r, inr q))) = q

failed_by : (t : Task) (why : ProgramError) (x y : _)
    → IfSome (run_result (Err why)) (λ ran. Performed t ran x y)
    → (run_result (Err why) ≡ None → StepFailed t.held t.refuses t.asked why)
    → (run_result (Err why) ≡ None → y ≡ x)
    → (run_result (Err why) ≡ Some (Err fault.Failed) → ⊥)
    → FailedBy t why x y
failed_by t (faults.Run fault.Failed) x y d r u s = absurd (s refl)
failed_by t (faults.Run fault.Read) x y d r u s = record { run = d }
failed_by t (faults.Run fault.Turns) x y d r u s = record { run = d }
failed_by t (faults.Run fault.Out) x y d r u s = record { run = d }
failed_by t (faults.Unwritable name) x y d r u s =
    absurd (not_unwritable t.held t.refuses t.asked name (r refl))
failed_by t faults.Words x y d r u s =
    absurd (not_words t.held t.refuses t.asked (r refl))
failed_by t (faults.Signatures name why look) x y d r u s =
    record { refused = r refl; unwritten = u refl }
failed_by t (faults.Requests name why) x y d r u s = record { refused = r refl; unwritten = u refl }
failed_by t (faults.Checkpoint name why) x y d r u s =
    record { refused = r refl; unwritten = u refl }
failed_by t (faults.Unreadable name why) x y d r u s =
    record { refused = r refl; unwritten = u refl }
failed_by t faults.OutOfMemory x y d r u s = record { refused = r refl; unwritten = u refl }

perform_run : (t : Task) (C : Table) (l : RequestTable) (r : Result Report RunFault) (x y : _) →
    IsRequestTableOf C l → ReadsBy t.held t.asked C l
    → HoldsOfResumed t.held t.asked.resume t.asked.most C l
    (λ n p. Dumped (setup_by C l n t.asked) r p (stream_octets t.held t.given t.asked.stream) x y)
    → Performed t r x y
perform_run t C l r x y of by d = record {
  table = C;
  request_table = l;
  of = of;
  reads = by;
  dumped = d;
}

-- what the program did, by what the run did with a catalogue and a request list, and by what the
-- save after it did
pub did_by : (t : Task) (C : Table) (l : RequestTable) (ran : Result Report ProgramError)
    (result : Result Totals ProgramError)
    (x y : _) (a b : Option (List Saved)) → IsRequestTableOf C l → ReadsBy t.held t.asked C l
    → IfSome (run_result ran) (λ r. HoldsOfResumed t.held t.asked.resume t.asked.most C l
    (λ n p. Dumped (setup_by C l n t.asked) r p (stream_octets t.held t.given t.asked.stream) x y))
    → (run_result ran ≡ None → IfErr ran (λ why.
    NoCheckpoint t.held t.refuses t.asked.resume (counts_of C l) why
    ⊎ NoStream t.refuses t.asked.stream why))
    → (run_result ran ≡ None → y ≡ x)
    → (run_result ran ≡ Some (Err fault.Failed) → ⊥)
    → HasSaved t.asked.save ran result a b → HasPerformed t result x y a b
did_by t C l (Ok report) (Ok totals) x y a b of by d r u s k =
    record {
      report = report;
      run = perform_run t C l (Ok report) x y of by d;
      totals_are = k.0;
      saved = k.1;
    }
did_by t C l (Ok report) (Err why) x y a b of by d r u s k =
    rw k.1.1 (
      record {
        named = k.1.2;
        report = report;
        run =
            perform_run t C l (Ok report) x y of by d;
      },
      k.0,
    )
did_by t C l (Err why) result x y a b of by d r u s k =
    rw k.0 (
      failed_by t why x y (performed_by (run_result (Err why)) d) (λ e. inr (inr (C, l, by, r e)))
          u s,
      k.1,
    )
  where
    performed_by : (ran : Option (Result Report RunFault)) →
        IfSome ran (λ r. HoldsOfResumed t.held t.asked.resume t.asked.most C l
        (λ n p. Dumped (setup_by C l n t.asked) r p (stream_octets t.held t.given t.asked.stream) x
        y))
        → IfSome ran (λ r. Performed t r x y)
    performed_by None d = tt
    performed_by (Some r) d = perform_run t C l r x y of by d

-- the last step succeeds only if the run did
pub kept_ok : (asked : Option (List ℕ)) (ran : Result Report ProgramError)
    (result : Result Totals ProgramError)
    (a b : Option (List Saved)) (P : Type 0) → HasSaved asked ran result a b → OnOk ran P →
    OnOk result P
kept_ok asked (Ok report) (Ok totals) a b P k p = p
kept_ok asked (Ok report) (Err why) a b P k p = tt
kept_ok asked (Err why) result a b P k p = rw k.0 tt
