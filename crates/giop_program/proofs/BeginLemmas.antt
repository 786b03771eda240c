-- What a run of an engine did, for each stream that the checkpoint file is a checkpoint of.
use Rattle.std.proofs.Common.{◌≡◌, ℕ, List, [], Option, Some, None, refl, subst}
use Rattle.std.specs.Prelude.{IfSome, Result}
use Rattle.giop_sig.specs.Table.{Table}
use Rattle.giop_message.specs.Signatures.{RequestTable}
use Rattle.giop_stream.specs.EngineHolds.{Holds}
use Rattle.giop_stream.specs.EngineView.{EngineView}
use Rattle.giop_run.specs.declared.fault.RunFault.{RunFault}
use Rattle.giop_run.specs.declared.running.Ending.{Ending}
use Rattle.giop_run.specs.declared.running.Report.{Report}
use Rattle.giop_print.specs.Output.{OutLog}
use Rattle.giop_run.specs.SourceLog.{SourceLog, unread_source}
use Rattle.giop_run.specs.Console.{Dumped}
use Rattle.giop_run.specs.Files.{Asked, KnownFiles, HoldsOfResumed, ending_by_save, stream_octets, setup_by}
use Rattle.giop_run.specs.Running.{Ran, RunSetup, setup_of}

-- a run with a source from which nothing had been read
pub dumped_by : (w : RunSetup) (r : Result Report RunFault) (p s : List ℕ) (a b : SourceLog)
    (x y : OutLog)
    (told : Option (List ℕ)) → a ≡ unread_source told → Ran w r p s a b x y → Dumped w r p told x y
dumped_by w r p s a b x y told is ran =
    record { octets = s; after = b; did = subst (λ a. Ran w r p s a b x y) is ran }

goes_on : (held : KnownFiles) (asked : Option (List ℕ)) (most : ℕ) (C : Table) (l : RequestTable)
    (Held Is : ℕ → List ℕ → Type 0)
    → HoldsOfResumed held asked most C l Held → ((n : ℕ) (p : List ℕ) → Held n p → Is n p) →
    HoldsOfResumed held asked most C l Is
goes_on held None most C l Held Is on f = f most [] on
goes_on held (Some name) most C l Held Is (octets, front, ours, again) f =
    (octets, front, ours, λ n p s. f n p (again n p s))

module _ (held : KnownFiles) (asked : Asked) (C : Table) (l : RequestTable) (e : EngineView)
    (ending : Ending)
    (source_octets given : Option (List ℕ)) where
  -- the engine reads by the table and the request list, and ends as the arguments ask
  same_way : (n : ℕ) → e.table ≡ C → e.request_table ≡ l → e.most ≡ n →
      ending ≡ ending_by_save asked.save
      → setup_of e ending ≡ setup_by C l n asked
  same_way n table request_table most ends = rw (table, request_table, most, ends) refl

  pub begun_dumped : (x y : _) (ran : Option (Result Report RunFault)) → e.table ≡ C →
      e.request_table ≡ l
      → ending ≡ ending_by_save asked.save → source_octets ≡ stream_octets held given asked.stream
      → HoldsOfResumed held asked.resume asked.most C l (λ n p. (e.most ≡ n) × Holds e p)
      → IfSome ran (λ r. (p : List ℕ) → Holds e p →
      Dumped (setup_of e ending) r p source_octets x y)
      → IfSome ran (λ r. HoldsOfResumed held asked.resume asked.most C l (λ n p.
      Dumped (setup_by C l n asked) r p (stream_octets held given asked.stream) x y))
  begun_dumped x y None table request_table ends source on did = tt
  begun_dumped x y (Some r) table request_table ends source on did =
      let stream = stream_octets held given asked.stream in
      goes_on held asked.resume asked.most C l (λ n p. (e.most ≡ n) × Holds e p)
      (λ n p. Dumped (setup_by C l n asked) r p stream x y) on
      (λ n p h. subst (λ s. Dumped (setup_by C l n asked) r p s x y) source
      (subst (λ w. Dumped w r p source_octets x y) (same_way n table request_table h.0 ends)
      (did p h.1)))
