-- What holds by the table as a decoder's version sees it holds by the table itself.
use Rattle.std.proofs.Common.{ℕ, Bool, List, Result, Ok, Err, IfOk, sym, subst, take}
use Rattle.giop_decode.specs.ReadResult.{Coding}
use Rattle.giop_decode.specs.declared.decoder.Decoder.{Decoder}
use Rattle.giop_decode.specs.declared.progress.Progress.{Progress}
use Rattle.giop_decode.specs.DecoderState as public
use Rattle.giop_decode.specs.Runs as runs
use Rattle.giop_decode.specs.SeenState as states
use Rattle.giop_print.specs.declared.path.Root.{Root}
use Rattle.giop_sig.specs.HeaderTypes.{IsTable}
use Rattle.giop_sig.specs.Table.{Table, seen}
use Rattle.giop_sig.specs.Types.{Ty}

pub table_seen : (forbids_wide : Bool) (C : Table) → IsTable C → IsTable (seen forbids_wide C)
table_seen forbids_wide C h = record {
  types = h.types;
  begins = h.begins;
  operations = h.operations;
  exceptions = h.exceptions;
  operations_distinct = h.operations_distinct;
  exceptions_distinct = h.exceptions_distinct;
  operations_few = h.operations_few;
  exceptions_few = h.exceptions_few;
  declared_few = h.declared_few;
  called_few = h.called_few;
  identities = h.identities;
  identities_distinct = h.identities_distinct;
  interfaces_few = h.interfaces_few;
  anys = h.anys;
}

module _ (forbids_wide : Bool) (C : Table) where
  pub fits_own : (d : Decoder) → states.Fits (seen forbids_wide C) d → public.Fits C d
  fits_own d h = subst (λ n. states.Fits (seen n C) d) (sym h.forbids_wide) h

  pub reads_own : (T : Ty) (coding : Coding) (at message : ℕ) (root : Root) (d : Decoder)
      (s : List ℕ) → states.Reads (seen forbids_wide C) T coding at message root d s →
      public.Reads C T coding at message root d s
  reads_own T coding at message root d s h =
      subst (λ n. states.Reads (seen n C) T coding at message root d s) (sym h.forbids_wide) h

  pub takes_own : (T : Ty) (coding : Coding) (at message : ℕ) (root : Root) (d : Decoder)
      (s octets : List ℕ) (p : Progress) →
      runs.TakesRun (seen forbids_wide C) T coding at message root d s octets p →
      public.TakesRun C T coding at message root d s octets p
  takes_own T coding at message root d s octets p h = record {
    answers = h.answers;
    reads = λ unfaulty. reads_own T coding at message root d _ (h.reads unfaulty);
    keeps_noted = h.keeps_noted;
  }

-- the answer to a run by the table that the version sees is the answer by the table itself
module _ {E : Type 0} (C : Table) (old new : Decoder) (octets : List ℕ) where
  pub run_own : (result : Result (ℕ × Progress) E) →
      IfOk result (λ taken. (T : Ty) (coding : Coding) (at message : ℕ) (root : Root) (s : List ℕ) →
      public.Reads C T coding at message root old s →
      runs.TakesRun (seen old.forbids_wide C) T coding at message root new s (take taken.0 octets)
      taken.1) →
      IfOk result (λ taken. (T : Ty) (coding : Coding) (at message : ℕ) (root : Root) (s : List ℕ) →
      public.Reads C T coding at message root old s →
      public.TakesRun C T coding at message root new s (take taken.0 octets) taken.1)
  run_own (Ok taken) h = λ T coding at message root s r.
      takes_own old.forbids_wide C T coding at message root new s (take taken.0 octets) taken.1
      (h T coding at message root s r)
  run_own (Err e) h = h

  pub run_fits : (result : Result (ℕ × Progress) E) →
      IfOk result (λ taken. public.GoesOn taken.1 → states.Fits (seen old.forbids_wide C) new) →
      IfOk result (λ taken. public.GoesOn taken.1 → public.Fits C new)
  run_fits (Ok taken) h = λ on. fits_own old.forbids_wide C new (h on)
  run_fits (Err e) h = h

  pub run_keeps : (result : Result (ℕ × Progress) E) →
      IfOk result (λ taken. public.GoesOn taken.1 → states.Fits (seen old.forbids_wide C) new) →
      IfOk result (λ taken. public.GoesOn taken.1 → public.KeepsVersion old new)
  run_keeps (Ok taken) h = λ on. (h on).forbids_wide
  run_keeps (Err e) h = h
