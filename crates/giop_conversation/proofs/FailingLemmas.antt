-- What an engine and an out with tags do if a put fails.
use Rattle.std.proofs.Common.{◌≡◌, ℕ, zero, suc, ◌<◌, true, false, List, Result, Ok, Err, refl, ◌∙◌, arith}
use Rattle.std.proofs.lemmas.Bool.{false≢true}
use Rattle.std.specs.Prelude.{OnOk, OnErr}
use Rattle.giop_print.specs.Output.{OutLog, saturating_next}
use Rattle.giop_stream.specs.declared.fault.Stop.{Stop}
use Rattle.giop_stream.specs.declared.fault.Stop.TheVariants as stop
use Rattle.giop_print.specs.Output.{Writes}
use Rattle.giop_conversation.specs.TaggedState.{Tagging, tagging_log}
use Rattle.giop_conversation.specs.Failing.{CountsFailure, FailsByPut, FailsIfPutFailed}
use Rattle.giop_conversation.proofs.FailingBelow.{counted_more, some_failed}
use Rattle.giop_stream.specs.EngineView.{EngineView}
use Rattle.giop_stream.specs.EngineHolds.{StopWrites, Leaves}

-- if an engine had not failed and stops, a put has failed
pub stop_counts : (A : Type 0) (why : Stop) (before after : OutLog) (due : List ℕ)
    (e e' : EngineView) → e.failed ≡ false → Leaves {A = A} (Err why) e e' →
    StopWrites {A = A} (Err why) before after due → after.failures ≡ saturating_next before.failures
stop_counts A (stop.Out f) before after due e e' sound leaves writes = writes.failures
stop_counts A stop.Failed before after due e e' sound leaves writes = search (arith, false≢true)

-- the same when the closing is written
pub closing_counts : (A : Type 0) (why : Stop) (before after : OutLog) (due : List ℕ)
    (e : EngineView) → e.failed ≡ false →
    ((let failed : Result A Stop = Err stop.Failed in Err why ≡ failed) → e.failed ≡ true) →
    StopWrites {A = A} (Err why) before after due → after.failures ≡ saturating_next before.failures
closing_counts A (stop.Out f) before after due e sound only writes = writes.failures
closing_counts A stop.Failed before after due e sound only writes = search (arith, false≢true)

-- a call that writes lines fails by a put
pub by_writes : {A E : Type 0} (r : Result A E) (before after : Tagging) (due : List ℕ) →
    Writes r (tagging_log before) (tagging_log after) due → FailsByPut r before after
by_writes (Ok x) before after due writes = writes.failures
by_writes (Err e) before after due writes = writes.failures

-- the same if no put had failed before
pub once : {A E : Type 0} (r : Result A E) (before after : Tagging) → before.failures ≡ 0 →
    FailsByPut r before after → FailsIfPutFailed r after
once (Ok x) before after none fails = fails ∙ none
once (Err e) before after none fails = search (arith, counted_more)

pub none_failed : (n : ℕ) → (0 < n → false ≡ true) → n ≡ 0
none_failed zero h = refl
none_failed (suc n) h = search (arith, false≢true)

-- if the call doesn't fail, the count of failures stays
pub same_on_ok : {A E : Type 0} (r : Result A E) (before after : ℕ) → CountsFailure r before after →
    OnOk r (after ≡ before)
same_on_ok (Ok x) before after counts = counts
same_on_ok (Err e) before after counts = tt

pub some_on_err : {A E : Type 0} (r : Result A E) (before after : ℕ) → CountsFailure r before after
    →
    OnErr r (0 < after)
some_on_err (Ok x) before after counts = tt
some_on_err (Err e) before after counts = some_failed before after counts
