-- Reads and feeds, one after the other, to the end of a run.
use Rattle.std.proofs.Common.{◌≡◌, ℕ, ◌+◌, ◌^◌, ◌<◌, ◌≤◌, List, [], ◌++◌, refl, sym, subst, ap, ◌∙◌, append-nil, append_assoc, arith, Bool, Result, Ok, Err, true, false, inl, inr, Some, None}
use Rattle.std.proofs.lemmas.List.Elements.{All-nil, All-append}
use Rattle.giop_print.specs.Output.{OutLog, saturating_next}
use Rattle.giop_stream.specs.Rules.{Rules}
use Rattle.giop_stream.specs.Stream.{closing}
use Rattle.giop_stream.specs.EngineState.{state_of}
use Rattle.giop_stream.specs.EngineHolds.{added, Holds, rules_of}
use Rattle.giop_stream.specs.EngineView.{EngineView}
use Rattle.giop_print.proofs.Writing.{wrote-append, wrote-front, front-append, wrote-nil}
use Rattle.giop_run.specs.SourceLog.{SourceLog}
use Rattle.giop_run.specs.Running.{GivenByReads, SourceOrStreamEnded, ReadsSpent, Ran, RunSetup, setup_of, run_rules, end_text}
use Rattle.giop_print.specs.Flushing.{Flushed, FlushFailed}
use Rattle.giop_run.specs.RunSteps.{HasFed, HasFedPiece, FailedBeforeEnd, OneRead, HasReadAndFed, ReadToEnd, PutFailed, FinishedStream, HasEndedRun, HasFedReads}
use Rattle.giop_stream.specs.declared.status.Totals.{Totals}
use Rattle.giop_run.specs.declared.running.Ending.TheVariants as endings
use Rattle.giop_run.specs.declared.running.Report.{Report}
use Rattle.giop_run.specs.declared.fault.RunFault.{RunFault}
use Rattle.giop_run.specs.declared.fault.RunFault.TheVariants as fault
use Rattle.giop_run.proofs.TextLemmas.{AddsUp, wrote-none, runs_or_stops}
use Rattle.giop_run.proofs.FlushLemmas.{wrote_flushed, flush_front}
use Rattle.giop_run.proofs.ReadLemmas.{consumes-same, consumes-append}

-- one read and feed

-- a read of some octets, and their feed
pub turned_on : (R : Rules) (r : Result Bool RunFault) (p s : List ℕ) (e : EngineView)
    (a b : SourceLog) (x y : OutLog) → OneRead s a b → b.failures ≡ a.failures → b.ends ≡ a.ends →
    HasFedPiece R r p s e x y → HasReadAndFed R r p s e a b x y
turned_on R (Ok true) p s e a b x y n k l f = (n, k, l, f.0, f.1)
turned_on R (Ok false) p s e a b x y n k l f = (n, k, inr f.1, f.0)
turned_on R (Err fault.Out) p s e a b x y n k l f = (n, k, f)
turned_on R (Err fault.Read) p s e a b x y n k l f = absurd f
turned_on R (Err fault.Turns) p s e a b x y n k l f = absurd f
turned_on R (Err fault.Failed) p s e a b x y n k l f = absurd f

-- the rules of a read and feed may be replaced by equal ones
turned_by : (Q R : Rules) (r : Result Bool RunFault) (p s : List ℕ) (e : EngineView)
    (a b : SourceLog) (x y : OutLog) → Q ≡ R → HasReadAndFed Q r p s e a b x y →
    HasReadAndFed R r p s e a b x y
turned_by Q R r p s e a b x y q t = subst (λ z. HasReadAndFed z r p s e a b x y) q t

-- an engine that reads by the rules of the run has closed the run
closed_by : (w : RunSetup) (d : EngineView) (r : Result Report RunFault) (p : List ℕ)
    (x y : OutLog) → (d.table ≡ w.table) × (d.request_table ≡ w.request_table) × (d.most ≡ w.most) →
    HasEndedRun (setup_of d w.ending) r p x y → HasEndedRun w r p x y
closed_by w d r p x y (t, l, n) q = rw (t, l, n) at q

-- if nothing was read, nothing was fed
pub took-none : (R : Rules) (p : List ℕ) (e : EngineView) (x : OutLog) → rules_of e ≡ R →
    Holds e p → HasFed R p [] e x x
took-none R p e x r h = record { reads = r; holds = rw append-nil h; written = wrote-none R x p }

-- a flush

-- what was written before a flush stays written
pub going_flushed : (R : Rules) (p s : List ℕ) (e : EngineView) (k : ℕ) (a b : SourceLog)
    (x y z : OutLog) (kept : List ℕ) → HasFedReads R p s e k a b x y → Flushed y z kept →
    HasFedReads R p s e k a b x z
going_flushed R p s e k a b x y z kept g f =
    record {
      began = g.began;
      running = g.running;
      took = record {
        reads = g.took.reads;
        holds = g.took.holds;
        written =
            wrote_flushed x y z (added R p s) kept g.took.written f;
      };
      left = g.left;
      octets = g.octets;
      reads = g.reads;
      exact = g.exact;
      failures = g.failures;
      ends = g.ends;
    }

-- the end of a run after the stream was finished and the out was flushed
pub closed_flushed : (e : EngineView) (t : Totals) (p : List ℕ) (x y z : OutLog) (kept : List ℕ)
    → FinishedStream (rules_of e) (Ok t) p x y → Flushed y z kept →
    HasEndedRun (setup_of e endings.Finish) (Ok (record { totals = t; kept = None })) p x z
closed_flushed e t p x y z kept (w, f) q =
    record {
      written = wrote_flushed x y z (closing (rules_of e) p) kept w q;
      ended = record { totals = f; kept = refl };
    }

pub closed_cut : (e : EngineView) (t : Totals) (p : List ℕ) (x y z : OutLog)
    → FinishedStream (rules_of e) (Ok t) p x y → FlushFailed y z →
    HasEndedRun (setup_of e endings.Finish) (Err fault.Out) p x z
closed_cut e t p x y z (w, f) q =
    rw append-nil at (wrote-front x y z (closing (rules_of e) p) [] w (flush_front y z [] q))

pub closed_unfinished : (e : EngineView) (r : RunFault) (p : List ℕ) (x y : OutLog)
    → FinishedStream (rules_of e) (Err r) p x y → HasEndedRun (setup_of e endings.Finish) (Err r) p
    x y
closed_unfinished e fault.Out p x y f = f
closed_unfinished e fault.Read p x y f = absurd f
closed_unfinished e fault.Turns p x y f = absurd f
closed_unfinished e fault.Failed p x y f = absurd f

-- the end of a run after the out was flushed and the engine was kept
pub closed_kept : (e : EngineView) (p : List ℕ) (x y : OutLog) (kept : List ℕ) → Holds e p →
    Flushed x y kept
    → HasEndedRun (setup_of e endings.Keep)
    (Ok (record { totals = e.stream.totals; kept = Some e })) p x
    y
unfolding state_of
closed_kept e p x y kept h f =
    record {
      written = wrote_flushed x x y [] kept (wrote-nil x) f;
      ended = record { totals = h.shows.totals; engine = e; kept = refl; holds = h; same = refl };
    }

pub closed_unkept : (e : EngineView) (p : List ℕ) (x y : OutLog) → FlushFailed x y →
    HasEndedRun (setup_of e endings.Keep) (Err fault.Out) p x y
closed_unkept e p x y f = flush_front x y [] f

-- all reads and feeds

given_none : (p : List ℕ) (a : SourceLog) → GivenByReads p [] a a
given_none p a =
    record {
      left = consumes-same a.left;
      octets = All-nil (λ v. v < 256);
      reads = omega arith;
      none = λ _. (refl, refl);
      stops = λ q. record {
        earlier = [];
        last = [];
        whole = refl;
        room = omega arith;
        running = rw append-nil q;
      };
    }

given_more : (R : Rules) (p s t : List ℕ) (e : EngineView) (k : ℕ) (a b c : SourceLog)
    (x y : OutLog) → HasFedReads R p s e k a b x y → OneRead t b c → k < 2 ^ 40 →
    GivenByReads p (s ++ t) a c
unfolding saturating_next
given_more R p s t e k a b c x y g u h =
    record {
      left = consumes-append a.left b.left c.left s t g.left u.left;
      octets = All-append (λ v. v < 256) s t g.octets u.octets;
      reads = omega (arith, g.reads, u.reads);
      none = λ q. absurd (runs_or_stops p g.began q);
      stops = λ _. record {
        earlier = s;
        last = t;
        whole = refl;
        room = u.within;
        running = runs_or_stops (p ++ s) g.running;
      };
    }

pub going_start : (R : Rules) (p : List ℕ) (e : EngineView) (a : SourceLog) (x y : OutLog) →
    HasFedPiece R (Ok true) p [] e x y → HasFedReads R p [] e 0 a a x y
going_start R p e a x y f =
    record {
      began = rw append-nil at f.1;
      running = f.1;
      took = f.0;
      left = consumes-same a.left;
      octets = All-nil (λ v. v < 256);
      reads = omega arith;
      exact = λ q. omega arith;
      failures = refl;
      ends = refl;
    }

-- octets that were fed, and then more octets
fed_both : (R : Rules) → AddsUp R → (p s t : List ℕ) (e d : EngineView) (x y z : OutLog) →
    HasFed R p s e x y → HasFed R (p ++ s) t d y z → HasFed R p (s ++ t) d x z
fed_both R adds p s t e d x y z first second =
    record {
      reads = second.reads;
      holds = rw append_assoc at second.holds;
      written = rw (adds p s t) (wrote-append x y z (added R p s) (added R (p ++ s) t) first.written
          second.written);
    }

going_on : (R : Rules) → AddsUp R → (p s t : List ℕ) (e d : EngineView) (k : ℕ) (a b c : SourceLog)
    (x y z : OutLog) → HasFedReads R p s e k a b x y → HasReadAndFed R (Ok true) (p ++ s) t d b c y
    z →
    HasFedReads R p (s ++ t) d (k + 1) a c x z
unfolding saturating_next
going_on R adds p s t e d k a b c x y z g (u, failures, ends, took, running) =
    record {
      began = g.began;
      running = rw append_assoc at running;
      took = fed_both R adds p s t e d x y z g.took took;
      left = consumes-append a.left b.left c.left s t g.left u.left;
      octets = All-append (λ v. v < 256) s t g.octets u.octets;
      reads = omega (arith, g.reads, u.reads);
      exact = λ q. omega (arith, g.exact, u.reads);
      failures = failures ∙ g.failures;
      ends = ends ∙ g.ends;
    }

pub going_more : (R : Rules) → AddsUp R →
    (p s t : List ℕ) (e d : EngineView) (k : ℕ) (a b c : SourceLog) (x y z : OutLog) →
    HasFedReads R p s e k a b x y → HasReadAndFed (rules_of e) (Ok true) (p ++ s) t d b c y z →
    HasFedReads R p (s ++ t) d (k + 1) a c x z
going_more R adds p s t e d k a b c x y z g u =
    going_on R adds p s t e d k a b c x y z g
    (turned_by (rules_of e) R (Ok true) (p ++ s) t d b c y z g.took.reads u)

-- the last read

-- a read or a feed failed, after some that didn't
failed_on : (R : Rules) → AddsUp R → (r : RunFault) (p s t : List ℕ) (e d : EngineView) (k : ℕ)
    (a b c : SourceLog) (x y z : OutLog) → HasFedReads R p s e k a b x y →
    HasReadAndFed R (Err r) (p ++ s) t d b c y z → k < 2 ^ 40 → FailedBeforeEnd R r p (s ++ t) a c x
    z
failed_on R adds fault.Read p s t e d k a b c x y z g (u, failures, written) h =
    record {
      given = given_more R p s t e k a b c x y g u h;
      failures = failures ∙ ap saturating_next g.failures;
      written = rw (adds p s t) (wrote-append x y z (added R p s) (added R (p ++ s) t)
          g.took.written written);
    }
failed_on R adds fault.Out p s t e d k a b c x y z g (u, failures, front) h =
    record {
      given = given_more R p s t e k a b c x y g u h;
      failures = failures ∙ g.failures;
      written = rw (adds p s t) (wrote-front x y z (added R p s) (added R (p ++ s) t) g.took.written
          front);
    }
failed_on R adds fault.Turns p s t e d k a b c x y z g u h = absurd u
failed_on R adds fault.Failed p s t e d k a b c x y z g u h = absurd u

pub turn_failed : (R : Rules) → AddsUp R →
    (r : RunFault) (p s t : List ℕ) (e d : EngineView) (k : ℕ) (a b c : SourceLog)
    (x y z : OutLog) → HasFedReads R p s e k a b x y →
    HasReadAndFed (rules_of e) (Err r) (p ++ s) t d b c y z → k < 2 ^ 40 →
    FailedBeforeEnd R r p (s ++ t) a c x z
turn_failed R adds r p s t e d k a b c x y z g u h =
    failed_on R adds r p s t e d k a b c x y z g
    (turned_by (rules_of e) R (Err r) (p ++ s) t d b c y z g.took.reads u) h

-- the source gave what was fed
given_all : (R : Rules) (p s : List ℕ) (e : EngineView) (k : ℕ) (a b : SourceLog) (x y : OutLog) →
    HasFedReads R p s e k a b x y → k ≤ 2 ^ 40 → GivenByReads p s a b
given_all R p s e k a b x y g h =
    record {
      left = g.left;
      octets = g.octets;
      reads = omega (arith, g.reads);
      none = λ q. absurd (runs_or_stops p g.began q);
      stops = λ _. record {
        earlier = s;
        last = [];
        whole = sym (append-nil s);
        room = omega arith;
        running = runs_or_stops (p ++ s) g.running;
      };
    }

-- the reads are used up
pub ran_turns : (R : Rules) (p s : List ℕ) (e : EngineView) (k : ℕ) (a b : SourceLog)
    (x y : OutLog) → HasFedReads R p s e k a b x y → k ≡ 2 ^ 40 → ReadsSpent R p s a b x y
ran_turns R p s e k a b x y g h =
    record {
      given = given_all R p s e k a b x y g (omega arith);
      reads = λ q. omega (arith, g.exact);
      failures = g.failures;
      ends = g.ends;
      running = runs_or_stops (p ++ s) g.running;
      written = g.took.written;
    }

-- the flush before a read failed
pub turn_unflushed : (R : Rules) (p s : List ℕ) (e : EngineView) (k : ℕ) (a b : SourceLog)
    (x y z : OutLog) → HasFedReads R p s e k a b x y → FlushFailed y z → k ≤ 2 ^ 40 →
    PutFailed R p s a b x z
turn_unflushed R p s e k a b x y z g f h =
    record {
      given = given_all R p s e k a b x y g h;
      failures = g.failures;
      written = rw append-nil at (wrote-front x y z (added R p s) [] g.took.written
          (flush_front y z [] f));
    }

over_more : (p s t : List ℕ) (a b c : SourceLog) → b.ends ≡ a.ends → SourceOrStreamEnded ((p ++ s)
    ++ t) b c →
    SourceOrStreamEnded (p ++ (s ++ t)) a c
over_more p s t a b c e (inl q) = inl (record {
  answered = q.answered ∙ ap saturating_next e;
  none =
      q.none;
})
over_more p s t a b c e (inr q) = inr (rw append_assoc at q)

-- the stream is over after a read and feed
over_on : (R : Rules) → AddsUp R → (p s t : List ℕ) (e d : EngineView) (k : ℕ) (a b c : SourceLog)
    (x y z : OutLog) → HasFedReads R p s e k a b x y → HasReadAndFed R (Ok false) (p ++ s) t d b c y
    z →
    k < 2 ^ 40 → ReadToEnd R p (s ++ t) d a c x z
over_on R adds p s t e d k a b c x y z g (u, failures, over, took) h =
    record {
      given = given_more R p s t e k a b c x y g u h;
      over = over_more p s t a b c g.ends over;
      failures = failures ∙ g.failures;
      fed = fed_both R adds p s t e d x y z g.took took;
    }

pub turn_over : (R : Rules) → AddsUp R →
    (p s t : List ℕ) (e d : EngineView) (k : ℕ) (a b c : SourceLog) (x y z : OutLog) →
    HasFedReads R p s e k a b x y → HasReadAndFed (rules_of e) (Ok false) (p ++ s) t d b c y z →
    k < 2 ^ 40 → ReadToEnd R p (s ++ t) d a c x z
turn_over R adds p s t e d k a b c x y z g u h =
    over_on R adds p s t e d k a b c x y z g
    (turned_by (rules_of e) R (Ok false) (p ++ s) t d b c y z g.took.reads u) h

-- the stream was over before the first read
pub over_first : (R : Rules) (p : List ℕ) (e : EngineView) (a : SourceLog) (x y : OutLog) →
    HasFedPiece R (Ok false) p [] e x y → ReadToEnd R p [] e a a x y
over_first R p e a x y f = record {
  given = given_none p a;
  over = inr f.1;
  failures = refl;
  fed =
      f.0;
}

-- the feed of the empty piece failed
pub failed_first : (R : Rules) (r : RunFault) (p : List ℕ) (e : EngineView) (a : SourceLog)
    (x y : OutLog) → HasFedPiece R (Err r) p [] e x y → FailedBeforeEnd R r p [] a a x y
failed_first R fault.Out p e a x y f = record {
  given = given_none p a;
  failures = refl;
  written =
      f;
}
failed_first R fault.Read p e a x y f = absurd f
failed_first R fault.Turns p e a x y f = absurd f
failed_first R fault.Failed p e a x y f = absurd f

-- a run

-- a run that failed before its end
pub ran_failed : (w : RunSetup) (r : RunFault) (p s : List ℕ) (a b : SourceLog) (x y : OutLog) →
    FailedBeforeEnd (run_rules w) r p s a b x y → Ran w (Err r) p s a b x y
ran_failed w fault.Read p s a b x y f = f
ran_failed w fault.Turns p s a b x y f = f
ran_failed w fault.Out p s a b x y f =
    record {
      given = f.given;
      failures = f.failures;
      written = front-append x y (added (run_rules w) p s)
          (end_text w.ending (run_rules w) (p ++ s)) f.written;
    }
ran_failed w fault.Failed p s a b x y f = absurd f

closed_on : (w : RunSetup) (r : Result Report RunFault) (p s : List ℕ) (e : EngineView)
    (a b : SourceLog) (x y z : OutLog) → ReadToEnd (run_rules w) p s e a b x y →
    HasEndedRun w r (p ++ s) y z → Ran w r p s a b x z
closed_on w (Ok v) p s e a b x y z f q =
    record {
      given = f.given;
      over = f.over;
      failures = f.failures;
      written = wrote-append x y z (added (run_rules w) p s)
          (end_text w.ending (run_rules w) (p ++ s)) f.fed.written q.written;
      ended = q.ended;
    }
closed_on w (Err fault.Out) p s e a b x y z f q =
    record {
      given = f.given;
      failures = f.failures;
      written = wrote-front x y z (added (run_rules w) p s)
          (end_text w.ending (run_rules w) (p ++ s)) f.fed.written q;
    }
closed_on w (Err fault.Read) p s e a b x y z f q = absurd q
closed_on w (Err fault.Turns) p s e a b x y z f q = absurd q
closed_on w (Err fault.Failed) p s e a b x y z f q = absurd q

-- a run that was closed at its end
pub ran_closed : (w : RunSetup) (r : Result Report RunFault) (p s : List ℕ) (e : EngineView)
    (a b : SourceLog) (x y z : OutLog) → ReadToEnd (run_rules w) p s e a b x y → (e.table ≡ w.table)
    × (e.request_table ≡ w.request_table) × (e.most ≡ w.most) →
    HasEndedRun (setup_of e w.ending) r (p ++ s) y z → Ran w r p s a b x z
ran_closed w r p s e a b x y z f same q =
    closed_on w r p s e a b x y z f (closed_by w e r (p ++ s) y z same q)
