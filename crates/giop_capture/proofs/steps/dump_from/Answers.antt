-- What a source gave was dumped with the connections that the arguments ask for.
use Rattle.std.proofs.Common.{◌≡◌, ◌<◌, ◌∙◌, ◌⊎◌, inl, inr, [], true, false, true≢false, ap, sym, subst, Option, Some, Err, List, Bool, ℕ}
use Rattle.std.specs.Io.KnownBytes.{IsAtEnd}
use Rattle.capture_file.specs.declared.fault.CaptureFault.{CaptureFault}
use Rattle.tcp_connections.specs.Connections.{none_known}
use Rattle.giop_conversation.specs.Captured.{Setup}
use Rattle.giop_run.specs.SourceLog.{SourceLog}
use Rattle.giop_run.specs.declared.fault.ProgramError.TheVariants as faults
use Rattle.giop_run.specs.Running.{ReadFoundEnd}
use Rattle.giop_capture.specs.declared.ending.Ending.{Ending}
use Rattle.giop_capture.specs.CaptureRun.{ending_of}
use Rattle.giop_capture.proofs.Stopping.{stopped}
use Rattle.giop_capture.proofs.TellerLemmas.{text_kept}
use Rattle.giop_capture.proofs.steps.dump_from.Goals as goal

at_end : (X : Type 0) (rest : List ℕ) (before after : SourceLog)
    → (ReadFoundEnd before after × (rest ≡ [])) ⊎ X → (IsAtEnd after.left × (rest ≡ [])) ⊎ X
at_end X rest before after (inl over) = inl (over.0.none, over.1)
at_end X rest before after (inr x) = inr x

ends_by : (ending : Ending) (found other : Option CaptureFault) (faulty : Bool) →
    ending ≡ ending_of found faulty → found ≡ other → ending ≡ ending_of other faulty
ends_by ending found other faulty ends is = ends ∙ ap (λ x. ending_of x faulty) is

-- if nothing was refused, the out has failed
by_put : (failures : ℕ) (refused is_refused : Bool) → is_refused ≡ refused → is_refused ≡ false →
    (0 < failures) ⊎ (refused ≡ true) → 0 < failures
by_put failures refused is_refused is not (inl some) = some
by_put failures refused is_refused is not (inr all) = absurd (true≢false (sym all ∙ sym is ∙ not))

pub returns-in-Ok-ended-clause-dumped : goal.returns-in-Ok-ended-clause-dumped
returns-in-Ok-ended-clause-dumped g c =
    let asked = c.args.asked in
    let d = c.in-Ok-ended.ensures.dumped
    (none_known asked.ports.items asked.pool asked.connections [])
    c.in-Ok-new_dump_reader.ensures in
    let same = c.into_out-out.ensures.written
    ∙ ap (λ t. t.conversations.out.whole) c.into_listener-teller.ensures in
    let w = d.whole in
    record {
      left = _;
      octets = d.octets;
      given = w.given;
      read = w.read;
      rest = w.rest;
      parts = w.parts;
      over = at_end _ _ _ _ w.over;
      faulty = _;
      ends = ends_by _ _ _ _ d.ends w.fault;
      text = λ S written begins.
          text_kept S written _ _ _ _ _ _ _ same c.in_ok-flush_out-in-Ok-ended.ensures.put
          (d.last S written begins);
      streams = λ S written begins.
          let h = d.last S written begins in (
            c.each_stream_of_a_capture_is_dumped.ensures.shows S written asked.ports.items
                asked.pool asked.connections w.read h.dump
                asked.connections_range.0 asked.connections_range.1 h.leads,
            c.each_stream_of_a_capture_is_dumped.ensures.slots S written asked.ports.items
                asked.pool asked.connections w.read h.dump
                asked.connections_range.0 asked.connections_range.1
                (ap (λ (s : Setup). s.connections) (c.requires.begins S written begins).0) h.leads,
          );
    }

pub returns-clause-refused : goal.returns-clause-refused
returns-clause-refused g c =
    let asked = c.args.asked in
    let s = c.in-Err-2.ensures.stopped
    (none_known asked.ports.items asked.pool asked.connections [])
    c.in-Ok-new_dump_reader.ensures in
    let same = c.into_out-out.ensures.written
    ∙ ap (λ t. t.conversations.out.whole) c.into_listener-teller.ensures in
    let log = g.O.Out.log c.into_out-out.result in
    inr (stopped c.in-Err-2.fault g.B.Beginning.begins
    c.dump_capture-ended.new.reader.streams.listener.conversations
    c.dump_capture-ended.new.reader.streams.listener.seen _ asked _ _ _ _ s.0 _ _ log
    same
    (λ o. by_put _ _ _ c.has_refused-has_refused.ensures c.if-has_refused.false
    (c.into_out-out.ensures.cause
    (subst (λ t. 0 < t.conversations.out.failures) (sym c.into_listener-teller.ensures)
    (c.in-Err-2.ensures.cause (ap Err o))))) s.1)
