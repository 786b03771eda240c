-- What the connections of a capture have written, after one more event.
use Rattle.std.proofs.Common.{◌≡◌, ℕ, ◌<◌, ◌/◌, arith, Bool, true, false, ◌||◌, List, [], ◌∷◌, ◌++◌, length, Option, Some, None, IfSome, Result, Ok, Err, MatchResult, refl, sym, ap, subst, ◌∙◌, slice_get, set, nat_lt}
use Rattle.giop_print.specs.Output.{saturating_next, Writes}
use Rattle.tcp_flow.specs.Flow.{Event, Opens, Begins, Delivers, Closes, OfCapture, ComesFrom, Passes, HasFault}
use Rattle.tcp_flow.specs.declared.flow.Start.{Start}
use Rattle.tcp_flow.specs.declared.flow.CloseCause.{CloseCause}
use Rattle.tcp_segment.specs.declared.endpoint.Flow.{Flow}
use Rattle.giop_message.specs.Signatures.{Answers}
use Rattle.giop_stream.specs.declared.status.Totals.{Totals}
use Rattle.giop_stream.specs.Stream.{final}
use Rattle.tcp_waiting.specs.declared.arrival.Arrival.{Arrival}
use Rattle.giop_conversation.specs.declared.conversation.Conversation.{Conversation}
use Rattle.giop_conversation.specs.declared.lines.CaptureTotals.{CaptureTotals}
use Rattle.giop_conversation.specs.declared.lines.Opening.{Opening}
use Rattle.giop_conversation.specs.Tags.{stream_tag, with_tags}
use Rattle.giop_conversation.specs.TaggedState.{Tagging, tagging_log, IsReady, WroteTaggedFront}
use Rattle.giop_conversation.specs.Lines.{capture_fault_line, capture_total_line}
use Rattle.giop_conversation.specs.Stamped.{begin_lines}
use Rattle.giop_conversation.specs.StreamReads.{WritesTagged}
use Rattle.giop_conversation.specs.Followed.{side_of}
use Rattle.giop_conversation.specs.Captured.{Setup, Connection, Dump, Step, Leads, start, half, flow_opened, stream_begun, stream_ended, opening, totals_of, octets_delivered, lines_of_delivered, closed_lines, rules_in, saturating_sum, next_stream_number, cuts_stream, dump_after_open, dump_after_begin, dump_after_octets, dump_after_close, finished_text, AnswersAreOfCalls}
use Rattle.giop_conversation.specs.DumpHeld.{HoldsConnection, HasReadFlow, HoldsDump, HasWritten, HasWrittenFront, HasFinished, HasFinishedFront}
use Rattle.giop_conversation.proofs.Tagging.{ready_new}
use Rattle.giop_conversation.proofs.DumpLemmas.{leads_more, held_at, none_at, held_set, no_tag_is}
use Rattle.giop_conversation.proofs.LineEnds.{capture_fault_ends, capture_total_ends}
use Rattle.giop_conversation.proofs.StreamReadLemmas.{below_tag, nothing, nothing_stopped}

no_answers : Answers
no_answers number id = None

pub counted_is : (n : ℕ) → saturating_sum n 1 ≡ saturating_next n
unfolding saturating_next
counted_is n = refl

-- the sums after one stream more has begun, and after one has closed
abbrev pub with_streams : (t : CaptureTotals) (streams : ℕ) → CaptureTotals
with_streams t streams = record t { streams = streams }

abbrev pub with_counts : (t : CaptureTotals) (messages faults : ℕ) → CaptureTotals
with_counts t messages faults = record t { messages = messages; faults = faults }

pub still_sound : (n : ℕ) → n ≡ 0 → 0 < n → ⊥
still_sound n none some = omega (arith, none, some)

pub new_ready : (t : Tagging) (whole : Option (List ℕ)) (below : ℕ) (written : List ℕ) →
    t ≡ record {
      whole = whole;
      below = below;
      tag = [];
      due = 0;
      since = 0;
      refused = false;
      puts = 0;
      failures = 0;
    } →
    whole ≡ Some written → IsReady t written
new_ready t whole below written is known = search (arith, ready_new)

module _ (S : Setup) (written : List ℕ) (events : List Event) where
  -- an event that leads to the next dump, if its lines were written, or a front of them
  told_or_front : {A E : Type 0} (r : Result A E) (d behind : Dump) (e : Event)
      (slots : List Conversation) (out : Tagging)
      (arrival : Arrival) (first : ℕ) (totals : CaptureTotals) (cut : Bool) (tag lines : List ℕ) →
      Leads S (start S written) events d → Step S d e behind → behind.text ≡ d.text
      ++ with_tags tag lines →
      (IsReady out behind.text → HoldsDump S slots out arrival first totals cut
      behind) →
      WritesTagged r out d.text tag lines →
      MatchResult r (λ _. HasWritten S written (events ++ e ∷ []) slots out arrival first totals
      cut)
      (λ _. HasWrittenFront S written (events ++ e ∷ []) out)
  told_or_front (Ok v) d behind e slots out arrival first totals cut tag lines
      leads step text holds writes = search (arith, leads_more)
  told_or_front (Err v) d behind e slots out arrival first totals cut tag lines
      leads step text holds writes = search (arith, leads_more)

  module _ (slots : List Conversation) (out : Tagging) (arrival : Arrival)
      (first : ℕ) (totals : CaptureTotals) (cut : Bool) where
    abbrev Before : Type 0
    Before = HasWritten S written events slots out arrival first totals cut

    -- ---- an id stands for a flow

    pub opened_told : (flow : ℕ) (endpoints : Flow) (old new : Conversation) → Before →
        slice_get slots (flow / 2) ≡ Some old →
        ((c : Connection) → HoldsConnection S old c →
        HoldsConnection S new (flow_opened (side_of flow) endpoints c)) →
        HasWritten S written (events ++ Opens flow endpoints ∷ []) (set slots (flow / 2) new) out
        arrival first totals cut
    opened_told flow endpoints old new b here opens =
        let d = b.dump in
        let h = b.holds in
        let at = held_at S slots d.connections (flow / 2) old h.connections here in
        let behind = dump_after_open d flow endpoints (Some at.connection) in
        record {
          dump = behind;
          leads = leads_more S events (start S written) (Opens flow endpoints) d behind b.leads
              (record {
                answers = no_answers;
                answered = tt;
                is =
                    ap (dump_after_open d flow endpoints) (sym at.is);
              });
          holds = record {
            connections = held_set S slots d.connections (flow / 2) new
                (flow_opened (side_of flow) endpoints at.connection) h.connections
                (opens at.connection at.holds);
            ready = h.ready;
            arrival_is = h.arrival_is;
            first_is = h.first_is;
            streams_are = h.streams_are;
            messages_are = h.messages_are;
            faults_are = h.faults_are;
            others_are = h.others_are;
            cut_is = h.cut_is;
          };
        }

    pub opened_beyond : (flow : ℕ) (endpoints : Flow) → Before → slice_get slots (flow / 2) ≡ None →
        HasWritten S written (events ++ Opens flow endpoints ∷ []) slots out arrival first totals
        cut
    opened_beyond flow endpoints b beyond =
        let d = b.dump in
        let none = none_at S slots d.connections (flow / 2) b.holds.connections beyond in
        record {
          dump = d;
          leads = leads_more S events (start S written) (Opens flow endpoints) d d b.leads
              (record {
                answers = no_answers;
                answered = tt;
                is =
                    ap (dump_after_open d flow endpoints) (sym none);
              });
          holds = b.holds;
        }

    -- ---- a stream begins

    pub begun_told : {A E : Type 0} (r : Result A E) (flow : ℕ) (s : Start) (own next : ℕ)
        (old new : Conversation) (out' : Tagging) →
        own ≡ saturating_sum first totals.streams → next ≡ saturating_sum totals.streams 1 →
        Before →
        slice_get slots (flow / 2) ≡ Some old →
        ((c : Connection) → HoldsConnection S old c →
        HoldsConnection S new (stream_begun (side_of flow) own c)) →
        ((c : Connection) (w : List ℕ) → HoldsConnection S old c → IsReady out w →
        WritesTagged r out' w (stream_tag own) (begin_lines (half (side_of flow) c).flow
        (opening (side_of flow) arrival.time s c))) →
        MatchResult r
        (λ _. HasWritten S written (events ++ Begins flow s ∷ []) (set slots (flow / 2) new) out'
        arrival first (with_streams totals next) cut)
        (λ _. HasWrittenFront S written (events ++ Begins flow s ∷ []) out')
    begun_told r flow s own next old new out' own_is is b here begins writes =
        let d = b.dump in
        let h = b.holds in
        let has : own ≡ next_stream_number S d.streams =
        own_is ∙ (ap (λ n. saturating_sum n totals.streams) h.first_is
        ∙ ap (λ n. saturating_sum S.first n) h.streams_are) in
        let at = held_at S slots d.connections (flow / 2) old h.connections here in
        let endpoints = (half (side_of flow) at.connection).flow in
        let opens : Option ℕ → Opening = λ time. opening (side_of flow) time s at.connection in
        let step : Step S d (Begins flow s) (dump_after_begin S d flow s (Some at.connection)) =
        record {
          answers = no_answers;
          answered = tt;
          is = ap (dump_after_begin S d flow s)
              (sym at.is);
        } in
        let holds = subst (λ n. HoldsConnection S new (stream_begun (side_of flow) n at.connection))
        has (begins at.connection at.holds) in
        let lines = subst (λ n. WritesTagged r out' d.text (stream_tag n)
        (begin_lines endpoints (opens d.arrival.time))) has
        (subst (λ (t : Option ℕ). WritesTagged r out' d.text (stream_tag own)
        (begin_lines endpoints (opens t))) (ap (λ (x : Arrival). x.time) h.arrival_is)
        (writes at.connection d.text at.holds h.ready)) in
        told_or_front r d (dump_after_begin S d flow s (Some at.connection)) (Begins flow s)
        (set slots (flow / 2) new) out' arrival first (with_streams totals next) cut
        (stream_tag (next_stream_number S d.streams)) (begin_lines endpoints (opens d.arrival.time))
        b.leads
        step
        refl
        (λ ready. record {
          connections = held_set S slots d.connections (flow / 2) new
              (stream_begun (side_of flow) (next_stream_number S d.streams) at.connection)
              h.connections holds;
          ready = ready;
          arrival_is = h.arrival_is;
          first_is = h.first_is;
          streams_are = is ∙ (ap (λ n. saturating_sum n 1) h.streams_are ∙ counted_is d.streams);
          messages_are = h.messages_are;
          faults_are = h.faults_are;
          others_are = h.others_are;
          cut_is = h.cut_is;
        }) lines

    pub begun_beyond : (flow : ℕ) (s : Start) (next : ℕ) →
        next ≡ saturating_sum totals.streams 1 → Before →
        slice_get slots (flow / 2) ≡ None →
        HasWritten S written (events ++ Begins flow s ∷ []) slots out arrival first
        (with_streams totals next) cut
    begun_beyond flow s next is b beyond =
        let d = b.dump in
        let h = b.holds in
        let none = none_at S slots d.connections (flow / 2) h.connections beyond in
        record {
          dump = dump_after_begin S d flow s None;
          leads = leads_more S events (start S written) (Begins flow s) d
              (dump_after_begin S d flow s None) b.leads
              (record {
                answers = no_answers;
                answered = tt;
                is =
                    ap (dump_after_begin S d flow s) (sym none);
              });
          holds = record {
            connections = h.connections;
            ready = h.ready;
            arrival_is = h.arrival_is;
            first_is = h.first_is;
            streams_are = is ∙ (ap (λ n. saturating_sum n 1) h.streams_are ∙ counted_is d.streams);
            messages_are = h.messages_are;
            faults_are = h.faults_are;
            others_are = h.others_are;
            cut_is = h.cut_is;
          };
        }

    -- ---- octets are delivered

    pub delivered_told : {A E : Type 0} (r : Result A E) (flow : ℕ) (octets : List ℕ)
        (old new : Conversation) (out' : Tagging) → Before →
        slice_get slots (flow / 2) ≡ Some old →
        ((c : Connection) (w : List ℕ) → HoldsConnection S old c → IsReady out w →
        HasReadFlow S c (side_of flow) octets arrival w r new out') →
        MatchResult r
        (λ _. HasWritten S written (events ++ Delivers flow octets ∷ []) (set slots (flow / 2) new)
        out' arrival first totals cut)
        (λ _. HasWrittenFront S written (events ++ Delivers flow octets ∷ []) out')
    delivered_told r flow octets old new out' b here reads =
        let d = b.dump in
        let h = b.holds in
        let at = held_at S slots d.connections (flow / 2) old h.connections here in
        let side = side_of flow in
        let read = subst (λ (t : Arrival). HasReadFlow S at.connection side octets t d.text r new
        out') h.arrival_is
        (reads at.connection d.text at.holds h.ready) in
        let a = read.answers in
        let behind = dump_after_octets S a d flow octets (Some at.connection) in
        let step : Step S d (Delivers flow octets) behind = record {
          answers = a;
          answered = subst (λ (o : Option Connection).
              IfSome o (λ c. AnswersAreOfCalls S a side octets d.arrival c)) (sym at.is)
              read.answered;
          is = ap (dump_after_octets S a d flow octets) (sym at.is);
        } in
        by r d behind (half side at.connection).stream
        (lines_of_delivered S a side octets d.arrival at.connection)
        (HoldsConnection S new (octets_delivered S a side octets d.arrival at.connection)) b.leads
        step
        refl read.reads
        (λ holds ready. record {
          connections = held_set S slots d.connections (flow / 2) new
              (octets_delivered S a side octets d.arrival at.connection) h.connections holds;
          ready = ready;
          arrival_is = h.arrival_is;
          first_is = h.first_is;
          streams_are = h.streams_are;
          messages_are = h.messages_are;
          faults_are = h.faults_are;
          others_are = h.others_are;
          cut_is = h.cut_is;
        })
      where
        by : {A E : Type 0} (r : Result A E) (d behind : Dump) (stream : ℕ) (lines : List ℕ)
            (Held : Type 0) →
            Leads S (start S written) events d → Step S d (Delivers flow octets) behind →
            behind.text ≡ d.text ++ with_tags (stream_tag stream) lines →
            MatchResult r (λ _. Held × IsReady out' (d.text ++ with_tags (stream_tag stream) lines))
            (λ _. WroteTaggedFront out' d.text (stream_tag stream) lines) →
            (Held → IsReady out' behind.text → HoldsDump S (set slots (flow / 2) new) out' arrival
            first totals cut behind) →
            MatchResult r
            (λ _. HasWritten S written (events ++ Delivers flow octets ∷ []) (set slots (flow / 2)
            new)
            out' arrival first totals cut)
            (λ _. HasWrittenFront S written (events ++ Delivers flow octets ∷ []) out')
        by (Ok v) d behind stream lines Held leads step text read holds = search (arith, leads_more)
        by (Err v) d behind stream lines Held leads step text read holds = search (
          arith,
          leads_more,
        )

    -- nothing was written of a flow whose connection has no slot
    pub delivered_beyond : (flow : ℕ) (octets : List ℕ) (out' : Tagging) → Before →
        slice_get slots (flow / 2) ≡ None →
        out'.whole ≡ out.whole → HasWrittenFront S written (events ++ Delivers flow octets ∷ [])
        out'
    delivered_beyond flow octets out' b beyond same =
        let d = b.dump in
        let none = none_at S slots d.connections (flow / 2) b.holds.connections beyond in
        record {
          dump = d;
          leads = leads_more S events (start S written) (Delivers flow octets) d d b.leads
              (record {
                answers = no_answers;
                answered = subst (λ (o : Option Connection).
                    IfSome o (λ c. AnswersAreOfCalls S no_answers (side_of flow) octets d.arrival
                    c))
                    (sym none) tt;
                is = ap (dump_after_octets S no_answers d flow octets) (sym none);
              });
          before = d.text;
          tag = [];
          lines = [];
          text = sym (nothing d.text);
          front = record {
            size = 0;
            due = 0;
            whole =
                same ∙ (b.holds.ready.known ∙ ap Some (sym (nothing_stopped d.text)));
          };
        }

    -- ---- a stream closes

    pub closed_told : {A E : Type 0} (r : Result A E) (flow : ℕ) (cause : CloseCause)
        (old new : Conversation) (out' : Tagging)
        (messages' faults' : ℕ) (cut' : Bool) (had : Totals) → Before →
        slice_get slots (flow / 2) ≡ Some old →
        ((c : Connection) (w : List ℕ) → HoldsConnection S old c → IsReady out w →
        WritesTagged r out' w (stream_tag (half (side_of flow) c).stream)
        (closed_lines S (side_of flow) cause c)) →
        ((c : Connection) → HoldsConnection S old c →
        HoldsConnection S new (stream_ended (side_of flow) c)) →
        ((c : Connection) → HoldsConnection S old c →
        had ≡ final (rules_in S (half (side_of flow) c).answers)
        (half (side_of flow) c).octets) →
        messages' ≡ saturating_sum totals.messages had.messages →
        faults' ≡ saturating_sum totals.faults had.faults → cut' ≡ (cut || cuts_stream cause) →
        MatchResult r
        (λ _. HasWritten S written (events ++ Closes flow cause ∷ []) (set slots (flow / 2) new)
        out'
        arrival first (with_counts totals messages' faults') cut')
        (λ _. HasWrittenFront S written (events ++ Closes flow cause ∷ []) out')
    closed_told r flow cause old new out' messages' faults' cut' had b here writes closes ends more
        fault is_cut =
        let d = b.dump in
        let h = b.holds in
        let at = held_at S slots d.connections (flow / 2) old h.connections here in
        let side = side_of flow in
        let total = ends at.connection at.holds in
        let behind = dump_after_close S d flow cause (Some at.connection) in
        let step : Step S d (Closes flow cause) behind =
        record {
          answers = no_answers;
          answered = tt;
          is =
              ap (dump_after_close S d flow cause) (sym at.is);
        } in
        told_or_front r d behind (Closes flow cause) (set slots (flow / 2) new) out' arrival first
        (with_counts totals messages' faults') cut'
        (stream_tag (half side at.connection).stream) (closed_lines S side cause at.connection)
        b.leads step refl
        (λ ready. record {
          connections = held_set S slots d.connections (flow / 2) new
              (stream_ended side at.connection)
              h.connections (closes at.connection at.holds);
          ready = ready;
          arrival_is = h.arrival_is;
          first_is = h.first_is;
          streams_are = h.streams_are;
          messages_are = more ∙ (ap (λ n. saturating_sum n had.messages) h.messages_are
              ∙ ap (λ (t : Totals). saturating_sum d.messages t.messages) total);
          others_are = h.others_are;
          faults_are = fault ∙ (ap (λ n. saturating_sum n had.faults) h.faults_are
              ∙ ap (λ (t : Totals). saturating_sum d.faults t.faults) total);
          cut_is = is_cut ∙ ap (λ b. b || cuts_stream cause) h.cut_is;
        }) (writes at.connection d.text at.holds h.ready)

    pub closed_front : (flow : ℕ) (cause : CloseCause) (old : Conversation) (out' : Tagging) →
        Before →
        slice_get slots (flow / 2) ≡ Some old →
        ((c : Connection) (w : List ℕ) → HoldsConnection S old c → IsReady out w →
        WroteTaggedFront out' w (stream_tag (half (side_of flow) c).stream)
        (closed_lines S (side_of flow) cause c)) →
        HasWrittenFront S written (events ++ Closes flow cause ∷ []) out'
    closed_front flow cause old out' b here writes =
        let d = b.dump in
        let h = b.holds in
        let at = held_at S slots d.connections (flow / 2) old h.connections here in
        record {
          dump = dump_after_close S d flow cause (Some at.connection);
          leads = leads_more S events (start S written) (Closes flow cause) d
              (dump_after_close S d flow cause (Some at.connection)) b.leads
              (record {
                answers = no_answers;
                answered = tt;
                is =
                    ap (dump_after_close S d flow cause) (sym at.is);
              });
          before = d.text;
          tag = stream_tag (half (side_of flow) at.connection).stream;
          lines = closed_lines S (side_of flow) cause at.connection;
          text = refl;
          front = writes at.connection d.text at.holds h.ready;
        }

    pub closed_beyond : (flow : ℕ) (cause : CloseCause) → Before →
        slice_get slots (flow / 2) ≡ None →
        HasWritten S written (events ++ Closes flow cause ∷ []) slots out arrival first totals cut
    closed_beyond flow cause b beyond =
        let d = b.dump in
        let none = none_at S slots d.connections (flow / 2) b.holds.connections beyond in
        record {
          dump = d;
          leads = leads_more S events (start S written) (Closes flow cause) d d b.leads
              (record {
                answers = no_answers;
                answered = tt;
                is =
                    ap (dump_after_close S d flow cause) (sym none);
              });
          holds = b.holds;
        }

    -- ---- what happens in the capture

    pub packet_told : (now : Arrival) → Before →
        HasWritten S written (events ++ OfCapture (ComesFrom now) ∷ []) slots out now first totals
        cut
    packet_told now b =
        let d = b.dump in
        let h = b.holds in
        let behind = record d { arrival = now } in
        record {
          dump = behind;
          leads = leads_more S events (start S written) (OfCapture (ComesFrom now)) d
              behind b.leads
              (record { answers = no_answers; answered = tt; is = refl });
          holds = record {
            connections = h.connections;
            ready = h.ready;
            arrival_is = refl;
            first_is = h.first_is;
            streams_are = h.streams_are;
            messages_are = h.messages_are;
            faults_are = h.faults_are;
            others_are = h.others_are;
            cut_is = h.cut_is;
          };
        }

    pub fault_told : {A E : Type 0} (r : Result A E) (word : List ℕ) (place : ℕ) (tag : List ℕ)
        (set_out out' : Tagging) → Before →
        set_out ≡ record out { tag = tag; due = length tag; since = 0 } → tag ≡ [] →
        Writes r (tagging_log set_out) (tagging_log out') (capture_fault_line word place) →
        MatchResult r
        (λ _. HasWritten S written (events ++ OfCapture (HasFault word place) ∷ []) slots out'
        arrival
        first totals true)
        (λ _. HasWrittenFront S written (events ++ OfCapture (HasFault word place) ∷ []) out')
    fault_told r word place tag set_out out' b sets none writes =
        let d = b.dump in
        let h = b.holds in
        let line = capture_fault_line word place in
        let behind = record d { is_cut = true; text = d.text ++ line } in
        told_or_front r d behind (OfCapture (HasFault word place)) slots out' arrival first totals
        true [] line b.leads
        (record { answers = no_answers; answered = tt; is = refl })
        (ap (λ (t : List ℕ). d.text ++ t) (sym (no_tag_is line)))
        (λ ready. record {
          connections = h.connections;
          ready = ready;
          arrival_is = h.arrival_is;
          first_is = h.first_is;
          streams_are = h.streams_are;
          messages_are = h.messages_are;
          faults_are = h.faults_are;
          others_are = h.others_are;
          cut_is = refl;
        })
        (below_tag r out set_out out' d.text line tag [] h.ready sets none
        (capture_fault_ends word place) writes)

    pub passed_told : (octets : List ℕ) (next : ℕ) → next ≡ saturating_sum totals.others 1 →
        Before →
        HasWritten S written (events ++ OfCapture (Passes octets) ∷ []) slots out arrival first
        (record totals { others = next }) cut
    passed_told octets next is b =
        let d = b.dump in
        let h = b.holds in
        let behind = record d { others = saturating_next d.others } in
        record {
          dump = behind;
          leads = leads_more S events (start S written) (OfCapture (Passes octets)) d behind b.leads
              (record { answers = no_answers; answered = tt; is = refl });
          holds = record {
            connections = h.connections;
            ready = h.ready;
            arrival_is = h.arrival_is;
            first_is = h.first_is;
            streams_are = h.streams_are;
            messages_are = h.messages_are;
            faults_are = h.faults_are;
            others_are = is ∙ (ap (λ n. saturating_sum n 1) h.others_are ∙ counted_is d.others);
            cut_is = h.cut_is;
          };
        }

    -- ---- the end

    pub finished : {A E : Type 0} (r : Result A E) (packets octets : ℕ) (tag : List ℕ)
        (set_out out' : Tagging) → Before →
        set_out ≡ record out { tag = tag; due = length tag; since = 0 } → tag ≡ [] →
        Writes r (tagging_log set_out) (tagging_log out')
        (capture_total_line (record totals { packets = packets; octets = octets })) →
        MatchResult r (λ _. HasFinished S written events packets octets out'
        (cut || nat_lt 0 totals.faults))
        (λ _. HasFinishedFront S written events packets octets out')
    finished r packets octets tag set_out out' b sets none writes =
        let d = b.dump in
        let h = b.holds in
        let all = totals_of d packets octets in
        let line = capture_total_line all in
        let all_is : record totals { packets = packets; octets = octets } ≡ all =
        rw (h.streams_are, h.messages_are, h.faults_are, h.others_are) refl in
        let text : finished_text d packets octets ≡ d.text ++ with_tags [] line =
        ap (λ (t : List ℕ). d.text ++ t) (sym (no_tag_is line)) in
        let faulted : (cut || nat_lt 0 totals.faults) ≡ (d.is_cut || nat_lt 0 d.faults) =
        ap (λ c. c || nat_lt 0 totals.faults) h.cut_is
        ∙ ap (λ n. d.is_cut || nat_lt 0 n) h.faults_are in
        by r d line b.leads text faulted
        (below_tag r out set_out out' d.text line tag [] h.ready sets none
        (capture_total_ends all)
        (subst (λ (t : CaptureTotals). Writes r (tagging_log set_out) (tagging_log out')
        (capture_total_line t)) all_is writes))
      where
        by : {A E : Type 0} (r : Result A E) (d : Dump) (line : List ℕ) →
            Leads S (start S written) events d →
            finished_text d packets octets ≡ d.text ++ with_tags [] line →
            (cut || nat_lt 0 totals.faults) ≡ (d.is_cut || nat_lt 0 d.faults) →
            WritesTagged r out' d.text [] line →
            MatchResult r (λ _. HasFinished S written events packets octets out'
            (cut || nat_lt 0 totals.faults))
            (λ _. HasFinishedFront S written events packets octets out')
        by (Ok v) d line leads text faulted writes = search (arith)
        by (Err v) d line leads text faulted writes = search (arith)
