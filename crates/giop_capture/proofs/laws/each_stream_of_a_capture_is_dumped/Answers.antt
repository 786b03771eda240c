-- The events of a capture have no gap, so no stream goes on after its close, and each stream has
-- closed.
use Rattle.std.proofs.Common.{◌≡◌, ◌<◌, ◌/◌, ℕ, ◌-◌, Some, [], ◌++◌, ◌∙◌, ap, sym, subst, arith, if◌then◌else◌}
use Rattle.std.specs.List.{AllByRecursion as Each}
use Rattle.tcp_flow.specs.Flow.{flow_of}
use Rattle.tcp_connections.specs.Connections.{none_known}
use Rattle.giop_stream.specs.Stream.{text, closing}
use Rattle.giop_conversation.specs.Captured.{start, rules_in, next_stream_number}
use Rattle.giop_conversation.specs.Followed.{stream_reader}
use Rattle.giop_conversation.specs.StreamTexts.{no_history, history}
use Rattle.giop_capture.specs.Arrivals.{capture_ended}
use Rattle.giop_capture.proofs.laws.each_stream_of_a_capture_is_dumped.Goals as goal

pub returns-clause-shows : goal.returns-clause-shows
returns-clause-shows c = λ S written ports blocks most octets d some few leads.
    let events = (capture_ended stream_reader (none_known ports blocks most []) octets).events in
    let shown = c.each_stream_is_dumped.ensures.shows S written events d leads in
    let gapless = c.no_stream_of_a_capture_has_a_gap.ensures.ended stream_reader ports blocks most
    octets some few in
    let ends = c.each_stream_is_dumped.ensures.ends S written events d leads
    (λ flow. (gapless.payloads, (gapless.follow flow).0, (gapless.follow flow).1)) in
    let every = c.no_stream_of_a_capture_has_a_gap.ensures.closed stream_reader ports blocks most
    octets some few in
    let closes = c.each_stream_is_dumped.ensures.closes S written events d leads
    (λ flow. (every.payloads, every.follow flow)) in
    record {
      parts = shown.parts;
      whole = shown.whole;
      shows = shown.shows;
      streams = λ number is.
          let one = shown.streams number is in
          record { reads_are = one.reads_are; own_are = one.own_are (ends number is) };
      closed = λ number is room.
          let s = (history S no_history (start S written) events d leads).stream number in
          let R = rules_in S s.answers in
          let one = shown.streams number is in
          one.own_are (ends number is)
          ∙ ap (λ b. text R s.octets ++ (if b then closing R s.octets else []))
          (closes number room);
    }

pub returns-clause-slots : goal.returns-clause-slots
returns-clause-slots c = λ S written ports blocks most octets d some few same leads number is first
    begun.
    let events = (capture_ended stream_reader (none_known ports blocks most []) octets).events in
    let k : ℕ = number - S.first in
    let slots =
    subst (λ (n : ℕ). Each (λ e. (id : ℕ) → flow_of e ≡ Some id → id / 2 < n) events)
    (sym same) (c.no_stream_of_a_capture_has_a_gap.ensures.slots stream_reader ports blocks
    most octets some few) in
    let room = c.each_stream_is_dumped.ensures.slots S written events d leads slots k
    (omega (arith, first, begun)) in
    let here : next_stream_number S k ≡ number = omega (arith, first, is.1) in
    rw here at room
