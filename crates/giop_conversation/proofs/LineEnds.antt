-- All that is written is whole lines.
use Rattle.std.proofs.Common.{arith, ◌≡◌, ℕ, Bool, true, List, [], ◌∷◌, ◌++◌, length, drop, flat_map, Option, Some, None, refl, sym, ap, ◌∙◌, codes, decimal}
use Rattle.giop_print.specs.Text.{joined}
use Rattle.giop_print.specs.Lines.{order_word, type_word, more_word, start_line, fault_line, stream_fault_line, continues_line, cancelled_line, total_line}
use Rattle.giop_message.specs.Headers.{minor, order, kind, size, has_more}
use Rattle.giop_message.specs.MessageReader.{LineClass, Value, Call, Rest, Fault, End}
use Rattle.giop_message.specs.Text.{numbered_line, line_class_text}
use Rattle.giop_message.specs.Signatures.{Answers}
use Rattle.giop_sig.specs.Table.{Table}
use Rattle.giop_stream.specs.Rules.{Rules, rules_by}
use Rattle.giop_stream.specs.HeaderOctets.{fronts, last_octet_fault, first_front_fault, first_wrong_octet}
use Rattle.giop_stream.specs.Framing.{limit, limited, cut_from, cut}
use Rattle.giop_stream.specs.Lines.{Content, Started, Said, ContinuesMessage, CancelledBy, Faulted, Stopped, StreamLine, in_order, up_to_last_line, lines_of_messages, stop_line, lines}
use Rattle.giop_stream.specs.Text as stream
use Rattle.giop_stream.specs.Stream.{text, closing}
use Rattle.giop_stream.specs.EngineHolds.{added}
use Rattle.giop_stream.proofs.StreamLaws.{added_both_by}
use Rattle.giop_calls.specs.declared.calls.Call.{Call as OutstandingCall}
use Rattle.tcp_flow.specs.declared.flow.CloseCause.{CloseCause}
use Rattle.tcp_segment.specs.declared.endpoint.Flow.{Flow}
use Rattle.tcp_segment.specs.EndpointText.{endpoint_text}
use Rattle.tcp_waiting.specs.declared.arrival.Arrival.{Arrival}
use Rattle.giop_conversation.specs.declared.lines.Opening.{Opening}
use Rattle.giop_conversation.specs.declared.lines.CaptureTotals.{CaptureTotals}
use Rattle.giop_conversation.specs.Times.{time_text, span_text}
use Rattle.giop_conversation.specs.Lines.{partner_text, passed_text, found_text, stream_line, time_line, answers_line, raises_line, cause_word, closed_line, capture_fault_line, capture_total_line}
use Rattle.giop_conversation.specs.TaggedText.{next_begins_line, is_tag_due}
use Rattle.giop_conversation.specs.Exchanges.{ExchangeView, Answering, Raising}
use Rattle.giop_stream.specs.DueOctets.{begun_in}
use Rattle.giop_conversation.specs.Stamped.{due_time_line, due_answers_line, due_raises_line, after_headers, lines_due, stamped}
use Rattle.giop_conversation.proofs.TagLemmas.{ends_append}

-- a text whose last part is LF ends a line
ends_joined : (first : Bool) (parts : List (List ℕ)) →
    next_begins_line first (joined (parts ++ codes "\n" ∷ [])) ≡ true
unfolding next_begins_line
ends_joined first [] = refl
ends_joined first (x ∷ xs) = ends_append first x (joined (xs ++ codes "\n" ∷ []))
    ∙ ends_joined (next_begins_line first x) xs

-- if two texts are whole lines, one after the other is too
pub ends_both : (xs ys : List ℕ) → is_tag_due xs ≡ true → is_tag_due ys ≡ true →
    is_tag_due (xs ++ ys) ≡ true
ends_both xs ys first second = search (arith, ends_append)

pub none_ends : is_tag_due [] ≡ true
unfolding next_begins_line
none_ends = refl

-- ---- the lines of a stream

numbered_ends : (number : ℕ) (text : List ℕ) → is_tag_due (numbered_line number text) ≡ true
unfolding numbered_line
numbered_ends number text = ends_joined true (codes "m" ∷ decimal number ∷ codes " " ∷ text ∷ [])

fault_ends : (number : ℕ) (word : List ℕ) (place : ℕ) → is_tag_due (fault_line number word place)
    ≡ true
unfolding fault_line
fault_ends number word place = ends_joined true
    (codes "m" ∷ decimal number ∷ codes " fault " ∷ word ∷ codes " at " ∷ decimal place ∷ [])

stream_fault_ends : (word : List ℕ) (place : ℕ) → is_tag_due (stream_fault_line word place) ≡ true
unfolding stream_fault_line
stream_fault_ends word place = ends_joined true
    (codes "stream fault " ∷ word ∷ codes " at " ∷ decimal place ∷ [])

start_ends : (number : ℕ) (header : List ℕ) → is_tag_due (stream.start_line number header) ≡ true
unfolding stream.start_line start_line
start_ends number header =
    ends_joined true (codes "m" ∷ decimal number ∷ codes " start 1." ∷ decimal (minor header) ∷
    codes " "
    ∷ order_word (order header) ∷ codes " " ∷ type_word (kind header) ∷ codes " size " ∷ decimal
    (size header) ∷ more_word (has_more header) ∷ [])

continues_ends : (number opener : ℕ) → is_tag_due (continues_line number opener) ≡ true
unfolding continues_line
continues_ends number opener = ends_joined true
    (codes "m" ∷ decimal number ∷ codes " continues m" ∷ decimal opener ∷ [])

cancelled_ends : (number by : ℕ) → is_tag_due (cancelled_line number by) ≡ true
unfolding cancelled_line
cancelled_ends number by = ends_joined true
    (codes "m" ∷ decimal number ∷ codes " cancelled by m" ∷ decimal by ∷ [])

class_ends : (place number : ℕ) (line_class : LineClass) (text : List ℕ) →
    is_tag_due (line_class_text place number line_class text) ≡ true
class_ends place number Value text = numbered_ends number text
class_ends place number Call text = numbered_ends number text
class_ends place number Rest text = numbered_ends number text
class_ends place number Fault text = fault_ends number text place
class_ends place number End text = numbered_ends number text

content_ends : (place number : ℕ) (content : Content) →
    is_tag_due (stream.content_line place number content) ≡ true
content_ends place number (Started header) = start_ends number header
content_ends place number (Said line_class text) = search (arith, class_ends)
content_ends place number (ContinuesMessage i) = continues_ends number i
content_ends place number (CancelledBy j) = cancelled_ends number j
content_ends place number (Faulted fault) = search (arith, fault_ends)
content_ends place number (Stopped fault) = search (arith, stream_fault_ends)

all_end : (ls : List StreamLine) → is_tag_due (flat_map stream.line_text ls) ≡ true
all_end [] = none_ends
all_end (l ∷ ls) = search (arith, ends_both, content_ends, all_end ls)

text_ends : (R : Rules) (p : List ℕ) → is_tag_due (text R p) ≡ true
unfolding text stream.lines_text
text_ends R p = all_end (lines R p)

no_text : (R : Rules) → text R [] ≡ []
unfolding text stream.lines_text lines lines_of_messages in_order up_to_last_line stop_line cut
    limited limit cut_from first_wrong_octet fronts first_front_fault last_octet_fault
no_text R = refl

-- the text that more octets add is whole lines
pub added_ends : (C : Table) (a : Answers) (most : ℕ) (p q : List ℕ) →
    is_tag_due (added (rules_by C a most) p q) ≡ true
unfolding added
added_ends C a most p q =
    let R = rules_by C a most in
    let of : (xs : List ℕ) → drop (length (text R [])) (text R xs) ≡ text R xs =
    λ xs. ap (λ (t : List ℕ). drop (length t) (text R xs)) (no_text R) in
    let both : text R (p ++ q) ≡ text R p ++ added R p q =
    sym (of (p ++ q)) ∙ (added_both_by C a most [] p q
    ∙ ap (λ (t : List ℕ). t ++ added R p q) (of p)) in
    ap (λ b. next_begins_line b (added R p q)) (sym (text_ends R p))
    ∙ (sym (ends_append true (text R p) (added R p q))
    ∙ (ap is_tag_due (sym both) ∙ text_ends R (p ++ q)))

-- ---- the closing

total_ends : (first : Bool) (messages faults octets : ℕ) →
    next_begins_line first (total_line messages faults octets) ≡ true
unfolding total_line
total_ends first messages faults octets =
    ends_joined first (codes "total messages " ∷ decimal messages ∷ codes " faults " ∷ decimal
    faults
    ∷ codes " octets " ∷ decimal octets ∷ [])

pub closing_ends : (R : Rules) (p : List ℕ) → is_tag_due (closing R p) ≡ true
unfolding closing
closing_ends R p = search (arith, flat_map, ends_append, total_ends)

-- ---- the lines of a capture

pub stream_line_ends : (flow : Flow) (opening : Opening) →
    is_tag_due (stream_line flow opening) ≡ true
unfolding stream_line
stream_line_ends flow opening =
    ends_joined true (codes "stream " ∷ endpoint_text flow.from ∷ codes " > " ∷ endpoint_text
    flow.to ∷ codes " at " ∷ time_text opening.time ∷ partner_text opening.partner
    ∷ passed_text opening.start.passed ∷ found_text opening.start.is_found ∷ [])

pub time_line_ends : (message : ℕ) (arrival : Arrival) → is_tag_due (time_line message arrival)
    ≡ true
unfolding time_line
time_line_ends message arrival = ends_joined true
    (codes "m" ∷ decimal message ∷ codes " time " ∷ time_text arrival.time ∷ codes " packet "
    ∷ decimal arrival.packet ∷ [])

pub answers_line_ends : (message : ℕ) (call : OutstandingCall) (time : Option ℕ) →
    is_tag_due (answers_line message call time) ≡ true
unfolding answers_line
answers_line_ends message call time =
    ends_joined true (codes "m" ∷ decimal message ∷ codes " answers s" ∷ decimal call.stream ∷ codes
    " m" ∷ decimal call.message
    ∷ codes " " ∷ call.name.items ∷ codes " after " ∷ span_text call.time time ∷ [])

pub raises_line_ends : (message : ℕ) (repository : List ℕ) →
    is_tag_due (raises_line message repository) ≡ true
unfolding raises_line
raises_line_ends message repository = ends_joined true
    (codes "m" ∷ decimal message ∷ codes " raises " ∷ repository ∷ [])

pub closed_line_ends : (cause : CloseCause) → is_tag_due (closed_line cause) ≡ true
unfolding closed_line
closed_line_ends cause = ends_joined true (codes "closed " ∷ cause_word cause ∷ [])

pub capture_fault_ends : (word : List ℕ) (at : ℕ) → is_tag_due (capture_fault_line word at) ≡ true
unfolding capture_fault_line
capture_fault_ends word at = ends_joined true
    (codes "capture fault " ∷ word ∷ codes " at " ∷ decimal at ∷ [])

pub capture_total_ends : (t : CaptureTotals) → is_tag_due (capture_total_line t) ≡ true
unfolding capture_total_line
capture_total_ends t =
    ends_joined true (codes "total streams " ∷ decimal t.streams ∷ codes " messages " ∷ decimal
    t.messages ∷ codes " faults " ∷ decimal t.faults ∷ codes " packets " ∷ decimal t.packets
    ∷ codes " octets " ∷ decimal t.octets ∷ codes " other " ∷ decimal t.others ∷ [])

pub closing_lines_end : (R : Rules) (p : List ℕ) (cause : CloseCause) →
    is_tag_due (closed_line cause ++ closing R p) ≡ true
closing_lines_end R p cause = search (arith, ends_both, closed_line_ends, closing_ends)

-- ---- the lines that are due after octets

time_due_ends : (begun : Option ℕ) (arrival : Arrival) → is_tag_due (due_time_line begun arrival)
    ≡ true
time_due_ends None arrival = none_ends
time_due_ends (Some message) arrival = time_line_ends message arrival

answers_due_ends : (answered : Option Answering) (time : Option ℕ) →
    is_tag_due (due_answers_line answered time) ≡ true
answers_due_ends None time = none_ends
answers_due_ends (Some a) time = search (arith, answers_line_ends)

raises_due_ends : (raised : Option Raising) → is_tag_due (due_raises_line raised) ≡ true
raises_due_ends None = none_ends
raises_due_ends (Some r) = search (arith, raises_line_ends)

pub lines_due_end : (R : Rules) (s : ExchangeView) (p octets : List ℕ) →
    is_tag_due (lines_due R s p octets) ≡ true
unfolding lines_due
lines_due_end R s p octets =
    let behind = after_headers R s p octets in
    ends_both (due_time_line (begun_in p octets) s.arrival) (due_answers_line behind.answered
    s.arrival.time
    ++ due_raises_line behind.raised)
    (time_due_ends (begun_in p octets) s.arrival) (ends_both (due_answers_line behind.answered
    s.arrival.time) (due_raises_line behind.raised)
    (answers_due_ends behind.answered s.arrival.time) (raises_due_ends behind.raised))

-- all that is written of octets is whole lines
pub stamped_ends : (C : Table) (a : Answers) (most : ℕ) (octets p : List ℕ) (s : ExchangeView) →
    is_tag_due (stamped (rules_by C a most) s p octets) ≡ true
unfolding stamped
stamped_ends C a most [] p s = none_ends
stamped_ends C a most (x ∷ xs) p s =
    let R = rules_by C a most in
    ends_both (added R p (x ∷ []) ++ lines_due R s p (x ∷ [])) _
    (ends_both (added R p (x ∷ [])) (lines_due R s p (x ∷ [])) (added_ends C a most p (x ∷ []))
    (lines_due_end R s p (x ∷ [])))
    (stamped_ends C a most xs (p ++ x ∷ []) _)
