-- The text of each line (docs/FORMATS.md, Lines; meaning).
use Rattle.std.specs.Prelude.{◌≡◌, ℕ, zero, suc, ◌<◌, ◌⊎◌, Bool, true, false, List, [], ◌++◌, codes, decimal, Option, Some, None, IfSome}
use Rattle.std.specs.Borrow.{Bor}
use Rattle.giop_print.specs.Lines.{order_word, more_word}
use Rattle.giop_lines.specs.declared.line.Start.{Start}
use Rattle.giop_lines.specs.declared.line.Call.{Call}
use Rattle.giop_lines.specs.declared.line.Time.{Time}
use Rattle.giop_lines.specs.declared.line.Answers.{Answers}
use Rattle.giop_lines.specs.declared.line.Fault.{Fault}
use Rattle.giop_lines.specs.declared.line.StreamStart.{StreamStart}
use Rattle.giop_lines.specs.declared.line.Total.{Total}
use Rattle.giop_lines.specs.declared.line.CaptureTotal.{CaptureTotal}
use Rattle.giop_lines.specs.declared.line.Statement.{Statement}
use Rattle.giop_lines.specs.declared.line.Statement.TheVariants as said
use Rattle.giop_lines.specs.declared.line.DumpLine.{DumpLine}
use Rattle.giop_lines.specs.Names.{is_graphic_name, is_fault_or_closing_word, is_message_type_word, is_printable_text}
use Rattle.giop_lines.specs.Texts.{AreHexOctets}
use Rattle.giop_lines.specs.Paths.{IsPath}
use Rattle.giop_lines.specs.Values.{value_text, IsValue}

-- a word and a number, if there is one
abbrev pub word_with_number : (word : List ℕ) (number_or_nothing : Option ℕ) → List ℕ
word_with_number word None = []
word_with_number word (Some number) = word ++ decimal number

-- a space and a name, if there is one
abbrev pub spaced_name : (name_or_nothing : Option (Bor (List ℕ))) → List ℕ
spaced_name None = []
spaced_name (Some name) = codes " " ++ name.now

abbrev pub found_word : (found : Bool) → List ℕ
found_word true = codes " found"
found_word false = []

abbrev pub start_text : Start → List ℕ
start_text s = codes "start 1." ++ (decimal s.minor ++ (codes " " ++ (order_word s.order
    ++ (codes " " ++ (s.kind.now ++ (codes " size " ++ (decimal s.size ++ more_word s.more)))))))

abbrev pub call_text : Call → List ℕ
call_text c = codes "call " ++ (decimal c.id ++ (codes " " ++ (c.operation.now
    ++ spaced_name c.interface)))

abbrev pub time_text : Time → List ℕ
time_text t = codes "time " ++ (t.time.now ++ word_with_number (codes " packet ") t.packet)

abbrev pub answers_text : Answers → List ℕ
answers_text a = codes "answers s" ++ (decimal a.stream ++ (codes " m" ++ (decimal a.message
    ++ (codes " " ++ (a.operation.now ++ (codes " after " ++ a.seconds.now))))))

-- the word and the place of a fault
abbrev pub fault_text : Fault → List ℕ
fault_text f = f.word.now ++ (codes " at " ++ decimal f.place)

abbrev pub stream_text : StreamStart → List ℕ
stream_text s = codes "stream " ++ (s.source.now ++ (codes " > " ++ (s.target.now ++ (codes " at "
    ++ (s.time.now ++ (word_with_number (codes " with s") s.with
    ++ (word_with_number (codes " behind ") s.behind ++ found_word s.found)))))))

abbrev pub total_text : Total → List ℕ
total_text t = codes "total messages " ++ (decimal t.messages ++ (codes " faults "
    ++ (decimal t.faults ++ (codes " octets " ++ decimal t.octets))))

abbrev pub capture_text : CaptureTotal → List ℕ
capture_text t = codes "total streams " ++ (decimal t.streams ++ (codes " messages "
    ++ (decimal t.messages ++ (codes " faults " ++ (decimal t.faults ++ (codes " packets "
    ++ (decimal t.packets ++ (codes " octets " ++ (decimal t.octets
    ++ word_with_number (codes " other ") t.other)))))))))

abbrev pub statement_text : Statement → List ℕ
statement_text (said.Start s) = start_text s
statement_text (said.Value path v) = path.now ++ (codes " " ++ value_text v)
statement_text (said.Rest offset octets) =
    codes "rest @" ++ (decimal offset ++ (codes " " ++ octets.now))
statement_text (said.Call c) = call_text c
statement_text (said.Time t) = time_text t
statement_text (said.Answers a) = answers_text a
statement_text (said.Raises id) = codes "raises " ++ id.now
statement_text (said.Continues message) = codes "continues m" ++ decimal message
statement_text (said.Cancelled message) = codes "cancelled by m" ++ decimal message
statement_text (said.Fault f) = codes "fault " ++ fault_text f
statement_text said.Unfinished = codes "unfinished"
statement_text said.End = codes "end"
statement_text (said.Stream s) = stream_text s
statement_text (said.StreamFault f) = codes "stream fault " ++ fault_text f
statement_text (said.Closed word) = codes "closed " ++ word.now
statement_text (said.Total t) = total_text t
statement_text (said.CaptureFault f) = codes "capture fault " ++ fault_text f
statement_text (said.CaptureTotal t) = capture_text t
statement_text (said.Later text) = text.now

-- the text with a letter and a number before it; the number is left out if it is 0
abbrev pub prefixed_by_number : (letter : List ℕ) (number_unless_0 : ℕ) (rest : List ℕ) → List ℕ
prefixed_by_number letter zero rest = rest
prefixed_by_number letter (suc number) rest =
    letter ++ (decimal (suc number) ++ (codes " " ++ rest))

abbrev pub line_text : DumpLine → List ℕ
line_text l = prefixed_by_number (codes "s") l.stream
    (prefixed_by_number (codes "m") l.message (statement_text l.said))

-- a message type: a word, or a number
abbrev pub IsTypeWordOrNumber : (message_type : List ℕ) → Type 0
IsTypeWordOrNumber kind = (is_message_type_word kind ≡ true) ⊎ ((n : ℕ) × (n < 256) × (kind ≡
    decimal n))

-- two numbers that aren't 0, if they are there
abbrev pub AreNonzero : (numbers_if_any : Option ℕ × Option ℕ) → Type 0
AreNonzero pair = IfSome pair.0 (λ n. 0 < n) × IfSome pair.1 (λ n. 0 < n)

-- what the fields of a line may be, beyond the ranges of their numbers
abbrev pub IsStatement : Statement → Type 0
IsStatement (said.Start s) = (s.minor < 3) × IsTypeWordOrNumber s.kind.now
IsStatement (said.Value path v) = IsPath path.now × IsValue v
IsStatement (said.Rest offset octets) = AreHexOctets octets.now
IsStatement (said.Call c) = (is_graphic_name c.operation.now ≡ true)
    × IfSome c.interface (λ name. is_graphic_name name.now ≡ true)
IsStatement (said.Time t) = IfSome t.packet (λ n. 0 < n)
IsStatement (said.Answers a) = (0 < a.stream) × (0 < a.message)
    × (is_graphic_name a.operation.now ≡ true)
IsStatement (said.Raises id) = is_graphic_name id.now ≡ true
IsStatement (said.Continues message) = 0 < message
IsStatement (said.Cancelled message) = 0 < message
IsStatement (said.Fault f) = is_fault_or_closing_word f.word.now ≡ true
IsStatement (said.Stream s) = AreNonzero (s.with, s.behind)
IsStatement (said.StreamFault f) = is_fault_or_closing_word f.word.now ≡ true
IsStatement (said.Closed word) = is_fault_or_closing_word word.now ≡ true
IsStatement (said.CaptureFault f) = is_fault_or_closing_word f.word.now ≡ true
IsStatement (said.Later text) = is_printable_text text.now ≡ true
IsStatement other = Unit {0}
