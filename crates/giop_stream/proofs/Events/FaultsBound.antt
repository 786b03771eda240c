-- How many faults a stream can have: each message has at most one, and the stream itself has at
-- most one: a stream fault or a truncated end.
use Rattle.std.proofs.Common.{inl, inr, ◌≡◌, ℕ, zero, suc, ◌+◌, ◌<◌, ◌≤◌, Bool, true, false, List, [], ◌∷◌, ◌++◌, length, take, drop, refl, sym, ap, ◌∙◌, Option, Some, None, arith}
use Rattle.std.specs.Prelude.{◌||◌, nat_lt, if◌then◌else◌, flat_map}
use Rattle.std.specs.List.{AllByRecursion as Each}
use Rattle.std.proofs.lemmas.Bool.{cases_lt, cases_eq, eq-eqb}
use Rattle.giop_checkpoint.specs.declared.fault.StreamFault.{StreamFault}
use Rattle.giop_message.specs.MessageReader.{LineClass, Value, Call, Rest, Fault, End, MessageReader, KeepsEarlierLines, IsStreamable}
use Rattle.giop_stream.specs.HeaderOctets.{fronts, first_wrong_octet}
use Rattle.giop_stream.specs.Rules.{Rules}
use Rattle.giop_stream.specs.Framing.{CutMessage, with_payload, Cut, with_first, cut_from, limit, stop_or_limit, limited, cut, messages}
use Rattle.giop_stream.specs.Events.{EventKind, Begins, Takes, Opens, Continues, Seams, Cancelled, Faults, Closes, Event, Open, OpenState, events_of_octet, events_of, open_after_events, before_by, events_from, events}
use Rattle.giop_stream.specs.Lines.{Kept, Content, Said, StreamLine, line, lines_of_event, lines_of_events, by_class, in_order, is_last_content, is_last_line_of, up_to_last_line, lines_of_messages, stop_line, lines}
use Rattle.giop_stream.specs.Stream.{is_fault, fault_count, ends_inside, is_truncated, totals_so_far, final}
use Rattle.giop_stream.proofs.Lists.{each_append, each_weaker, each_map, each_filter}
use Rattle.giop_stream.proofs.Cuts.CutFrom.{cut_wrong, cut_short, cut_open, cut_more}
use Rattle.giop_stream.proofs.Events.EventsOfOctet.{opened_append, events_of_octet_each, opened_each}
use Rattle.giop_stream.proofs.StreamLines.LinesOfOctet.{classes_each}
use Rattle.giop_stream.proofs.Events.AfterMoreEvents.{count_append}
use Rattle.giop_stream.proofs.CodeSteps.EngineAlive.{sound}

-- ---- The messages have the numbers from 1 to their count.

abbrev IsNumber : (n i : ℕ) → Type 0
IsNumber n i = (0 < i) × (i ≤ n)

abbrev Numbered : (first : ℕ) (cut_stream : Cut) → Type 0
Numbered first c = Each (λ m. (first ≤ m.number) × (m.number < first + length (messages c)))
    (messages c)

numbered_first : (first : ℕ) (m : CutMessage) (c : Cut) → m.number ≡ first → Numbered (suc first) c
    → Numbered first (with_first m c)
unfolding with_first messages
numbered_first first m c number h = search (arith, each_weaker)

numbered_by : (fuel first before : ℕ) (xs : List ℕ)
    → ((first before : ℕ) (ys : List ℕ) → Numbered first (cut_from fuel first before ys))
    → (o : Option (ℕ × StreamFault)) → first_wrong_octet (take 12 xs) ≡ o →
    Numbered first (cut_from (suc fuel) first before xs)
unfolding messages
numbered_by fuel first before xs ih (Some found) e = rw (cut_wrong fuel first before xs found e) tt
numbered_by fuel first before xs ih None e = search (
  arith,
  cases_lt,
  cut_short,
  drop,
  take,
  cut_open,
  cut_more,
  numbered_first,
)

numbered_from : (fuel first before : ℕ) (xs : List ℕ) →
    Numbered first (cut_from fuel first before xs)
unfolding cut_from messages
numbered_from zero first before xs = tt
numbered_from (suc fuel) first before xs =
    numbered_by fuel first before xs (numbered_from fuel) (first_wrong_octet (take 12 xs)) refl

numbered : (p : List ℕ) → Numbered 1 (cut p)
unfolding cut limited messages
numbered p = go (nat_lt limit (length p))
  where
    whole : Cut
    whole = cut_from (suc (length p)) 1 0 (take limit p)

    all : Numbered 1 whole
    all = search (arith, numbered_from, take)

    stopped : (o : Option (ℕ × StreamFault)) → Numbered 1 (stop_or_limit o whole)
    stopped (Some found) = all
    stopped None = all

    go : (b : Bool) → Numbered 1 (limited b whole)
    go true = stopped whole.stop
    go false = all

-- ---- The subjects of the events and the lines have such numbers too.

module _ (R : Rules) (P : ℕ → Type 0) where
  abbrev Named : (es : List Event) → Type 0
  Named es = Each (λ e. P e.subject.number) es

  abbrev Live : (still_open : List Open) → Type 0
  Live still_open = Each (λ o. P o.opener.number) still_open

  events_of_each : (b : OpenState) (m : CutMessage) → P m.number → Live b.still_open →
      Named (events_of R.most b m)
  unfolding events_of
  events_of_each b m h k = go (fronts m.payload)
    where
      here : (front : List ℕ) → Named (events_of_octet R.most b (with_payload m front))
      here front = search (arith, events_of_octet_each, each_weaker)

      go : (fs : List (List ℕ)) → Named (flat_map
          (λ front. events_of_octet R.most b (with_payload m front)) fs)
      go [] = tt
      go (front ∷ fs) = search (arith, each_append, here, go fs)

  events_each : (past : List Event) (ms : List CutMessage) → Live (open_after_events [] past) →
      Each (λ m. P m.number) ms
      → Named (events_from R past ms)
  unfolding events_from before_by
  events_each past [] h k = tt
  events_each past (m ∷ ms) h k =
      let es = events_of R.most (before_by R past) m in
      let here = events_of_each (before_by R past) m k.0 h in
      let after = opened_each (λ subject. P subject.number) (open_after_events [] past) es h here in
      each_append (λ e. P e.subject.number) es (events_from R (past ++ es) ms) here
      (events_each (past ++ es) ms (rw (opened_append [] past es) after) k.1)

-- a line of one of n messages, which is the message's last line if it is a fault
record IsOne (n : ℕ) (l : StreamLine) : Type 0 where
  number : IsNumber n l.number
  last : is_fault l.content ≡ true → is_last_content l.content ≡ true

one_line : (n : ℕ) (e : Event) → IsNumber n e.subject.number → (content : Content)
    → (is_fault content ≡ true → is_last_content content ≡ true) → IsOne n (line e content)
unfolding line
one_line n e h content last = search (arith)

one_said : (n : ℕ) (e : Event) → IsNumber n e.subject.number → (s : LineClass) (text : List ℕ)
    → IsOne n (line e (Said s text))
one_said n e h Value text = search (arith, one_line)
one_said n e h Call text = search (arith, one_line)
one_said n e h Rest text = search (arith, one_line)
one_said n e h Fault text = search (arith, one_line)
one_said n e h End text = search (arith, one_line)

one_each : (R : MessageReader) (n : ℕ) (e : Event) → IsNumber n e.subject.number →
    (so_far all : Kept) (what : EventKind)
    → Each (IsOne n) (lines_of_event R e so_far all what)
unfolding lines_of_event
one_each R n e h so_far all Begins = search (arith, one_line)
one_each R n e h so_far all (Takes x) = search (arith, each_map, one_said)
one_each R n e h so_far all (Opens key) = tt
one_each R n e h so_far all (Continues i) = search (arith, one_line)
one_each R n e h so_far all Seams = tt
one_each R n e h so_far all (Cancelled j) = search (arith, one_line)
one_each R n e h so_far all (Faults fault) = search (arith, one_line)
one_each R n e h so_far all Closes = search (arith, each_map, one_said)

lines_each : (R : MessageReader) (n : ℕ) (all past es : List Event) →
    Each (λ e. IsNumber n e.subject.number) es
    → Each (IsOne n) (lines_of_events R all past es)
unfolding lines_of_events
lines_each R n all past [] h = tt
lines_each R n all past (e ∷ es) h = search (
  arith,
  each_append,
  one_each,
  lines_each R n all (past
      ++ e ∷ []) es h.1,
)

order_each : (P : StreamLine → Type 0) (n : ℕ) (ls : List StreamLine) → Each P ls →
    Each P (in_order n ls)
unfolding in_order by_class
order_each P zero ls h = tt
order_each P (suc n) ls h = search (
  arith,
  each_append,
  classes_each,
  each_filter,
  order_each P n
      ls h,
)

-- ---- Each message that is not over can have one more fault.

-- how many of the messages 1 to n are not over
free : (ℕ → Bool) → ℕ → ℕ
free over zero = 0
free over (suc n) = (if over (suc n) then 0 else 1) + free over n

all_free : (n : ℕ) → free (λ i. false) n ≡ n
unfolding free
all_free zero = refl
all_free (suc n) = omega (arith, all_free n)

one_fewer : (b c : Bool) → (b ≡ true → c ≡ true) → (if c then 0 else 1) ≤ (if b then 0 else 1)
one_fewer b true h = omega arith
one_fewer true false h = search (arith)
one_fewer false false h = omega arith

module _ (f g : ℕ → Bool) (more : (i : ℕ) → f i ≡ true → g i ≡ true) where
  fewer_free : (n : ℕ) → free g n ≤ free f n
  unfolding free
  fewer_free zero = omega arith
  fewer_free (suc n) = search (arith, one_fewer, fewer_free n)

  -- the count is less, if one of the messages is over now that wasn't over before
  less_free : (k n : ℕ) → IsNumber n k → f k ≡ false → g k ≡ true → free g n < free f n
  unfolding free
  less_free k zero h e d = search (arith)
  less_free k (suc n) h e d = elim (cases_eq k (suc n)) [
    | inl same ↦
        let was : f (suc n) ≡ false = ap f (sym same) ∙ e in
        let now : g (suc n) ≡ true = ap g (sym same) ∙ d in
        rw (was, now) (omega (arith, fewer_free n))
    | inr other ↦
        let one = one_fewer (f (suc n)) (g (suc n)) (more (suc n)) in
        omega (arith, one, less_free k n (h.0, omega (arith, h.1, other)) e d)
  ]

faults_free : (n : ℕ) (over : ℕ → Bool) (ls : List StreamLine) → Each (IsOne n) ls
    → fault_count (up_to_last_line over ls) ≤ free over n
unfolding up_to_last_line fault_count is_last_line_of
faults_free n over [] h = omega arith
faults_free n over (l ∷ ls) h = go (over l.number) (is_fault l.content) refl refl
    (λ f. faults_free n f ls h.1)
  where
    then_over : ℕ → Bool
    then_over i = over i || is_last_line_of i l

    more : (i : ℕ) → over i ≡ true → then_over i ≡ true
    more i e = rw e refl

    go : (b c : Bool) → over l.number ≡ b → is_fault l.content ≡ c
        → ((f : ℕ → Bool) → fault_count (up_to_last_line f ls) ≤ free f n)
        → fault_count (if b then up_to_last_line over ls else l ∷ up_to_last_line then_over ls) ≤
        free over n
    go true c e k ih = ih over
    go false true e k ih =
        let last : then_over l.number ≡ true =
        rw (e, eq-eqb l.number l.number refl, h.0.last k) refl in
        rw k (omega (
          arith,
          ih then_over,
          less_free over then_over more l.number n h.0.number e
              last,
        ))
    go false false e k ih = search (arith, fewer_free, more)

-- ---- The bound for a stream.

numbers : (p : List ℕ) → Each (λ m. IsNumber (length (messages (cut p))) m.number)
    (messages (cut p))
numbers p = search (arith, each_weaker, numbered)

nothing_open : (P : ℕ → Type 0) → Each (λ o. P o.opener.number) (open_after_events [] [])
unfolding open_after_events
nothing_open P = tt

said_few : (R : Rules) (p : List ℕ) → fault_count (lines_of_messages R p) ≤ length
    (messages (cut p))
unfolding lines_of_messages events
said_few R p =
    let none : Each (λ o. IsNumber (length (messages (cut p))) o.opener.number)
    (open_after_events [] []) =
    nothing_open (IsNumber (length (messages (cut p)))) in
    let n = length (messages (cut p)) in
    let all = lines_of_events R.reading (events R p) [] (events R p) in
    let ones = lines_each R.reading n (events R p) [] (events R p)
    (events_each R (IsNumber n) [] (messages (cut p)) none (numbers p)) in
    let most = faults_free n (λ i. false) (in_order (length p) all)
    (order_each (IsOne n) (length p) all ones) in
    omega (arith, most, all_free n)

-- the stream's own fault
unfoldable pub stop_count : (found : Option (ℕ × StreamFault)) → ℕ
stop_count None = 0
stop_count (Some found) = 1

stop_faults : (stop : Option (ℕ × StreamFault)) → fault_count (stop_line stop) ≡ stop_count stop
unfolding fault_count stop_line stop_count
stop_faults None = refl
stop_faults (Some found) = refl

lines_few : (R : Rules) (p : List ℕ) → fault_count (lines R p) ≤ length (messages (cut p)) +
    stop_count (cut p).stop
unfolding lines
lines_few R p = search (arith, count_append, said_few, stop_faults)

pub one_stop : (stop : Option (ℕ × StreamFault)) → stop_count stop ≤ 1
unfolding stop_count
one_stop None = omega arith
one_stop (Some found) = omega arith

free_stop : (stop : Option (ℕ × StreamFault)) → stop ≡ None → stop_count stop ≡ 0
unfolding stop_count
free_stop None e = refl
free_stop (Some found) e = absurd cc

one_end : (stop : Option (ℕ × StreamFault)) (current : Option CutMessage) (held : List ℕ)
    → stop_count stop + (if ends_inside current held stop then 1 else 0) ≤ 1
unfolding stop_count ends_inside
one_end (Some found) current held = omega arith
one_end None current held = search (arith)

module _ (R : Rules) (causal : KeepsEarlierLines R.reading) (laws : IsStreamable R.reading)
    (p : List ℕ)
  where
    pub tally_faults : (totals_so_far R p).faults ≤ (totals_so_far R p).messages + stop_count
        (cut p).stop
    unfolding totals_so_far
    tally_faults = omega (arith, lines_few R p, (sound R causal laws p).starts)

    pub faults_few : (cut p).stop ≡ None → (totals_so_far R p).faults ≤ (totals_so_far R p).messages
    faults_few free = search (arith, tally_faults, free_stop)

    pub all_faults : (final R p).faults ≤ suc (final R p).messages
    unfolding final is_truncated
    all_faults = search (arith, tally_faults, one_end)
