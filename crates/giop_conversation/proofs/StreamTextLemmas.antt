-- The text of a capture, after one more event: what it has of each stream.
use Rattle.std.proofs.Common.{◌≡◌, ℕ, zero, suc, ◌/◌, ◌==◌, ◌<◌, arith, Bool, true, false, ◌||◌, List, [], ◌∷◌, ◌++◌, length, map, flat_map, drop, Option, Some, None, IfSome, refl, sym, ap, subst, ◌∙◌, append-nil, append_assoc, slice_get, replicate, nat_lt, if◌then◌else◌}
use Rattle.std.proofs.lemmas.Bool.{eqb-true, eq-eqb, lt-ltb, ltb-true, false_from_ne_true}
use Rattle.std.proofs.lemmas.List.{length-replicate}
use Rattle.std.proofs.lemmas.Option.{slice_get_within}
use Rattle.std.proofs.lemmas.Grind.{flat_map-append}
use Rattle.giop_print.specs.Output.{saturating_next}
use Rattle.giop_sig.specs.Table.{Table}
use Rattle.giop_message.specs.Signatures.{Answers}
use Rattle.giop_stream.specs.Rules.{Rules, rules_by}
use Rattle.giop_stream.specs.Stream.{text, closing}
use Rattle.giop_stream.specs.AnswersAgree.{AnswersAgree}
use Rattle.giop_stream.specs.EngineHolds.{added}
use Rattle.giop_stream.proofs.StreamLaws.{added_both_by}
use Rattle.tcp_flow.specs.Flow.{Event, Opens, Begins, Delivers, Closes, OfCapture, ComesFrom, Passes, HasFault}
use Rattle.tcp_flow.specs.declared.flow.Start.{Start}
use Rattle.tcp_flow.specs.declared.flow.CloseCause.{CloseCause}
use Rattle.tcp_segment.specs.declared.endpoint.Flow.{Flow}
use Rattle.giop_conversation.specs.declared.conversation.Side.TheVariants.{Even, Odd}
use Rattle.giop_conversation.specs.Tags.{stream_tag, with_tags}
use Rattle.giop_conversation.specs.Lines.{capture_fault_line}
use Rattle.giop_conversation.specs.Followed.{side_of, other}
use Rattle.giop_conversation.specs.Captured.{Setup, Half, Connection, Dump, Leads, AnswersFitEvent, AnswersAreOfCalls, start, new_connection, half, rules_in, next_stream_number, lines_of_delivered, calls_after_octets, opening, dump_after_open, dump_after_begin, dump_after_octets, dump_after_close, closed_lines, dump_after_event, calls_in}
use Rattle.giop_conversation.specs.CaptureParts.{StreamPart, giopdump_read_lines, giopdump_lines, CapturePart, OfStream, FaultLine, part_text, parts_text, lines_if_of_stream, giopdump_read_lines_of, giopdump_lines_of}
use Rattle.giop_conversation.specs.StreamTexts.{StreamHistory, new_stream, with_octets, with_close, History, no_history, with_begun, with_stream, history_after_event, history, IsDumped, IsUnique, ShowsStreams}
use Rattle.giop_conversation.specs.Exchanges.{ExchangeView}
use Rattle.giop_conversation.specs.Stamped.{begin_lines}
use Rattle.giop_conversation.proofs.EmptyStream.{no_text, one_closing}
use Rattle.giop_conversation.proofs.PartLemmas.{AreParts, whole_both, are_whole, text_is, of_it, of_another, begin_parts, closed_parts, stamped_parts}
use Rattle.giop_conversation.proofs.StreamNumbers.{flow_id, IsHalf, HasHalf, HasHalves, AreHalves, AreNumbered, numbers_begun, numbers_with, stream_at, stream_else, unequal, own_half, halves_on, half_on, no_slot}

-- ---- the whole

pub record AreShown (S : Setup) (written : List ℕ) (h : History) (d : Dump) : Type 0 where
  pub count : d.streams ≡ h.begun
  pub halves : AreHalves S h d.connections
  pub numbers : AreNumbered S h
  pub shows : ShowsStreams S written h d.text

-- ---- a text goes on

-- the text goes on by lines of a stream
more_lines : (S : Setup) (written : List ℕ) (h behind : History) (all : List ℕ) (n : ℕ)
    (lines reads own : List ℕ) →
    ShowsStreams S written h all → AreParts lines reads own →
    ((m : ℕ) → IsUnique m → (n == m) ≡ false → behind.stream m ≡ h.stream m) →
    (IsUnique n → (r o : List ℕ) → IsDumped S (h.stream n) r o →
    IsDumped S (behind.stream n) (r ++ reads) (o ++ own)) →
    ShowsStreams S written behind (all ++ with_tags (stream_tag n) lines)
more_lines S written h behind all n lines reads own t more others here = record {
  parts = t.parts ++ new;
  whole = whole_both t.parts new t.whole (are_whole n more.parts more.whole);
  shows = shown;
  streams = λ m is. by m is (n == m) refl;
}
  where
    new : List CapturePart
    new = map (OfStream n) more.parts

    shown : all ++ with_tags (stream_tag n) lines ≡ written ++ parts_text (t.parts ++ new)
    shown = search (arith, append_assoc, text_is, flat_map-append)

    of : (m : ℕ) (f : StreamPart → List ℕ) (x : List ℕ) → flat_map (lines_if_of_stream f m) new
        ≡ x →
        flat_map (lines_if_of_stream f m) (t.parts ++ new) ≡ flat_map (lines_if_of_stream f m)
        t.parts ++ x
    of m f x is = search (arith, flat_map-append, flat_map)

    by : (m : ℕ) → IsUnique m → (b : Bool) → (n == m) ≡ b →
        IsDumped S (behind.stream m) (giopdump_read_lines_of m (t.parts ++ new))
        (giopdump_lines_of m (t.parts ++ new))
    by m is true same =
        let it : n ≡ m = eqb-true _ _ same in
        subst (λ k. IsDumped S (behind.stream k) (giopdump_read_lines_of k (t.parts ++ new))
        (giopdump_lines_of k (t.parts ++ new))) it
        (rw (
          of n giopdump_read_lines reads (of_it giopdump_read_lines n more.parts ∙ more.reads_are),
          of n giopdump_lines own (of_it giopdump_lines n more.parts ∙ more.own_are),
        )
        (here (subst IsUnique (sym it) is) (giopdump_read_lines_of n t.parts) (giopdump_lines_of n
        t.parts)
        (t.streams n (subst IsUnique (sym it) is))))
    by m is false apart =
        rw (
          of m giopdump_read_lines [] (of_another giopdump_read_lines n m more.parts apart),
          of m giopdump_lines [] (of_another giopdump_lines n m more.parts apart),
          append-nil (giopdump_read_lines_of m t.parts),
          append-nil (giopdump_lines_of m t.parts),
          others m is apart,
        )
        (t.streams m is)

-- the text goes on by the fault of the capture
more_fault : (S : Setup) (written : List ℕ) (h : History) (all word : List ℕ) (at : ℕ) →
    ShowsStreams S written h all →
    ShowsStreams S written h (all ++ capture_fault_line word at)
more_fault S written h all word at t = record {
  parts = t.parts ++ new;
  whole = whole_both t.parts new t.whole (tt, tt);
  shows = ap (λ (x : List ℕ). x ++ line) t.shows
      ∙ (append_assoc written (parts_text t.parts) line
      ∙ ap (λ (x : List ℕ). written ++ x)
      (sym (flat_map-append part_text t.parts new
      ∙ ap (λ (x : List ℕ). parts_text t.parts ++ x) (append-nil line))));
  streams = λ m is. rw (of m giopdump_read_lines, of m giopdump_lines) (t.streams m is);
}
  where
    line : List ℕ
    line = capture_fault_line word at

    new : List CapturePart
    new = FaultLine word at ∷ []

    of : (m : ℕ) (f : StreamPart → List ℕ) →
        flat_map (lines_if_of_stream f m) (t.parts ++ new) ≡ flat_map (lines_if_of_stream f m)
        t.parts
    of m f = search (arith, flat_map-append, append-nil, flat_map)

-- ---- events

pub never : (b c : Bool) → (b || c) ≡ false → (b ≡ false) × (c ≡ false)
never true c is = absurd cc
never false c is = (refl, is)

text_more : (C : Table) (a : Answers) (most : ℕ) (p q : List ℕ) →
    text (rules_by C a most) p ++ added (rules_by C a most) p q ≡ text (rules_by C a most) (p ++ q)
unfolding added
text_more C a most p q =
    let R = rules_by C a most in
    let of : (xs : List ℕ) → drop (length (text R [])) (text R xs) ≡ text R xs =
    λ xs. ap (λ (t : List ℕ). drop (length t) (text R xs)) (no_text R) in
    ap (λ (t : List ℕ). t ++ added R p q) (sym (of p))
    ∙ (sym (added_both_by C a most [] p q) ∙ of (p ++ q))

module _ (S : Setup) (written : List ℕ)
    (agree : (a b : Answers) (p : List ℕ) → AnswersAgree S.table S.messages p a b →
    text (rules_in S a) p ≡ text (rules_in S b) p) where
  on_opened : (h : History) (d : Dump) (id : ℕ) (flow : Flow) (o : Option Connection) →
      slice_get d.connections (id / 2) ≡ o →
      AreShown S written h d → AreShown S written h (dump_after_open d id flow o)
  on_opened h d id flow None is b = b
  on_opened h d id flow (Some c) is b = search (arith, own_half, half_on)

  on_begun : (h : History) (d : Dump) (id : ℕ) (start : Start) (o : Option Connection) →
      slice_get d.connections (id / 2) ≡ o →
      AreShown S written h d → AreShown S written
      (with_begun h id (next_stream_number S h.begun) (nat_lt (id / 2) S.connections))
      (dump_after_begin S d id start o)
  on_begun h d id start None is b =
      let past = no_slot d.connections (id / 2) is in
      let none : nat_lt (id / 2) S.connections ≡ false =
      false_from_ne_true _ (λ some. let low = ltb-true _ _ some in let slots = b.halves.slots in
      omega (arith, past, low, slots)) in
      rw none (record {
        count = ap saturating_next b.count;
        halves = record {
          slots = b.halves.slots;
          halves =
              λ i. by i (slice_get d.connections i) (b.halves.halves i);
        };
        numbers = numbers_begun S h id false (λ is. absurd cc) b.numbers;
        shows = record {
          parts = b.shows.parts;
          whole = b.shows.whole;
          shows = b.shows.shows;
          streams = b.shows.streams;
        };
      })
    where
      by : (i : ℕ) (o : Option Connection) → IfSome o (HasHalves S h i) →
          IfSome o (HasHalves S (with_begun h id (next_stream_number S h.begun) false) i)
      by i None has = tt
      by i (Some c) has = search (arith, text_is)
  on_begun h d id start (Some c) is b =
      let low = slice_get_within d.connections (id / 2) c is in
      let slots = b.halves.slots in
      let room : id / 2 < S.connections = omega (arith, low, slots) in
      let some : nat_lt (id / 2) S.connections ≡ true = lt-ltb _ _ room in
      let n = next_stream_number S d.streams in
      let s = half (side_of id) c in
      let opens = opening (side_of id) d.arrival.time start c in
      let lines = begin_parts s.flow opens in
      let new : IsUnique n → h.stream n ≡ new_stream =
      λ number. b.numbers.fresh n number (rw b.count (omega arith)) in
      rw some (record {
        count = ap saturating_next b.count;
        halves = half_on S h (with_begun h id (next_stream_number S h.begun) true) d.connections id
            c
            (record s { stream = n; is_live = true; octets = [] }) is b.halves
            (λ g m p a apart k. record {
              stream_is = k.stream_is ∙ sym (rw (unequal g id apart) refl);
              octets_are = k.octets_are;
              text_is = k.text_is;
              closing_is = k.closing_is;
            })
            (record {
              stream_is = ap (next_stream_number S) b.count ∙ sym (rw (eq-eqb id id refl) refl);
              octets_are = λ number. ap (λ (t : StreamHistory). t.octets) (sym (new number));
              text_is = λ number. no_text (rules_in S s.answers)
                  ∙ sym (no_text (rules_in S (h.stream n).answers));
              closing_is = λ number. one_closing (rules_in S s.answers)
                  (rules_in S (h.stream n).answers);
            });
        numbers = numbers_begun S h id true (λ is. room) b.numbers;
        shows = more_lines S written h (with_begun h id (next_stream_number S h.begun) true) d.text
            n
            (begin_lines s.flow opens) [] [] b.shows lines
            (λ m number apart. refl) (λ number r o t. rw (append-nil r, append-nil o) t);
      })

  -- a stream that isn't the stream of the flow changes
  half_stays : (h : History) (m : ℕ) (s : StreamHistory) (g n : ℕ) (p : List ℕ) (a : Answers) →
      (IsUnique n → (with_stream h m s).stream n ≡ h.stream n) → IsHalf S h g n p a →
      IsHalf S (with_stream h m s) g n p a
  half_stays h m s g n p a stays it = search (arith, text_is)

  -- the same if the stream that changes is the stream of another flow
  half_with : (h : History) (s : StreamHistory) (id g n : ℕ) (p : List ℕ) (a : Answers) →
      AreNumbered S h → (g ≡ id → ⊥) →
      IsHalf S h g n p a → IsHalf S (with_stream h (h.stream_of id) s) g n p a
  half_with h s id g n p a k apart it = search (arith, half_stays, stream_else, unequal)

  -- the stream of a flow without a slot has no number, so no stream with a number changes
  beyond_is : (h : History) (s : StreamHistory) (id m : ℕ) → h.stream_of id ≡ 0 → IsUnique m →
      (with_stream h (h.stream_of id) s).stream m ≡ h.stream m
  beyond_is h s id m none number = search (arith, stream_else, unequal)

  on_nothing : (h : History) (s : StreamHistory) (d : Dump) (id : ℕ) →
      slice_get d.connections (id / 2) ≡ None →
      AreShown S written h d → AreShown S written (with_stream h (h.stream_of id) s) d
  on_nothing h s d id is b = search (
    arith,
    no_slot,
    slice_get,
    numbers_with,
    beyond_is,
    half_stays,
    flow_id,
  )

  on_delivered : (a : Answers) (h : History) (d : Dump) (id : ℕ) (octets : List ℕ)
      (o : Option Connection) →
      slice_get d.connections (id / 2) ≡ o →
      IfSome o (λ c. AnswersAreOfCalls S a (side_of id) octets d.arrival c) → AreShown S written h d
      →
      AreShown S written (with_stream h (h.stream_of id)
      (with_octets a octets (h.stream (h.stream_of id)))) (dump_after_octets S a d id octets o)
  on_delivered a h d id octets None is answered b =
      on_nothing h (with_octets a octets (h.stream (h.stream_of id))) d id is b
  on_delivered a h d id octets (Some c) is answered b = record {
    count = b.count;
    halves = halves_on S h behind d.connections id c
        (record s { octets = s.octets ++ octets; answers = a; calls = calls.own })
        (record (half (other (side_of id)) c) { calls = calls.opposite }) is b.halves
        (λ g m p x apart it. half_with h next id g m p x b.numbers apart it) own (λ g has. has);
    numbers = numbers_with S h n next (b.numbers.within id) b.numbers;
    shows = subst (λ m. ShowsStreams S written behind (d.text ++ with_tags (stream_tag m) lines))
        (sym k.stream_is)
        (more_lines S written h behind d.text n lines (added R s.octets octets)
        (added R s.octets octets) b.shows
        (stamped_parts S.table a S.messages octets s.octets (calls_in S (side_of id) d.arrival c))
        (λ m number apart. stream_else h n next m apart) here);
  }
    where
      R : Rules
      R = rules_in S a

      s : Half
      s = half (side_of id) c

      n : ℕ
      n = h.stream_of id

      next : StreamHistory
      next = with_octets a octets (h.stream n)

      behind : History
      behind = with_stream h n next

      calls : ExchangeView
      calls = calls_after_octets S a (side_of id) octets d.arrival c

      lines : List ℕ
      lines = lines_of_delivered S a (side_of id) octets d.arrival c

      k : HasHalf S h id s
      k = search (arith, own_half)

      at : behind.stream s.stream ≡ next
      at = search (arith, behind, k, stream_at, next)

      own : IsHalf S behind id s.stream (s.octets ++ octets) a
      own = search (arith, k, at, text_is, s)

      here : IsUnique n → (r o : List ℕ) → IsDumped S (h.stream n) r o →
          IsDumped S (behind.stream n) (r ++ added R s.octets octets) (o ++ added R s.octets octets)
      here number r o t =
          let number' = subst IsUnique (sym k.stream_is) number in
          let before : s.octets ≡ (h.stream n).octets =
          k.octets_are number' ∙ ap (λ m. (h.stream m).octets) k.stream_is in
          let first : text (rules_in S (h.stream n).answers) (h.stream n).octets ≡ text R s.octets =
          ap (text (rules_in S (h.stream n).answers)) (sym before)
          ∙ (ap (λ m. text (rules_in S (h.stream m).answers) s.octets) (sym k.stream_is)
          ∙ (sym (k.text_is number') ∙ agree s.answers a s.octets answered.before)) in
          let longer : text R s.octets ++ added R s.octets octets
          ≡ text R ((h.stream n).octets ++ octets) =
          text_more S.table a S.messages s.octets octets
          ∙ ap (λ (x : List ℕ). text R (x ++ octets)) before in
          rw (stream_at h n next) (record {
            reads_are = ap (λ (x : List ℕ). x ++ added R s.octets octets) (t.reads_are ∙ first)
                ∙ longer;
            own_are = λ goes.
                let still = never (h.stream n).goes_on (h.stream n).is_closed goes in
                let was : o ≡ text R s.octets =
                t.own_are still.0
                ∙ (ap (λ (x : Bool). text (rules_in S (h.stream n).answers) (h.stream n).octets
                ++ (if x then closing (rules_in S (h.stream n).answers) (h.stream n).octets else
                [])) still.1
                ∙ (append-nil (text (rules_in S (h.stream n).answers) (h.stream n).octets) ∙ first))
                in
                rw still.1
                (ap (λ (x : List ℕ). x ++ added R s.octets octets) was
                ∙ (longer ∙ sym (append-nil (text R ((h.stream n).octets ++ octets)))));
          })

  on_closed : (h : History) (d : Dump) (id : ℕ) (cause : CloseCause) (o : Option Connection) →
      slice_get d.connections (id / 2) ≡ o →
      AreShown S written h d → AreShown S written
      (with_stream h (h.stream_of id) (with_close (h.stream (h.stream_of id))))
      (dump_after_close S d id cause o)
  on_closed h d id cause None is b = search (arith, on_nothing)
  on_closed h d id cause (Some c) is b = record {
    count = b.count;
    halves = half_on S h behind d.connections id c (record s { is_live = false }) is b.halves
        (λ g m p a apart it. kept g m p a it) (kept id s.stream s.octets s.answers k);
    numbers = numbers_with S h n next (b.numbers.within id) b.numbers;
    shows = subst (λ m. ShowsStreams S written behind
        (d.text ++ with_tags (stream_tag m) (closed_lines S (side_of id) cause c)))
        (sym k.stream_is)
        (more_lines S written h behind d.text n (closed_lines S (side_of id) cause c) []
        (closing R s.octets) b.shows
        (closed_parts R s.octets cause) (λ m number apart. stream_else h n next m apart) here);
  }
    where
      s : Half
      s = half (side_of id) c

      R : Rules
      R = rules_in S s.answers

      n : ℕ
      n = h.stream_of id

      next : StreamHistory
      next = with_close (h.stream n)

      behind : History
      behind = with_stream h n next

      k : HasHalf S h id s
      k = search (arith, own_half)

      -- the octets and the answers of a stream stay
      stays : {X : Type 0} (f : List ℕ → Answers → X) (m : ℕ) →
          f (behind.stream m).octets (behind.stream m).answers
          ≡ f (h.stream m).octets (h.stream m).answers
      stays f m = at (n == m) refl
        where
          at : (b : Bool) → (n == m) ≡ b → f (behind.stream m).octets (behind.stream m).answers
              ≡ f (h.stream m).octets (h.stream m).answers
          at true same = search (arith, eqb-true)
          at false apart = rw apart refl

      kept : (g m : ℕ) (p : List ℕ) (a : Answers) → IsHalf S h g m p a → IsHalf S behind g m p a
      kept g m p a it = search (arith, stays, text_is)

      here : IsUnique n → (r o : List ℕ) → IsDumped S (h.stream n) r o →
          IsDumped S (behind.stream n) (r ++ []) (o ++ closing R s.octets)
      here number r o t = search (arith, k, s, stream_at, next, append-nil, never)

  pub on_event : (a : Answers) (h : History) (d : Dump) (e : Event) → AnswersFitEvent S a d e →
      AreShown S written h d →
      AreShown S written (history_after_event S a h e) (dump_after_event S a d e)
  on_event a h d (Opens id flow) answered b = search (arith, on_opened)
  on_event a h d (Begins id start) answered b = search (arith, on_begun)
  on_event a h d (Delivers id octets) answered b = search (arith, on_delivered)
  on_event a h d (Closes id cause) answered b = search (arith, on_closed)
  on_event a h d (OfCapture (ComesFrom arrival)) answered b = search (arith)
  on_event a h d (OfCapture (HasFault word at)) answered b = search (arith, more_fault)
  on_event a h d (OfCapture (Passes octets)) answered b = search (arith)

  on_events : (events : List Event) (h : History) (d behind : Dump)
      (leads : Leads S d events behind) → AreShown S written h d →
      AreShown S written (history S h d events behind leads) behind
  on_events [] h d behind leads b = search (arith)
  on_events (e ∷ es) h d behind leads b =
      on_events es (history_after_event S leads.1.answers h e) leads.0 behind leads.2
      (subst (AreShown S written (history_after_event S leads.1.answers h e)) (sym leads.1.is)
      (on_event leads.1.answers h d e leads.1.answered b))

  -- ---- before a capture is read

  each_alike : {X : Type 0} (P : ℕ → X → Type 0) (x : X) (n : ℕ) → ((i : ℕ) → P i x) → (i : ℕ) →
      IfSome (slice_get (replicate n x) i) (P i)
  each_alike P x zero all i = tt
  each_alike P x (suc n) all zero = all 0
  each_alike P x (suc n) all (suc i) = each_alike (λ k. P (suc k)) x n (λ k. all (suc k)) i

  pub at_start : AreShown S written no_history (start S written)
  at_start = record {
    count = refl;
    halves = record {
      slots = length-replicate S.connections (new_connection S);
      halves = each_alike (HasHalves S no_history) (new_connection S) S.connections halves;
    };
    numbers = record {
      most = omega arith;
      within = λ f number. absurd (omega (arith, number.0));
      apart = λ f g number same. absurd (omega (arith, number.0));
      fresh = λ n number new. refl;
      beyond = λ f past. refl;
    };
    shows = record {
      parts = [];
      whole = tt;
      shows = sym (append-nil written);
      streams = λ m number. record {
        reads_are = sym (no_text R);
        own_are =
            λ goes. sym (append-nil (text R []) ∙ no_text R);
      };
    };
  }
    where
      R : Rules
      R = rules_in S new_stream.answers

      halves : (i : ℕ) → HasHalves S no_history i (new_connection S)
      halves i Even = search (arith, text_is)
      halves i Odd = search (arith, text_is)

  pub all_shown : (events : List Event) (d : Dump) (leads : Leads S (start S written) events d) →
      ShowsStreams S written (history S no_history (start S written) events d leads) d.text
  all_shown events d leads = search (arith, on_events, at_start)
