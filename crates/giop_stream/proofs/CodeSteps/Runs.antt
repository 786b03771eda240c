-- A message that takes a run of octets at once: the lines and what is left are the same as octet by
-- octet.
use Rattle.std.proofs.Common.{◌≡◌, ℕ, suc, ◌+◌, Bool, true, false, List, [], ◌∷◌, ◌++◌, take, drop, refl, sym, ap, subst, ◌∙◌, append_assoc, append-nil, add-one, Option, Some, None, Result, Ok, arith}
use Rattle.std.specs.Prelude.{if◌then◌else◌, slice_get, option_map}
use Rattle.std.proofs.lemmas.List.{take-append-drop}
use Rattle.giop_print.specs.Output.{OutLog, Wrote}
use Rattle.giop_sig.specs.Table.{Table}
use Rattle.giop_message.specs.declared.message.Message.{Message}
use Rattle.giop_message.specs.Signatures.{Signatures, Answers, signatures_of}
use Rattle.giop_message.specs.Messages.{read_message, stage_of}
use Rattle.giop_message.specs.ReaderOfTable.{message_reader, is_over}
use Rattle.giop_message.specs.DueOctets.{TakesFront}
use Rattle.giop_message.specs.HeaderEnds.{HeaderEnd}
use Rattle.giop_message.specs.MessageState.{more_lines_text, Follows, FaultedAt}
use Rattle.giop_message.proofs.MessageLaws.{octet_over, text_both, text_none, text_over, text_ended, over_where_faulted, told_more, follows_goes}
use Rattle.giop_entry_table.specs.OptionalIds.{with_value}
use Rattle.giop_stream.specs.declared.slots.Slot.{Slot as Contents}
use Rattle.giop_stream.specs.declared.slots.Slots.{Slots}
use Rattle.giop_stream.specs.declared.slots.PayloadOwner.{PayloadOwner}
use Rattle.giop_stream.specs.Events.{MessageKey, Takes, NumbersRise, octets_of_event}
use Rattle.giop_stream.specs.Lines.{StreamLine, Kept}
use Rattle.giop_stream.specs.Text.{lines_text}
use Rattle.giop_stream.specs.Stream.{fault_count}
use Rattle.giop_stream.specs.Effects.{MessageEffect, message_effect, tracked_after_event, lines_of, message_kept_after, no_effect, no_message_effect, event}
use Rattle.giop_stream.specs.OpenSlots.{Tracked}
use Rattle.giop_stream.specs.SlotsRepresent.{RepresentsMessage, SlotsRepresent, index_of}
use Rattle.giop_stream.specs.DoesEffect.{DoesEffect, DoesMessageEffect, count_one_if}
use Rattle.giop_stream.specs.PayloadRuns.{run_effect, run_message_effect}
use Rattle.giop_stream.specs.HeaderEndsOfStream.{run_header_ends, owner_header_ends}
use Rattle.giop_stream.proofs.Lists.{any_append}
use Rattle.giop_stream.proofs.Events.AfterMoreEvents.{count_append}
use Rattle.giop_stream.proofs.SlotSteps.ReadingEffects.{over_lines, over_then, take_text, then_by, faults_by}
use Rattle.giop_stream.proofs.SlotSteps.OneSlotChanges.{or_nothing, mixes_not}
use Rattle.giop_stream.proofs.SlotSteps.Performing.{text_append, performs_on}
use Rattle.giop_stream.proofs.SlotSteps.EventsOnSlots.{ChangesOneMessage, IsCurrentMessage, still_takes, still_alters, no_key, own_effects, slot_effects, own_has, slot_has, own_kept, slot_kept}

-- what follows from a property of the octets that a call took
pub takes_weaker : {A E : Type 0} {count : A → ℕ} {before P Q : List ℕ → Type 0} {r : Result A E}
    {octets : List ℕ} → ((xs : List ℕ) → P xs → Q xs) → TakesFront count before P r octets →
    TakesFront count before Q r octets
takes_weaker f t = record {
  n = t.n;
  counted = t.counted;
  within = t.within;
  some = t.some;
  fronts = t.fronts;
  all = f (take t.n _) t.all;
}

-- A message that is over stays over.
pub over_stays : (S : Signatures) (header s more : List ℕ) →
    is_over (stage_of (read_message S header s)) ≡ true
    → is_over (stage_of (read_message S header (s ++ more))) ≡ true
over_stays S header s more e = search (arith, over_where_faulted, told_more, any_append)

module _ (C : Table) (l : Answers) where
  abbrev Over : (key : MessageKey) (kept : Kept) → Bool
  Over w kept = is_over (stage_of
      (read_message (signatures_of C (l w.number) kept.phase) w.header kept.octets))

  -- what is kept with more octets
  abbrev pub with_more : (kept : Kept) (octets : List ℕ) → Kept
  with_more kept xs = record { octets = kept.octets ++ xs; phase = kept.phase }

  -- ---- One octet, of a message that isn't over.

  then_is : (at : ℕ) (w : MessageKey) (kept : Kept) (x : ℕ) → Over w kept ≡ false
      → message_kept_after (message_reader C l) (event at w (Takes x)) (Some kept)
      ≡ (if Over w (with_more kept (x ∷ [])) then None else Some (with_more kept (x ∷ [])))
  unfolding octets_of_event
  then_is at w kept x e = search (arith, then_by, octet_over)

  count_is : (at : ℕ) (w : MessageKey) (kept : Kept) (x : ℕ) → Over w kept ≡ false
      → fault_count (lines_of (message_reader C l) (event at w (Takes x)) (Some kept))
      ≡ (if Over w (with_more kept (x ∷ [])) then 1 else 0)
  count_is at w kept x e = search (arith, faults_by, octet_over)

  -- ---- A message that is over.

  pub none_run : (w : MessageKey) (o : Option Kept) (before : ℕ) (xs : List ℕ) →
      RepresentsMessage C l None w o → run_message_effect C l before w o xs ≡ no_message_effect None
  unfolding run_message_effect message_effect
  none_run w None before [] k = refl
  none_run w None before (x ∷ xs) k = search (
    arith,
    over_lines,
    over_then,
    none_run w None (suc
        before) xs tt,
  )
  none_run w (Some kept) before xs k = absurd k

  -- ---- A message that isn't over.

  -- one list of octets, and another after it
  more_again : (kept : Kept) (xs ys : List ℕ) →
      with_more (with_more kept xs) ys ≡ with_more kept (xs ++ ys)
  more_again kept xs ys =
      ap (λ (z : List ℕ). with_more (record kept { octets = [] }) z)
      (append_assoc kept.octets xs ys)

  none_more : (kept : Kept) → with_more kept [] ≡ kept
  none_more kept =
      ap (λ (z : List ℕ). with_more (record kept { octets = [] }) z) (append-nil kept.octets)

  run_text : (w : MessageKey) (xs : List ℕ) (before : ℕ) (kept : Kept) → Over w kept ≡ false
      → lines_text (run_message_effect C l before w (Some kept) xs).lines
      ≡ more_lines_text (signatures_of C (l w.number) kept.phase) w.number before w.header
      kept.octets xs
  unfolding run_message_effect message_effect lines_text
  run_text w [] before kept e = search (arith, text_none)
  run_text w (x ∷ xs) before kept e =
      let S = signatures_of C (l w.number) kept.phase in
      let s = kept.octets in
      let ev = event (suc before) w (Takes x) in
      let first = lines_of (message_reader C l) ev (Some kept) in
      let after : List StreamLine = (run_message_effect C l (suc before) w
      (message_kept_after (message_reader C l) ev (Some kept)) xs).lines in
      let due = more_lines_text S w.number before w.header s (x ∷ []) in
      let more = more_lines_text S w.number (suc before) w.header (s ++ x ∷ []) xs in
      let both : more_lines_text S w.number before w.header s (x ∷ xs) ≡ due ++ more =
      rw (add-one) at (text_both S w.number before w.header s (x ∷ []) xs) in
      text_append first after
      ∙ (ap (λ (t : List ℕ). t ++ lines_text after) (take_text C l before w kept x)
      ∙ (ap (λ (t : List ℕ). due ++ t) (rest (run_text w xs (suc before)
      (with_more kept (x ∷ []))) (Over w (with_more kept (x ∷ []))) refl) ∙ sym both))
    where
      Rest : Option Kept → Type 0
      Rest o = lines_text (run_message_effect C l (suc before) w o xs).lines
          ≡ more_lines_text (signatures_of C (l w.number) kept.phase) w.number (suc before) w.header
          (kept.octets ++ x ∷ []) xs

      rest : (Over w (with_more kept (x ∷ [])) ≡ false → Rest (Some (with_more kept (x ∷ [])))) →
          (b : Bool) → Over w (with_more kept (x ∷ [])) ≡ b
          → Rest (message_kept_after (message_reader C l) (event (suc before) w (Takes x))
          (Some kept))
      rest ih true o = search (arith, then_is, none_run, text_over)
      rest ih false o = search (arith, then_is)

  -- if a message is over after one octet, it is over after all of them
  over_with : (w : MessageKey) (kept : Kept) (xs : List ℕ) (x : ℕ) →
      Over w (with_more kept (x ∷ [])) ≡ true → Over w (with_more kept (x ∷ xs)) ≡ true
  over_with w kept xs x o =
      subst (λ (z : Kept). Over w z ≡ true) (more_again kept (x ∷ []) xs)
      (over_stays (signatures_of C (l w.number) kept.phase) w.header (kept.octets ++ x ∷ []) xs o)

  run_then : (w : MessageKey) (xs : List ℕ) (before : ℕ) (kept : Kept) → Over w kept ≡ false
      → (run_message_effect C l before w (Some kept) xs).kept
      ≡ (if Over w (with_more kept xs) then None else Some (with_more kept xs))
  unfolding run_message_effect message_effect
  run_then w [] before kept e =
      sym (ap (λ (z : Kept). if Over w z then None else Some z) (none_more kept) ∙ rw e refl)
  run_then w (x ∷ xs) before kept e = go (run_then w xs (suc before) (with_more kept (x ∷ [])))
      (Over w (with_more kept (x ∷ []))) refl
    where
      Then : Option Kept → Kept → Type 0
      Then o z = (run_message_effect C l (suc before) w o xs).kept ≡
          (if Over w z then None else Some z)

      go : (Over w (with_more kept (x ∷ [])) ≡ false →
          Then (Some (with_more kept (x ∷ []))) (with_more (with_more kept (x ∷ [])) xs)) →
          (b : Bool)
          → Over w (with_more kept (x ∷ [])) ≡ b → Then (message_kept_after (message_reader C l)
          (event (suc before) w (Takes x)) (Some kept)) (with_more kept (x ∷ xs))
      go ih true o = rw (
        then_is (suc before) w kept x e,
        o,
        none_run w None (suc before) xs tt,
        over_with w kept xs x o,
      ) refl
      go ih false o = search (arith, then_is, more_again)

  run_count : (w : MessageKey) (xs : List ℕ) (before : ℕ) (kept : Kept) → Over w kept ≡ false
      → fault_count (run_message_effect C l before w (Some kept) xs).lines
      ≡ (if Over w (with_more kept xs) then 1 else 0)
  unfolding run_message_effect message_effect
  run_count w [] before kept e = unfold fault_count in
      sym (ap (λ (z : Kept). if Over w z then 1 else 0) (none_more kept) ∙ rw e refl)
  run_count w (x ∷ xs) before kept e =
      let ev = event (suc before) w (Takes x) in
      let after : List StreamLine = (run_message_effect C l (suc before) w
      (message_kept_after (message_reader C l) ev (Some kept)) xs).lines in
      count_append (lines_of (message_reader C l) ev (Some kept)) after
      ∙ (ap (λ (n : ℕ). n + fault_count after) (count_is (suc before) w kept x e)
      ∙ go (run_count w xs (suc before) (with_more kept (x ∷ [])))
      (Over w (with_more kept (x ∷ []))) refl)
    where
      Counts : Option Kept → Kept → ℕ → Type 0
      Counts o z n = n + fault_count (run_message_effect C l (suc before) w o xs).lines
          ≡ (if Over w z then 1 else 0)

      go : (Over w (with_more kept (x ∷ [])) ≡ false → fault_count
          (run_message_effect C l (suc before) w (Some (with_more kept (x ∷ []))) xs).lines
          ≡ (if Over w (with_more (with_more kept (x ∷ [])) xs) then 1 else 0))
          → (b : Bool) → Over w (with_more kept (x ∷ [])) ≡ b
          → Counts (message_kept_after (message_reader C l) (event (suc before) w (Takes x))
          (Some kept))
          (with_more kept (x ∷ xs)) (if Over w (with_more kept (x ∷ [])) then 1 else 0)
      go ih true o = rw (
        then_is (suc before) w kept x e,
        o,
        none_run w None (suc before) xs tt,
        over_with w kept xs x o,
      ) (unfold fault_count in refl)
      go ih false o = rw (then_is (suc before) w kept x e, o)
          (omega (
            arith,
            ih o ∙ ap (λ (z : Kept). if Over w z then 1 else 0)
                (more_again kept (x ∷ []) xs),
          ))

  -- ---- A message, if the code keeps a value of it.

  -- the message follows what is kept
  abbrev pub MessageFollowsKept : (message : Message) (key : MessageKey) (kept : Kept) → Type 0
  MessageFollowsKept m w kept = Follows C l kept.phase w.number w.header m kept.octets

  -- the signatures by which the message is read
  abbrev pub signatures_for : (key : MessageKey) (kept : Kept) → Signatures
  signatures_for w kept = signatures_of C (l w.number) kept.phase

  -- P holds of the text that these octets add
  abbrev pub HoldsOfNewText : (P : List ℕ → Type 0) (message : Message) (key : MessageKey)
      (kept : Option Kept)
      (before : ℕ) (octets : List ℕ) → Type 0
  HoldsOfNewText P m w o before xs = (kept : Kept) → o ≡ Some kept → MessageFollowsKept m w kept →
      P (more_lines_text (signatures_for w kept) w.number before w.header kept.octets xs)

  goes : (m : Message) (w : MessageKey) (kept : Kept) → MessageFollowsKept m w kept →
      Over w kept ≡ false
  goes m w kept k = search (arith, follows_goes)

  faulted : (w : MessageKey) (kept : Kept) (xs : List ℕ) (n : ℕ) →
      FaultedAt (signatures_for w kept) w.header kept.octets xs n →
      Over w (with_more kept xs) ≡ true
  faulted w kept xs n f =
      let s = kept.octets in
      let all : (s ++ take n xs) ++ drop n xs ≡ s ++ xs =
      append_assoc s (take n xs) (drop n xs)
      ∙ ap (λ (z : List ℕ). s ++ z) (take-append-drop n xs) in
      subst (λ (z : List ℕ). Over w (record { octets = z; phase = kept.phase }) ≡ true) all
      (over_stays (signatures_for w kept) w.header (s ++ take n xs) (drop n xs) f.here)

  pub given_text : (P : List ℕ → Type 0) (m : Message) (w : MessageKey) (o : Option Kept)
      (before : ℕ) (xs : List ℕ)
      → RepresentsMessage C l (Some m) w o → HoldsOfNewText P m w o before xs
      → P (lines_text (run_message_effect C l before w o xs).lines)
  given_text P m w (Some kept) before xs k f = search (arith, run_text, goes)
  given_text P m w None before xs k f = absurd k

  -- what the octets do if none of them faults the message, and if one does
  pub given_on : {E : Type 0} (m m' : Message) (w : MessageKey) (o : Option Kept) (before : ℕ)
      (xs : List ℕ) (n : ℕ) (a b : OutLog) → RepresentsMessage C l (Some m) w o →
      HoldsOfNewText (Wrote a b) m w o before xs →
      ((kept : Kept) → o ≡ Some kept → MessageFollowsKept m w kept →
      MessageFollowsKept m' w (with_more kept xs)) →
      DoesMessageEffect {E = E} C l (λ (r : ℕ × Bool). count_one_if r.1) (Ok (
        n,
        false,
      )) a b (Some m') w
      (run_message_effect C l before w o xs)
  given_on m m' w (Some kept) before xs n a b k writes took =
      let goes_before = goes m w kept k in
      let k' = took kept refl k in
      let still = goes m' w (with_more kept xs) k' in
      record {
        text = given_text (Wrote a b) m w (Some kept) before xs k writes;
        faults = rw (run_count w xs before kept goes_before, still) refl;
        kept = rw (run_then w xs before kept goes_before, still) k';
      }
  given_on m m' w None before xs n a b k writes took = absurd k

  pub given_over : {E : Type 0} (m : Message) (w : MessageKey) (o : Option Kept) (before : ℕ)
      (xs : List ℕ) (i n : ℕ) (a b : OutLog) → RepresentsMessage C l (Some m) w o →
      HoldsOfNewText (Wrote a b) m w o before (take i xs) →
      ((kept : Kept) → o ≡ Some kept → MessageFollowsKept m w kept →
      FaultedAt (signatures_for w kept) w.header kept.octets xs i) →
      DoesMessageEffect {E = E} C l (λ (r : ℕ × Bool). count_one_if r.1) (Ok (
        n,
        true,
      )) a b None w (run_message_effect C l
      before w o xs)
  given_over m w (Some kept) before xs i n a b k writes found =
      let goes_before = goes m w kept k in
      let over = faulted w kept xs i (found kept refl k) in
      record {
        text = given_text (Wrote a b) m w (Some kept) before xs k (λ z e f.
            rw (text_ended (signatures_for w z) w.number before w.header z.octets xs i
            (found z e f).here)
            (writes z e f));
        faults = rw (run_count w xs before kept goes_before, over) refl;
        kept = rw (run_then w xs before kept goes_before, over) tt;
      }
  given_over m w None before xs i n a b k writes found = absurd k

  -- ---- A run's effect on what is tracked: it changes only one message.

  run_alters : (w : MessageKey) (xs : List ℕ) (before : ℕ) (c : Tracked) →
      ChangesOneMessage c w (run_effect C l before c (Some w) xs) (run_message_effect C l before w
      (c.known w.number) xs)
  unfolding run_effect run_message_effect message_effect
  run_alters w [] before c = search (arith)
  run_alters w (x ∷ xs) before c =
      let R = message_reader C l in
      let e = event (suc before) w (Takes x) in
      let one = still_alters C l (suc before) c w (Takes x) (still_takes x)
      (or_nothing c.mixed _ (mixes_not e refl)) in
      let more = run_alters w xs (suc before) (tracked_after_event R c e) in
      let same = ap (λ (o : Option Kept). run_message_effect C l (suc before) w o xs) one.own in
      record {
        lines = ap (λ (ls : List StreamLine). lines_of R e (c.known w.number) ++ ls)
            (more.lines ∙ ap (λ (part : MessageEffect). part.lines) same);
        still_open = more.still_open ∙ one.still_open;
        mixed = more.mixed ∙ one.mixed;
        own = more.own ∙ ap (λ (part : MessageEffect). part.kept) same;
        others = λ i h. more.others i h ∙ one.others i h;
      }

  nobody_run : (xs : List ℕ) (before : ℕ) (c : Tracked) →
      run_effect C l before c None xs ≡ no_effect c
  unfolding run_effect
  nobody_run [] before c = refl
  nobody_run (x ∷ xs) before c = nobody_run xs (suc before) c

  -- what the octets that are taken do to their owner is what they do to the tracked messages
  module _ {A E : Type 0} (count faults : A → ℕ) (r : Result A E) (a b : OutLog) (s : Slots)
      (c : Tracked) (owner_of_next : Option MessageKey) (before : ℕ) (octets : List ℕ)
      (h : SlotsRepresent C l s c owner_of_next)
      (Agrees : (List ℕ → List HeaderEnd) → Type 0)
      (Before : (List ℕ → List HeaderEnd) → List ℕ → Type 0) where
    abbrev PartTaken : (message : Option Message) (key : MessageKey) (kept : Option Kept) → Type 0
    PartTaken message w o = Agrees (run_header_ends w o) →
        TakesFront count (Before (run_header_ends w o))
        (λ xs. DoesMessageEffect C l faults r a b message w
        (run_message_effect C l before w o xs)) r octets

    abbrev Taken : (slots : Slots) (owner : Option MessageKey) → Type 0
    Taken new who = Agrees (owner_header_ends c who) →
        TakesFront count (Before (owner_header_ends c who))
        (λ xs. DoesEffect C l faults r a b new (run_effect C l before c who xs) who) r octets

    -- the octets do nothing if their message is over or they belong to none
    none_runs : (of : PayloadOwner) (own' : Option Message) → IsCurrentMessage of own' →
        (xs : List ℕ) →
        DoesMessageEffect C l faults r a b own' no_key (run_message_effect C l before no_key None
        xs) →
        DoesEffect C l faults r a b (record { slots = s.slots; owner = of; is_mixed = s.is_mixed })
        (run_effect C l before c None xs) None
    none_runs of own' is xs does =
        rw (nobody_run xs before c) (performs_on r a b refl
        (λ k. record { slots = h.slots; mixed = h.mixed; owner = rw (is.0, is.1) (over own' k) })
        (rw (none_run no_key None before xs tt) at does))
      where
        over : (own' : Option Message) → RepresentsMessage C l own' no_key None → own' ≡ None
        over None k = refl
        over (Some m) k = absurd k

    pub own_takes : (of : PayloadOwner) (message own' : Option Message) → IsCurrentMessage of own' →
        IsCurrentMessage s.owner message →
        ((w : MessageKey) (o : Option Kept) → RepresentsMessage C l message w o →
        PartTaken own' w o) → Taken (record {
          slots = s.slots;
          owner = of;
          is_mixed = s.is_mixed;
        }) owner_of_next
    own_takes of message own' is e f =
        own_has C l (Taken (record {
          slots = s.slots;
          owner = of;
          is_mixed = s.is_mixed;
        })) s c owner_of_next message e h
        (λ none agrees. takes_weaker (none_runs of own' is) (f no_key None (rw none tt) agrees))
        (λ w k agrees. takes_weaker
        (λ xs does. own_effects C l r a b s of message own' c w _ _ is e k (run_alters w xs before
        c)
        (λ _. does))
        (f w (c.known w.number) (own_kept C l s c w message e k) agrees))

    pub slot_takes : (of : PayloadOwner) (v : Contents) (message : Option Message) (k : ℕ) →
        index_of of ≡ Some k → index_of s.owner ≡ Some k →
        option_map (λ e. e.value) (slice_get s.slots.entries k) ≡ Some v →
        NumbersRise c.still_open →
        ((w : MessageKey) → RepresentsMessage C l v.message w (c.known w.number) →
        PartTaken message w (c.known w.number)) → Taken (record {
          slots = with_value s.slots k (record v { message = message });
          owner = of;
          is_mixed = s.is_mixed;
        }) owner_of_next
    slot_takes of v message k is e get rising f =
        slot_has C l (Taken (record {
          slots = with_value s.slots k (record v { message = message });
          owner = of;
          is_mixed = s.is_mixed;
        })) s c owner_of_next k e h
        (λ w kept agrees. takes_weaker
        (λ xs does. slot_effects C l r a b s of v message c w _ _ k is e get rising kept
        (run_alters w xs before c) (λ _ _. does))
        (f w (slot_kept C l s v c w k e get kept) agrees))
