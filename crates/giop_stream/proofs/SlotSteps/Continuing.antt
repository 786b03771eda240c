-- A Fragment that continues an open message, as the code does it: at its request id, and if the
-- last octet of its header and its request id come together.
use Rattle.std.proofs.Common.{◌≡◌, ℕ, ◌<◌, ◌%◌, Bool, true, false, List, [], ◌∷◌, ◌++◌, length, take, refl, sym, ap, subst, ◌∙◌, Option, Some, None, Result, arith}
use Rattle.std.specs.Prelude.{if◌then◌else◌}
use Rattle.std.proofs.lemmas.Bool.{eq-eqb}
use Rattle.std.proofs.lemmas.List.{length_push}
use Rattle.giop_cdr.specs.declared.order.Order.{Order}
use Rattle.giop_cdr.specs.Numbers.{num}
use Rattle.giop_sig.specs.Table.{Table}
use Rattle.giop_message.specs.Headers.{order}
use Rattle.giop_stream.specs.Kinds.{is_fragmented_1_1, is_any_fragment, lookup_offset}
use Rattle.giop_message.specs.MessageReader.{Value, next_lines}
use Rattle.giop_message.specs.Signatures.{Answers}
use Rattle.giop_message.specs.ReaderOfTable.{message_reader}
use Rattle.giop_message.specs.Text.{numbered_line}
use Rattle.giop_message.specs.RequestId.{request_id_text, request_id_timed_line}
use Rattle.giop_message.proofs.MessageLaws.{few_said, four_said}
use Rattle.giop_print.specs.Lines.{continues_line}
use Rattle.giop_print.specs.Output.{OutLog}
use Rattle.giop_stream.specs.declared.fault.FramingFault.TheVariants.{FragmentOrder}
use Rattle.giop_stream.specs.declared.slots.Slots.{Slots}
use Rattle.giop_stream.specs.declared.current.Current.{Current}
use Rattle.giop_stream.specs.declared.fragment.Continuation.{Continuation}
use Rattle.giop_stream.specs.Rules.{Rules, rules_by}
use Rattle.giop_stream.specs.Framing.{CutMessage, with_payload}
use Rattle.giop_stream.specs.Text.{line_text, start_line}
use Rattle.giop_stream.specs.Events.{MessageKey, OpenState, Takes, Seams, Faults, Open, message_key, id, key, open_under, opener_of, NumbersRise, events_at_name, same_order}
use Rattle.giop_stream.specs.Lines.{StreamLine, Kept, Said}
use Rattle.giop_stream.specs.Stream.{fault_count}
use Rattle.giop_stream.specs.Effects.{Effect, effects, then_effect, one_effect, no_effect, line_effect, continues_line_of, start_line_of, with_octet, tracked_after_event, lines_of, event, effect_to}
use Rattle.giop_stream.specs.OpenSlots.{Tracked, IsNotOpen, slots_at}
use Rattle.giop_stream.specs.SlotsRepresent.{SlotsRepresent}
use Rattle.giop_stream.specs.PayloadOwner.{IsAtName, IsAtOctet, BeginsWithRequestId, before_with, own_kept, octet_effect, owner_after, events_if_at_name}
use Rattle.giop_stream.specs.EngineState.{opener_key, owner_of_next}
use Rattle.giop_stream.specs.DoesEffect.{DoesEffect}
use Rattle.giop_stream.specs.Continuation.{IsContinuing, IsBeforeContinuation}
use Rattle.giop_stream.proofs.Lists.{each_weaker}
use Rattle.giop_stream.proofs.Events.MessageKinds.{fragment_any, fragment_not_old, fragment_four}
use Rattle.giop_stream.proofs.SlotSteps.Performing.{BeginsSo}
use Rattle.giop_stream.proofs.SlotSteps.Cases.{seam_effect, seam_is, seam_none, seam_still_open, fragment_in_order, fragment_out_of_order}
use Rattle.giop_stream.proofs.SlotSteps.EventsInSlots.{slots_stay}
use Rattle.giop_stream.proofs.SlotSteps.OneSlotChanges.{mixes_not, mixed_same}
use Rattle.giop_stream.proofs.SlotSteps.FindingOpen.{OpenAt, one_open}
use Rattle.giop_stream.proofs.SlotSteps.ReadingEffects.{next_lines_of, take_lines, reader_lines}
use Rattle.giop_stream.proofs.SlotSteps.Ending.{owner_early}
use Rattle.giop_stream.proofs.SlotSteps.AfterOctet.{owner_at_id}
use Rattle.giop_stream.proofs.SlotSteps.AtRequestId.{fragment_named, fragment_placed, owner_fragment}
use Rattle.giop_stream.proofs.SlotSteps.Parts.{first, second, third, first_still_open, in_parts, third_owner, some_come, newest_come, takes_at, known_is, after_second, come_is}

-- ---- At the request id.

pub goes_faults : (m : CutMessage) (o : Open) (ls : List StreamLine) →
    fault_count (continues_line_of m o ∷ ls) ≡ fault_count ls
unfolding fault_count
goes_faults m o ls = refl

-- what the code knows of a Fragment as it has its place
pub continuing : (C : Table) (l : Answers) (s : Slots) (c : Tracked) (m : CutMessage)
    (now : Current) (i : Option ℕ) → IsAtName C l s c m now i → is_any_fragment m.header ≡ true
    → IsContinuing C l s c (Some (message_key m)) m now
continuing C l s c m now i h f = record {
  keeps = h.keeps;
  rising = h.rising;
  current = h.current;
  alive = h.alive (fragment_placed m.header f);
}

module _ (C : Table) (l : Answers) (s : Slots) (c : Tracked) (owner : Option MessageKey)
    (m : CutMessage) (now : Current) (h : IsContinuing C l s c owner m now) where
  abbrev b : OpenState
  b = before_with C l c

  pub in_order : (o : Open) → is_any_fragment m.header ≡ true → opener_of b m ≡ Some o →
      same_order (order m.header) (order o.opener.header) ≡ true
      → effects (message_reader C l) c (events_at_name s.slots.most b m)
      ≡ line_effect (continues_line_of m o) (no_effect (seam_effect
      (message_reader C l) c m o).tracked)
  in_order o f e same =
      fragment_in_order (rules_by C l s.slots.most) c b m o h.alive.0 f e h.alive.1 same

  pub out_of_order : (o : Open) → is_any_fragment m.header ≡ true → opener_of b m ≡ Some o →
      same_order (order m.header) (order o.opener.header) ≡ false
      → effects (message_reader C l) c (events_at_name s.slots.most b m)
      ≡ line_effect (continues_line_of m o) (one_effect (message_reader C l)
      (seam_effect (message_reader C l) c m o).tracked now.place o.opener (Faults FragmentOrder))
  out_of_order o f e other =
      fragment_out_of_order (rules_by C l s.slots.most) c b m o h.alive.0 f e h.alive.1 other
      ∙ rw h.current.place refl

  -- the line of a Fragment, as the code writes it
  pub goes_text : (o : Open) (number : ℕ) → o.opener.number ≡ number →
      line_text (continues_line_of m o) ≡ continues_line now.number number
  goes_text o number e = rw (h.current.number, e) refl

  -- the line of the Fragment is the first of the lines
  pub goes_first : (o : Open) → is_any_fragment m.header ≡ true → opener_of b m ≡ Some o
      → BeginsSo (continues_line_of m o) (effects (message_reader C l) c
      (events_at_name s.slots.most b m)).lines
  goes_first o f e = go (same_order (order m.header) (order o.opener.header)) refl
    where
      go : (same : Bool) → same_order (order m.header) (order o.opener.header) ≡ same →
          BeginsSo (continues_line_of m o) (effects (message_reader C l) c
          (events_at_name s.slots.most b m)).lines
      go true same = record {
        more = _;
        is = ap (λ (p : Effect). p.lines) (in_order o f e same);
      }
      go false other = record {
        more = _;
        is = ap (λ (p : Effect). p.lines) (out_of_order o f e other);
      }

  -- ---- The seam of a Fragment of 1.1.

  header_of : (says : List ℕ → Bool) (r : Bool) → r ≡ says now.header → says m.header ≡ r
  header_of says r e = search (arith, h.current.header)

  -- as the code makes it
  pub seam_here : (o : Open) → (if is_fragmented_1_1 now.header
      then (effect_to C l now.place c (Some o.opener) Seams).tracked else c)
      ≡ (seam_effect (message_reader C l) c m o).tracked
  seam_here o = go (is_fragmented_1_1 now.header) refl
    where
      go : (old : Bool) → old ≡ is_fragmented_1_1 now.header → (if old
          then (effect_to C l now.place c (Some o.opener) Seams).tracked else c)
          ≡ (seam_effect (message_reader C l) c m o).tracked
      go true e =
          let same : seam_effect (message_reader C l) c m o
          ≡ effect_to C l now.place c (Some o.opener) Seams =
          seam_is (message_reader C l) c m o (header_of is_fragmented_1_1 true e)
          ∙ rw h.current.place refl in
          ap (λ (p : Effect). p.tracked) (sym same)
      go false e = ap (λ (p : Effect). p.tracked)
          (sym (seam_none (message_reader C l) c m o (header_of is_fragmented_1_1 false e)))

  -- a seam opens and closes nothing
  pub seam_rising : (o : Open) →
      NumbersRise (seam_effect (message_reader C l) c m o).tracked.still_open
  seam_rising o = rw (seam_still_open (message_reader C l) c m o) h.rising

  pub orders : (o : Open) (a b : Order) (header : List ℕ) (r : Bool) → a ≡ order now.header →
      b ≡ order header
      → header ≡ o.opener.header → same_order a b ≡ r →
      same_order (order m.header) (order o.opener.header) ≡ r
  orders o a b header r e f g same = search (arith)

-- ---- The lines of a request id's octets.

module _ (C : Table) (l : Answers) (number : ℕ) (header : List ℕ)
    (says : BeginsWithRequestId header)
    (kept : Kept) (twelve : kept.phase 12 ≡ 12) where
  even : kept.phase 12 % 4 ≡ 0
  even = rw twelve refl

  -- the octets before the last one add no line
  pub few_due : (x : ℕ) → length kept.octets < 3 →
      next_lines (message_reader C l) kept.phase number header kept.octets x ≡ []
  few_due x few =
      rw (few_said C l kept.phase number header says.0 says.1 says.2 even (kept.octets ++ x ∷ [])
      (omega (arith, few, length_push kept.octets x))) refl

  -- the last octet adds the line of the number that the octets spell
  pub four_due : (x : ℕ) → length kept.octets ≡ 3
      → next_lines (message_reader C l) kept.phase number header kept.octets x
      ≡ request_id_timed_line (num (order header) (take 4 (kept.octets ++ x ∷ []))) ∷ []
  four_due x three = go kept.octets three
    where
      go : (xs : List ℕ) → length xs ≡ 3
          → next_lines (message_reader C l) kept.phase number header xs x
          ≡ request_id_timed_line (num (order header) (take 4 (xs ++ x ∷ []))) ∷ []
      go (a ∷ b ∷ c ∷ []) e =
          rw (four_said C l kept.phase number header says.0 says.1 says.2 even a b c x) refl
      go [] e = absurd (omega (arith, e))
      go (a ∷ []) e = absurd (omega (arith, e))
      go (a ∷ b ∷ []) e = absurd (omega (arith, e))
      go (a ∷ b ∷ c ∷ d ∷ xs) e = absurd (omega (arith, e))

-- the line of a request id
abbrev pub id_line : (at number i : ℕ) → StreamLine
id_line at number i = record {
  place = at;
  number = number;
  content =
      Said Value (request_id_text i);
}

pub said_faults : (at number i : ℕ) (ls : List StreamLine) →
    fault_count (id_line at number i ∷ ls) ≡ fault_count ls
unfolding fault_count
said_faults at number i ls = refl

-- If no message owns the octets, the slots don't change when the octets kept of a message that
-- isn't open change.
pub owned_by_none : (C : Table) (l : Answers) (s : Slots) (c c' : Tracked) →
    slots_at c' ≡ slots_at c → c'.mixed ≡ c.mixed → SlotsRepresent C l s c None →
    SlotsRepresent C l s c' None
owned_by_none C l s c c' same mixed h = search (arith)

-- ---- The last octet of a header, and a request id.

module _ (C : Table) (l : Answers) (s : Slots) (c : Tracked) (m : CutMessage) (now : Current) (x
    : ℕ)
    (found : Continuation)
    (h : IsBeforeContinuation C l s c m now x found) where
  abbrev pub R : Rules
  R = rules_by C l s.slots.most

  -- the Fragment with its request id
  abbrev pub m' : CutMessage
  m' = with_octet m x

  abbrev pub c' : Tracked
  c' = (first R c m').tracked

  -- a Fragment of 1.2 has its place after its request id
  four : lookup_offset m.header ≡ 4
  four = fragment_four m.header h.fragment

  named : length m'.payload ≡ lookup_offset m'.header
  named = omega (arith, four, h.three, length_push m.payload x)

  few : length m.payload < lookup_offset m.header
  few = omega (arith, four, h.three)

  any : is_any_fragment m.header ≡ true
  any = fragment_any m.header h.fragment

  apart : IsNotOpen m.number c.still_open
  apart = search (arith, each_weaker, few)

  alive : c.known m.number ≡ Some (own_kept m)
  alive = h.before.alive (fragment_placed m.header any) few

  -- the request id's last octet is taken by the Fragment itself
  taken : first R c m' ≡ one_effect (message_reader C l) c now.place (message_key m) (Takes x)
  taken = takes_at C l s.slots.most c m now x h.before
      ∙ ap (λ (w : Option MessageKey). effect_to C l now.place c w (Takes x))
      (owner_early (before_with C l c) m few)

  -- the line of this octet is the line of the request id
  pub first_lines : (first R c m').lines ≡ id_line now.place m.number found.id ∷ []
  unfolding id
  first_lines =
      let said : next_lines_of C l (message_key m) (own_kept m) x ≡ request_id_timed_line found.id
      ∷ [] =
      four_due C l m.number m.header (h.before.says (fragment_named m.header h.fragment))
      (own_kept m) refl x h.three ∙ rw h.spells refl in
      ap (λ (p : Effect). p.lines) taken
      ∙ (ap (lines_of (message_reader C l) (event now.place (message_key m) (Takes x))) alive
      ∙ (take_lines C l now.place (message_key m) (own_kept m) x
      ∙ ap (reader_lines now.place m.number) said))

  keeps : SlotsRepresent C l s c' None
  keeps =
      let e = event now.place (message_key m) (Takes x) in
      subst (λ (p : Effect). SlotsRepresent C l s p.tracked None) (sym taken)
      (owned_by_none C l s c (tracked_after_event (message_reader C l) c e)
      (slots_stay (message_reader C l) c e refl apart)
      (mixed_same (message_reader C l) c e (mixes_not e refl)) h.keeps)

  pub continues_at : IsContinuing C l s c' None m' now
  continues_at = record {
    keeps = keeps;
    rising = rw (first_still_open R c m') h.before.rising;
    current = h.before.current;
    alive = (
      own_kept m',
      known_is C l s.slots.most c m now x h.before few (fragment_placed m.header any),
    );
  }

  -- what stands before the events of the place
  abbrev pub b' : OpenState
  b' = before_with C l c'

  pub opener_at : OpenAt c' (open_under b' (Some found.id)) found.index
  opener_at = one_open C l s c' None keeps (Some found.id) found.index h.open_at.here

  pub opener_is : opener_of b' m' ≡ Some opener_at.o
  unfolding opener_of key
  opener_is = rw (fragment_not_old m.header h.fragment, h.spells) opener_at.is

  pub any' : is_any_fragment m'.header ≡ true
  any' = any

  pub ids_are : events_if_at_name s.slots.most b' m' ≡ events_at_name s.slots.most b' m'
  unfolding events_if_at_name
  ids_are = search (arith, eq-eqb, named)

  -- after this octet, the octets belong to the message that the Fragment continues
  owner_is : owner_of_next b' m' ≡ Some opener_at.o.opener
  owner_is = owner_at_id b' m' named ∙ (owner_fragment b' m' any ∙ ap opener_key opener_is)

  pub after_id : (s' : Slots) → SlotsRepresent C l s' (second R c m').tracked
      (Some opener_at.o.opener) → IsAtOctet C l s' (second R c m').tracked m' now
  after_id s' k = search (arith, after_second, owner_is)

  pub starts_text : line_text (start_line_of (with_payload m [])) ≡ start_line now.number now.header
  starts_text = search (arith)

  pub said_text : line_text (id_line now.place m.number found.id)
      ≡ numbered_line now.number (request_id_text found.id)
  said_text = search (arith)

  -- ---- What the octets do.

  abbrev pub lines_after_id : List StreamLine
  lines_after_id = (second R c m').lines ++ (third R c m').lines

  parts : octet_effect C l s.slots.most c m'
      ≡ then_effect (first R c m') (then_effect (second R c m') (third R c m'))
  parts = in_parts R c m' (some_come C l s.slots.most c m now x h.before)
      (newest_come C l s.slots.most c m now x h.before)

  -- the line of the request id is the first line of the id's last octet
  pub all_lines : (octet_effect C l s.slots.most c m').lines
      ≡ id_line now.place m.number found.id ∷ lines_after_id
  all_lines = search (arith, parts, first_lines)

  -- what the code does at the request id, and after it
  pub second_does : {A E : Type 0} (n : A → ℕ) (r : Result A E) (a b : OutLog) (s' : Slots)
      → DoesEffect C l n r a b s' (effects (message_reader C l) c'
      (events_at_name s.slots.most b' m')) (Some opener_at.o.opener)
      → DoesEffect C l n r a b s' (second R c m') (Some opener_at.o.opener)
  second_does n r a b s' p = rw ids_are p

  pub leaves : (s' : Slots) → SlotsRepresent C l s' (third R c m').tracked
      (owner_after (before_with C l (second R c m').tracked) m')
      → (let effect = octet_effect C l s.slots.most c m' in
      SlotsRepresent C l s' effect.tracked (owner_after (before_with C l effect.tracked) m'))
  leaves s' k = rw (parts, ← third_owner R c m') k

  pub come : length m'.payload ≡ now.payload_count
  come = search (arith, come_is)
