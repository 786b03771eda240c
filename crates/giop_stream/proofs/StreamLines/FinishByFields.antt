-- What is written at the finish, from the fields of the code.
use Rattle.std.proofs.Common.{◌≡◌, ℕ, zero, suc, true, false, List, [], ◌∷◌, ◌++◌, get_or, flat_map, refl, Option, Some, None, arith, append-nil}
use Rattle.std.specs.Prelude.{is_some, option_map, slice_get, if◌then◌else◌}
use Rattle.std.proofs.lemmas.Bool.{eq-eqb, ne_eqb, or_right}
use Rattle.std.proofs.lemmas.List.Concat.{flat_map-append}
use Rattle.giop_print.specs.Lines.{unfinished_line, total_line}
use Rattle.giop_sig.specs.Table.{Table}
use Rattle.giop_message.specs.Signatures.{Answers}
use Rattle.giop_message.specs.declared.message.Message.{Message as CodeMessage}
use Rattle.giop_stream.specs.Kinds.{is_any_fragment}
use Rattle.giop_stream.specs.declared.status.Totals.{Totals}
use Rattle.giop_stream.specs.declared.slots.Slot.{Slot as Contents}
use Rattle.giop_stream.specs.declared.slots.PayloadOwner.{PayloadOwner}
use Rattle.giop_stream.specs.declared.slots.PayloadOwner.TheVariants as owners
use Rattle.giop_stream.proofs.SlotSteps.SlotLists.{value_at}
use Rattle.giop_stream.specs.Events.{MessageKey, Open}
use Rattle.giop_stream.specs.Lines.{Kept}
use Rattle.giop_stream.specs.Text.{truncated_line}
use Rattle.giop_stream.specs.Stream.{with_truncated}
use Rattle.giop_stream.specs.OpenSlots.{Slot, is_open, Tracked, slots_at, IsNotOpen, number_if_kept, unfinished_number}
use Rattle.giop_stream.specs.SlotsRepresent.{OpenEntry, RepresentsMessage, IsSlot, AreSlots, PayloadBelongs, index_of, current_of}
use Rattle.giop_stream.specs.EngineView.{FramingView}
use Rattle.giop_stream.specs.EngineState.{State}
use Rattle.giop_stream.specs.EngineStep.{unfinished_current, unfinished_numbers, is_cut_short, final_totals, text_at_finish}
use Rattle.giop_stream.specs.FramingSteps as steps
use Rattle.giop_stream.specs.ViewOfState.{Shows}

-- ---- The slots.

-- the line of a slot at the finish
unfoldable pub slot_text : (slot : OpenEntry) → List ℕ
slot_text slot = if is_some slot.value.message then unfinished_line slot.value.number else []

pub slot_says : (ks : List OpenEntry) (i : ℕ) (v : Contents) (d : OpenEntry) →
    option_map (λ e. e.value) (slice_get ks i) ≡ Some v
    → is_some v.message ≡ true → slot_text (get_or ks i d) ≡ unfinished_line v.number
unfolding slot_text
slot_says ks i v d is e = search (arith, value_at)

pub slot_silent : (ks : List OpenEntry) (i : ℕ) (v : Contents) (d : OpenEntry) →
    option_map (λ e. e.value) (slice_get ks i) ≡ Some v
    → is_some v.message ≡ false → slot_text (get_or ks i d) ≡ []
unfolding slot_text
slot_silent ks i v d is e = search (arith, value_at)

-- ---- The messages that are open.

not_open : (still_open : List Open) (n : ℕ) → IsNotOpen n still_open →
    is_open still_open n ≡ false
unfolding is_open
not_open [] n h = refl
not_open (o ∷ still_open) n h = search (arith, ne_eqb, not_open still_open n h.1)

open_at : (still_open : List Open) (k : ℕ) (o : Open) → slice_get still_open k ≡ Some o →
    is_open still_open o.opener.number ≡ true
unfolding is_open
open_at [] k o e = absurd cc
open_at (a ∷ still_open) zero o e = search (arith, eq-eqb)
open_at (a ∷ still_open) (suc k) o e = search (arith, or_right, open_at still_open k o e)

-- the line of the current message at the finish; a Fragment has none
unfoldable pub current_text : (message : Option CodeMessage) → List ℕ
current_text None = []
current_text (Some m) = if is_any_fragment m.header then [] else unfinished_line m.number

module _ (C : Table) (l : Answers) where
  line_kept : (n : ℕ) (own : Option CodeMessage) (w : MessageKey) (o : Option Kept) →
      n ≡ w.number → RepresentsMessage C l own w o
      → flat_map unfinished_line (number_if_kept w.number o)
      ≡ (if is_some own then unfinished_line n else [])
  line_kept n None w None e k = refl
  line_kept n None w (Some kept) e k = absurd k
  line_kept n (Some m) w None e k = absurd k
  line_kept n (Some m) w (Some kept) e k = search (arith, append-nil)

  slot_left : (kept : OpenEntry) (slot : Slot) → IsSlot C l kept slot →
      flat_map unfinished_line (unfinished_number slot) ≡ slot_text kept
  unfolding unfinished_number slot_text
  slot_left kept slot is = search (arith, line_kept)

  -- the lines of the slots
  pub slots_left : (ks : List OpenEntry) (ss : List Slot) → AreSlots C l ks ss →
      flat_map unfinished_line (flat_map unfinished_number ss) ≡ flat_map slot_text ks
  slots_left [] [] h = refl
  slots_left [] (s ∷ ss) h = absurd h
  slots_left (k ∷ ks) [] h = absurd h
  slots_left (k ∷ ks) (s ∷ ss) h = search (
    arith,
    flat_map-append,
    flat_map,
    slot_left,
    slots_left
        ks ss h.1,
  )

  -- ---- The line of the current message.

  kept_left : (message : Option CodeMessage) (w : MessageKey) (o : Option Kept) →
      RepresentsMessage C l message w o
      → flat_map unfinished_line (if is_any_fragment w.header then [] else number_if_kept w.number
      o)
      ≡ current_text message
  unfolding current_text
  kept_left None w None k = search (arith, flat_map)
  kept_left None w (Some kept) k = absurd k
  kept_left (Some m) w None k = absurd k
  kept_left (Some m) w (Some kept) k = search (arith, flat_map, append-nil)

  pub current_left : (of : PayloadOwner) (c : Tracked) (who : Option MessageKey) →
      PayloadBelongs C l (index_of of) (current_of of) c who
      → flat_map unfinished_line (unfinished_current c who) ≡ current_text (current_of of)
  unfolding unfinished_current current_text
  current_left (owners.Current message is_over) c None h = rw h refl
  current_left (owners.Current message is_over) c (Some w) h = search (arith, not_open, kept_left)
  current_left (owners.Open None) c None h = refl
  current_left (owners.Open None) c (Some w) h = search (arith, not_open, kept_left)
  current_left (owners.Open (Some k)) c None h = absurd h
  current_left (owners.Open (Some k)) c (Some w) h = search (arith, open_at)

-- ---- The totals, and the text.

-- the totals of a stream that isn't truncated
pub no_more : (t : Totals) → with_truncated false t ≡ t
no_more t = search (arith)

module _ (C : Table) (l : Answers) (m : FramingView) (s : State) (h : Shows C l m s) where
  cut_short_is : steps.is_cut_short m ≡ is_cut_short s
  unfolding steps.is_cut_short is_cut_short
  cut_short_is = rw (h.stopped, h.header) refl

  pub totals_at_end : steps.final_totals m ≡ final_totals s
  unfolding steps.final_totals final_totals
  totals_at_end = search (arith, cut_short_is)

  pub truncation_is : (if is_cut_short s then truncated_line s.totals.octets else [])
      ≡ (if steps.is_cut_short m then truncated_line m.totals.octets else [])
  truncation_is = search (arith, cut_short_is)

pub left_text : (s : State) → flat_map unfinished_line (unfinished_numbers s)
    ≡ flat_map unfinished_line
    (flat_map unfinished_number (slots_at s.tracked))
    ++ flat_map unfinished_line (unfinished_current s.tracked s.owner)
unfolding unfinished_numbers
left_text s = search (arith, flat_map-append, flat_map)

pub finish_text : (s : State) → text_at_finish s
    ≡ (if is_cut_short s then truncated_line s.totals.octets else [])
    ++ (flat_map unfinished_line (unfinished_numbers s)
    ++ total_line (final_totals s).messages (final_totals s).faults (final_totals s).octets)
unfolding text_at_finish
finish_text s = refl
