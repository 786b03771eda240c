-- What stands before an octet is the same by all events before it and by what is tracked.
use Rattle.std.proofs.Common.{◌≡◌, ℕ, Bool, true, false, List, [], ◌∷◌, ◌++◌, Option, Some, None, refl, sym, ap, ◌∙◌}
use Rattle.std.specs.Prelude.{◌||◌, not, is_none}
use Rattle.std.specs.List.{find, list_any}
use Rattle.giop_message.specs.MessageReader.{MessageReader}
use Rattle.giop_stream.specs.Rules.{Rules}
use Rattle.giop_stream.specs.Events.{Open, Event, events, open_after, ends_joining, pending_id, before_by}
use Rattle.giop_stream.specs.Stream.{is_over}
use Rattle.giop_stream.specs.Effects.{tracked_after_event, effects}
use Rattle.giop_stream.specs.OpenSlots.{known_of, Tracked, tracked_after, given_id_of_open, before_in}
use Rattle.giop_stream.proofs.Lists.{any_append}
use Rattle.giop_stream.proofs.SlotSteps.OneSlotChanges.{or_nothing}
use Rattle.giop_stream.proofs.Events.Soundness.{IsSound}

or_or : (a b c : Bool) → (a || (b || c)) ≡ ((a || b) || c)
or_or true b c = refl
or_or false b c = refl

-- ---- Whether Fragments of 1.1 may belong to several messages.

-- they may after these events, if they did before, or if one of the events brings that about
pub mixed_grows : (R : Rules) (past es : List Event) →
    (before_by R (past ++ es)).mixed ≡ ((before_by R past).mixed || list_any ends_joining es)
unfolding before_by
mixed_grows R past es =
    ap (λ (b : Bool). not R.joins || b) (any_append ends_joining past es)
    ∙ or_or (not R.joins) (list_any ends_joining past) (list_any ends_joining es)

pub effects_mixed : (R : MessageReader) (c : Tracked) (es : List Event) →
    (effects R c es).tracked.mixed ≡ (c.mixed || list_any ends_joining es)
unfolding effects tracked_after_event
effects_mixed R c [] = sym (or_nothing c.mixed false refl)
effects_mixed R c (e ∷ es) = effects_mixed R (tracked_after_event R c e) es
    ∙ sym (or_or c.mixed (ends_joining e) (list_any ends_joining es))

-- ---- By what is tracked.

module _ (R : Rules) (p : List ℕ) (sound : IsSound R p) where
  -- the request id of an open message
  asked_is : (o : Option Open) → given_id_of_open R.asks (known_of R p) o ≡ pending_id R
      (events R p) o
  unfolding known_of
  asked_is None = refl
  asked_is (Some o) = go (is_over R p o.opener.number) refl
    where
      go : (over : Bool) → is_over R p o.opener.number ≡ over →
          given_id_of_open R.asks (known_of R p) (Some o) ≡ pending_id R (events R p) (Some o)
      go true e = rw (← sound.over o.opener.number, e) refl
      go false e = rw (← sound.over o.opener.number, e) refl

  pub before_is : before_in R.asks (tracked_after R p) ≡ before_by R (events R p)
  unfolding before_in before_by tracked_after open_after
  before_is = λ j. record {
    still_open = open_after R p;
    mixed = (before_by R (events R p)).mixed;
    asked = asked_is (find (λ o. is_none o.key) (open_after R p)) j;
  }
