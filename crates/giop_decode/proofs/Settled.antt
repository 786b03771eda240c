-- A transition does in each room what it says, whether elements have room there or not.
use Rattle.std.proofs.Common.{◌≡◌, ℕ, Bool, true, false, List, refl}
use Rattle.giop_decode.specs.DecoderSteps.{IsNotRefused, transition_result}
use Rattle.giop_decode.specs.NotingSteps.{transition_in_string, transition_offset}
use Rattle.giop_decode.specs.ReadResult.{ValueAt}
use Rattle.giop_decode.specs.Transitions.{IsRecursionResolved, HoldsNothingAfter, TransitionFits, after_transition, after_recursive_count, resolve_recursion}
use Rattle.giop_decode.specs.declared.decoder.Decoder.{Decoder}
use Rattle.giop_decode.specs.declared.leaf.Transition.{Transition}
use Rattle.giop_decode.specs.declared.leaf.Transition.TheVariants as transitions
use Rattle.giop_sig.specs.Table.{Table}
use Rattle.giop_sig.specs.Types.{Recursive, Ty, elements_fit}

recursed_as : (T : Ty) (fits : Bool) (count : ℕ) (carry piece : List ℕ) (lines : List ValueAt)
    (at : ℕ) →
    after_transition T (resolve_recursion (transitions.Recursed count) fits) carry piece lines at
    ≡ after_recursive_count T fits count lines at
recursed_as T true count carry piece lines at = refl
recursed_as T false count carry piece lines at = refl

pub settled_reading : (T : Ty) (transition : Transition) (carry piece : List ℕ) (lines : List
    ValueAt)
    (at : ℕ) →
    after_transition T (resolve_recursion transition (elements_fit T)) carry piece lines at
    ≡ after_transition T transition carry piece lines at
settled_reading T (transitions.Recursed count) carry piece lines at =
    recursed_as T (elements_fit T) count carry piece lines at
settled_reading T transition carry piece lines at = refl

pub settled_fits : (T : Ty) (of : ℕ) (transition : Transition) (carry piece : List ℕ) →
    TransitionFits T of transition carry piece →
    TransitionFits T of (resolve_recursion transition (elements_fit T)) carry piece
settled_fits (Recursive bound true E) of (transitions.Recursed count) carry piece h = (refl, h.1)
settled_fits (Recursive bound false E) of (transitions.Recursed count) carry piece h = tt
settled_fits T of (transitions.Recursed count) carry piece h = absurd h.0
settled_fits T of transition carry piece h = h

pub settled_lets_go : (fits : Bool) (transition : Transition) (carry piece : List ℕ) →
    HoldsNothingAfter transition carry piece → HoldsNothingAfter (resolve_recursion transition fits)
    carry piece
settled_lets_go true (transitions.Recursed count) carry piece h = h
settled_lets_go false (transitions.Recursed count) carry piece h = h
settled_lets_go fits transition carry piece h = h

module _ (T : Ty) (fits : Bool) where
  pub settled_string : (transition : Transition) →
      transition_in_string T (resolve_recursion transition fits) ≡ transition_in_string T transition
  settled_string (transitions.Recursed count) = by_room fits
    where
      by_room : (b : Bool) →
          transition_in_string T (resolve_recursion (transitions.Recursed count) b) ≡ false
      by_room true = refl
      by_room false = refl
  settled_string transition = refl

  pub settled_offset : (transition : Transition) →
      transition_offset T (resolve_recursion transition fits) ≡ transition_offset T transition
  settled_offset (transitions.Recursed count) = by_room fits
    where
      by_room : (b : Bool) → transition_offset T (resolve_recursion (transitions.Recursed count) b)
          ≡ transition_offset T (transitions.Recursed count)
      by_room true = refl
      by_room false = refl
  settled_offset transition = refl

  pub settled_result : (C : Table) (d : Decoder) (transition : Transition) (lines : List ValueAt)
      (at : ℕ) → transition_result C T d (resolve_recursion transition fits) lines at
      ≡ transition_result C T d transition lines at
  settled_result C d (transitions.Recursed count) lines at = by_room fits
    where
      by_room : (b : Bool) →
          transition_result C T d (resolve_recursion (transitions.Recursed count) b) lines at
          ≡ transition_result C T d (transitions.Recursed count) lines at
      by_room true = refl
      by_room false = refl
  settled_result C d transition lines at = refl

pub settled_going : (fits : Bool) (transition : Transition) → IsNotRefused transition →
    IsNotRefused (resolve_recursion transition fits)
settled_going true (transitions.Recursed count) going = tt
settled_going false (transitions.Recursed count) going = tt
settled_going fits transition going = going

pub settled_now : (fits : Bool) (transition : Transition) →
    IsRecursionResolved (resolve_recursion transition fits)
settled_now true (transitions.Recursed count) = tt
settled_now false (transitions.Recursed count) = tt
settled_now fits transition = tt
