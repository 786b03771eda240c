-- How many octets a message lacks, from what the code keeps of a stream.
use Rattle.std.proofs.Common.{◌≡◌, ℕ, ◌<◌, ◌≤◌, true, false, List, [], ◌∷◌, length, Option, Some, None, is_some, refl, sym, ap, ◌∙◌, arith, true≢false}
use Rattle.std.specs.Prelude.{IfSome, ◌-◌}
use Rattle.giop_sig.specs.Table.{Table}
use Rattle.giop_message.specs.Headers.{size}
use Rattle.giop_message.specs.Signatures.{Answers}
use Rattle.giop_checkpoint.specs.declared.fault.StreamFault.{StreamFault}
use Rattle.giop_stream.specs.Framing.{CutMessage, Cut, cut, fault_of, lacking, lacking_by}
use Rattle.giop_stream.specs.EngineView.{FramingView}
use Rattle.giop_stream.specs.EngineState.{State, state_of}
use Rattle.giop_stream.specs.Octet.{header_of, payload_count_of}
use Rattle.giop_stream.specs.ViewOfState.{IsReached, Shows}
use Rattle.giop_stream.proofs.Events.Soundness.{CurrentFitsStream}
use Rattle.giop_stream.proofs.CodeSteps.MessageOctets.{at_p, runs_on, header_at, fits_at, come_at}

after_stop : (stop : Option (ℕ × StreamFault)) (c : Option CutMessage) (held : List ℕ) →
    is_some (fault_of stop) ≡ true → lacking_by stop c held ≡ None
after_stop None c held e = absurd (true≢false (sym e))
after_stop (Some found) c held e = refl

between : (c : Option CutMessage) (held : List ℕ) → IfSome c (λ m. length m.header ≡ 12) →
    length (header_of c held) ≤ 0 → lacking_by None c held ≡ Some 0
between None [] twelve e = refl
between None (x ∷ xs) twelve e = absurd (omega (arith, e))
between (Some m) held twelve e = absurd (omega (arith, twelve, e))

within : (c : Option CutMessage) (held : List ℕ) → IfSome c (λ m. length m.header ≡ 12) →
    0 < length (header_of c held) → length (header_of c held) < 12 → lacking_by None c held ≡ None
within None [] twelve some few = absurd (omega (arith, some))
within None (x ∷ xs) twelve some few = refl
within (Some m) held twelve some few = absurd (omega (arith, twelve, few))

in_payload : (c : Option CutMessage) (held : List ℕ) → length held < 12 →
    length (header_of c held) ≡ 12
    → lacking_by None c held ≡ Some (size (header_of c held) - payload_count_of c)
in_payload None held short full = absurd (omega (arith, short, full))
in_payload (Some m) held short full = refl

no_stop : (o : Option StreamFault) → is_some o ≡ false → o ≡ None
no_stop None e = refl
no_stop (Some fault) e = absurd (true≢false e)

twelve_of : (c : Option CutMessage) (n : ℕ) (k : Cut) → IfSome c (CurrentFitsStream n k) →
    IfSome c (λ m. length m.header ≡ 12)
twelve_of None n k h = tt
twelve_of (Some m) n k h = h.twelve

module _ (C : Table) (l : Answers) (most : ℕ) (s : State) (reached : IsReached C l most s)
    (m : FramingView) (h : Shows C l m s) where
  -- after a stream fault, how many octets are lacking isn't known
  pub stopped_lacks : is_some m.stopped ≡ true → lacking (cut reached.stream) ≡ None
  unfolding state_of
  stopped_lacks is =
      let k : Cut = cut reached.stream in
      after_stop k.stop k.current k.held
      (ap is_some (sym (at_p C l most s reached m h).stopped) ∙ is)

  module _ (going : is_some m.stopped ≡ false) where
    free : m.stopped ≡ None
    free = no_stop m.stopped going

    abbrev k : Cut
    k = cut reached.stream

    runs : k.stop ≡ None
    runs = runs_on C l most s reached m h free

    head : m.header ≡ header_of k.current k.held
    head = header_at C l most s reached m h free

    twelve : IfSome k.current (λ m. length m.header ≡ 12)
    twelve = twelve_of k.current (length reached.stream) k
        (fits_at C l most s reached m h free).current

    by_run : (n : Option ℕ) → lacking_by None k.current k.held ≡ n → lacking k ≡ n
    by_run n e = ap (λ (o : Option (ℕ × StreamFault)). lacking_by o k.current k.held) runs ∙ e

    -- between two messages nothing is lacking
    pub between_lacks : length m.header ≤ 0 → lacking k ≡ Some 0
    between_lacks none = by_run (Some 0) (between k.current k.held twelve
        (omega (arith, none, ap length head)))

    -- within a header, how many octets are lacking isn't known
    pub within_lacks : 0 < length m.header → length m.header < 12 → lacking k ≡ None
    within_lacks some few = by_run None (within k.current k.held twelve
        (omega (arith, some, ap length head)) (omega (arith, few, ap length head)))

    -- in a payload, the rest of the payload is lacking
    pub payload_lacks : length m.header ≡ 12 → lacking k ≡ Some (size m.header - m.payload_count)
    payload_lacks full =
        by_run (Some (size (header_of k.current k.held) - payload_count_of k.current))
        (in_payload k.current k.held (fits_at C l most s reached m h free).short
        (omega (arith, full, ap length head)))
        ∙ ap (λ (xs : List ℕ). Some (size xs - payload_count_of k.current)) (sym head)
        ∙ ap (λ (n : ℕ). Some (size m.header - n)) (sym (come_at C l most s reached m h free))
