-- What is tracked of any stream has at most one open message without a key; and Fragments of 1.1
-- are joined to no other message.
use Rattle.std.proofs.Common.{◌≡◌, ℕ, Bool, true, false, not, ◌||◌, List, [], ◌∷◌, ◌++◌, length, refl, sym, ap, ◌∙◌, Some, arith}
use Rattle.giop_message.specs.MessageReader.{KeepsEarlierLines, ClosesWithLastLine, IsStreamable}
use Rattle.giop_message.specs.ReaderOfTable.{message_reader}
use Rattle.giop_message.specs.Signatures.{RequestTable, by_list, signatures_of}
use Rattle.giop_message.proofs.MessageLaws.{is_causal, is_ending}
use Rattle.giop_stream.specs.Framing.{cut}
use Rattle.giop_sig.specs.Table.{Table}
use Rattle.giop_stream.specs.Rules.{Rules, joins_by, rules}
use Rattle.giop_stream.specs.Events.{before_by, events, open_after, NumbersRise}
use Rattle.giop_stream.specs.Lines.{Kept, nothing_kept}
use Rattle.giop_stream.specs.OpenSlots.{tracked_after}
use Rattle.giop_stream.specs.Octet.{OctetKind, AfterStop, Ends, Held, Of, octet_of}
use Rattle.giop_stream.proofs.Lists.{by_growth}
use Rattle.giop_stream.proofs.Cuts.Start.{known_nothing, open_nothing}
use Rattle.giop_stream.proofs.CodeSteps.OneOctet.{IsStateThen, then_is}
use Rattle.giop_stream.proofs.CodeSteps.EngineAlive.{sound}
use Rattle.giop_stream.proofs.SlotSteps.Parts.{in_turn}
use Rattle.giop_stream.proofs.Restored.WithoutKey.{HasKeys, may_octet, keys_through}

module _ (R : Rules) (causal : KeepsEarlierLines R.reading) (laws : IsStreamable R.reading)
    (ending : ClosesWithLastLine R.reading) where
  joined : (b : Bool) → (not R.joins || b) ≡ false → R.joins ≡ true
  joined b e = go R.joins e
    where
      go : (joins : Bool) → (not joins || b) ≡ false → joins ≡ true
      go true e = refl
      go false e = absurd cc

  keys_start : HasKeys R.joins (tracked_after R [])
  unfolding tracked_after
  keys_start = record {
    one = rw (open_nothing R) (omega arith);
    joined = rw (open_nothing R) tt;
    whole = λ i kept known keyed.
        let is : Some nothing_kept ≡ Some kept = sym (known_nothing R i) ∙ known in
        let same : kept ≡ nothing_kept = cc in
        ap (λ (k : Kept). k.phase) same;
  }

  keys_by : (p : List ℕ) (x : ℕ) (o : OctetKind) → IsStateThen R p x o →
      HasKeys R.joins (tracked_after R p) →
      HasKeys R.joins (tracked_after R (p ++ x ∷ []))
  unfolding tracked_after open_after before_by
  keys_by p x AfterStop h k = rw h.2.tracked_after k
  keys_by p x (Ends fault) h k = rw h.1.tracked_after k
  keys_by p x (Held front) h k = rw h.2.tracked_after k
  keys_by p x (Of now) h k =
      rw h.1.adds.tracked_after (keys_through R.reading ending R.joins (tracked_after R p) _
      (may_octet R.joins R.most (before_by R (events R p)) h.1.m (joined _)) k)

  pub keys_are : (p : List ℕ) → HasKeys R.joins (tracked_after R p)
  keys_are = by_growth (λ p. HasKeys R.joins (tracked_after R p)) keys_start
      (λ p x. keys_by p x (octet_of (cut p) (length p) x)
      (then_is R causal laws p x (sound R causal laws p)))

-- the same by the rules of a table
module _ (p : List ℕ) (C : Table) (l : RequestTable) (most : ℕ) where
  causal : KeepsEarlierLines (message_reader C (by_list l))
  causal = is_causal (λ phase number. signatures_of C (by_list l number) phase)

  ending : ClosesWithLastLine (message_reader C (by_list l))
  ending = is_ending (λ phase number. signatures_of C (by_list l number) phase)

  pub keys_of : HasKeys (joins_by C) (tracked_after (rules C l most) p)
  keys_of = keys_are (rules C l most) causal (in_turn C (by_list l)) ending p

  pub rising_of : NumbersRise (open_after (rules C l most) p)
  rising_of = (sound (rules C l most) causal (in_turn C (by_list l)) p).rising
