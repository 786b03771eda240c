-- Which messages are unfinished: the open ones and the current one, unless they are over.
use Rattle.std.proofs.Common.{arith, ◌≡◌, ℕ, Bool, true, false, cond, not, List, [], ◌∷◌, ◌++◌, length, refl, ◌∙◌, Option, Some, None}
use Rattle.std.specs.Prelude.{if◌then◌else◌, ◌||◌, ◌&&◌, nat_le, flat_map}
use Rattle.std.specs.List.{AllByRecursion as Each}
use Rattle.std.proofs.lemmas.Bool.{eq-eqb, or_right}
use Rattle.giop_stream.specs.Kinds.{is_any_fragment, lookup_offset}
use Rattle.giop_stream.specs.Rules.{Rules}
use Rattle.giop_stream.specs.Framing.{CutMessage, Cut, cut, octets_read}
use Rattle.giop_message.specs.MessageReader.{KeepsEarlierLines, ClosesWithLastLine, IsStreamable}
use Rattle.giop_stream.specs.Text.{truncated_line}
use Rattle.giop_stream.specs.Stream.{ends_inside, is_over, unfinished}
use Rattle.giop_stream.specs.Events.{Open, OpenState, message_key, key, opener_of, is_named_fragment, open_after_events, before_by, events, open_after}
use Rattle.giop_stream.specs.OpenSlots.{KeptByNumber, known_of, is_open, slots_of, Tracked, tracked_after, number_if_kept, unfinished_number}
use Rattle.giop_stream.specs.EngineState.{opener_key, owner_of_next, owner_of_next_in, state_of}
use Rattle.giop_stream.specs.EngineStep.{unfinished_current, unfinished_numbers}
use Rattle.giop_stream.proofs.Lists.{each_weaker}
use Rattle.giop_stream.specs.Lines.{Kept, kept_of}
use Rattle.giop_stream.proofs.StreamLines.LastLines.{known_is}
use Rattle.giop_stream.proofs.StreamLines.FirstMessages.{numbers_of, current_if_unopened, without_over}
use Rattle.giop_stream.proofs.Events.EventsByEngine.{found_under}
use Rattle.giop_stream.proofs.Events.UnfinishedAreOpen.{tail_now, alive_append, complete}

-- The message numbers that an engine has at the finish are those of the unfinished messages.
one_left : (over : ℕ → Bool) (xs : KeptByNumber) (i : ℕ) (rest : List ℕ) →
    ((i : ℕ) → over i ≡ true → xs i ≡ None)
    → ((i : ℕ) → over i ≡ false → (kept : Kept) × (xs i ≡ Some kept)) → (b : Bool) → over i ≡ b
    → number_if_kept i (xs i) ++ rest ≡ cond (not (over i)) (i ∷ rest) rest
one_left over xs i rest h k true e = rw (h i e, e) refl
one_left over xs i rest h k false e = search (arith)

slots_left : (over : ℕ → Bool) (xs : KeptByNumber) (still_open : List Open) →
    ((i : ℕ) → over i ≡ true → xs i ≡ None)
    → ((i : ℕ) → over i ≡ false → (kept : Kept) × (xs i ≡ Some kept))
    → flat_map unfinished_number (slots_of xs still_open) ≡ without_over over
    (numbers_of still_open)
unfolding slots_of unfinished_number without_over numbers_of
slots_left over xs [] h k = refl
slots_left over xs (o ∷ still_open) h k = search (
  arith,
  one_left,
  without_over,
  numbers_of,
  slots_left
      over xs still_open h k,
)

or_none : (b : Bool) → (b || false) ≡ b
or_none true = refl
or_none false = refl

-- each of these messages is open
all_open : (still_open : List Open) → Each (λ o. is_open still_open o.opener.number ≡ true)
    still_open
unfolding is_open
all_open [] = tt
all_open (o ∷ still_open) = search (arith, eq-eqb, each_weaker, or_right, all_open still_open)

-- if the owner of the next octets isn't open, it is the current message
current_left : (over : ℕ → Bool) (b : OpenState) (c : Tracked) (current : Option CutMessage)
    → b.still_open ≡ c.still_open → ((i : ℕ) → over i ≡ true → c.known i ≡ None) →
    ((i : ℕ) → over i ≡ false → (kept : Kept) × (c.known i ≡ Some kept))
    → unfinished_current c (owner_of_next_in b current)
    ≡ without_over over (tail_now c.still_open current)
unfolding unfinished_current owner_of_next is_named_fragment opener_of without_over tail_now
    current_if_unopened
current_left over b c None same h k = refl
current_left over b c (Some m) same h k = go (is_any_fragment m.header) refl
  where
    continued : (o : Option Open) → opener_of b m ≡ o → unfinished_current c (opener_key o) ≡ []
    continued None e = refl
    continued (Some o) e =
        let stands : is_open b.still_open o.opener.number ≡ true =
        found_under (λ o. is_open b.still_open o.opener.number ≡ true) b (key m) o
        (all_open b.still_open) e in
        rw (rw same at stands) refl

    fragment : is_any_fragment m.header ≡ true → (a d : Bool) → is_open c.still_open m.number ≡ d →
        unfinished_current c (if a then opener_key (opener_of b m) else Some (message_key m))
        ≡ []
    fragment f true d e = search (arith, continued)
    fragment f false true e = rw e refl
    fragment f false false e = rw (e, f) refl

    itself : (open_now a : Bool) → over m.number ≡ a
        → (if open_now then [] else number_if_kept m.number (c.known m.number))
        ≡ without_over over (if open_now then [] else m.number ∷ [])
    itself true a e = refl
    itself false true e = rw (h m.number e, e) refl
    itself false false e = search (arith)

    go : (a : Bool) → is_any_fragment m.header ≡ a
        → unfinished_current c (if is_any_fragment m.header && nat_le (lookup_offset m.header)
        (length m.payload) then
        opener_key (opener_of b m) else Some (message_key m)) ≡ without_over over
        (if is_any_fragment m.header || is_open c.still_open m.number then [] else m.number ∷ [])
    go true f = search (arith, fragment)
    go false f = search (arith, or_none, itself)

known_over : (R : Rules) (p : List ℕ) (i : ℕ) → is_over R p i ≡ true → known_of R p i ≡ None
unfolding known_of
known_over R p i h = rw h refl

pub left_is : (R : Rules) → KeepsEarlierLines R.reading → IsStreamable R.reading →
    ClosesWithLastLine R.reading →
    (p : List ℕ) → unfinished R p ≡ unfinished_numbers (state_of R p)
unfolding unfinished unfinished_numbers state_of tracked_after before_by open_after without_over
left_is R causal laws ending p =
    let still_open = open_after_events [] (events R p) in
    let over = is_over R p in
    let known : (i : ℕ) → over i ≡ false → (kept : Kept) × (known_of R p i ≡ Some kept) =
    λ i h. (kept_of i (events R p), known_is R p i h) in
    (complete R causal laws ending p).kept
    ∙ (alive_append over (numbers_of still_open) (tail_now still_open (cut p).current)
    ∙ rw (
      slots_left over (known_of R p) still_open (known_over R p) known,
      current_left over (before_by R (events R p)) (tracked_after R p) (cut p).current refl
          (known_over R p) known,
    ) refl)

pub read_by : (p : List ℕ) (c : Cut) → cut p ≡ c → ends_inside c.current c.held c.stop ≡ true →
    octets_read p c.stop ≡ length p
unfolding ends_inside octets_read
read_by p c e h = search (arith)

pub truncated_by : (b : Bool) (read n : ℕ) → (b ≡ true → read ≡ n) →
    (if b then truncated_line n else []) ≡ (if b then truncated_line read else [])
truncated_by true read n h = search (arith)
truncated_by false read n h = refl
