-- Octets that are taken together and of which the last is passed are taken as a run.
use Rattle.std.proofs.Common.{true, false, ◌≡◌, Result, Ok, IsErr, ℕ, ◌+◌, ◌-◌, ◌<◌, List, ◌++◌, length, take, get_or, sym, subst, arith, ap, ◌∙◌}
use Rattle.giop_decode.specs.declared.decoder.Decoder.{Decoder}
use Rattle.giop_decode.specs.declared.leaf.Step.{Step}
use Rattle.giop_decode.specs.declared.progress.Progress.{Progress}
use Rattle.giop_decode.specs.declared.progress.Progress.TheVariants as progress
use Rattle.giop_decode.specs.SeenState.{NotesFitRoot, CanStandAt, Fits, GoesOn, IsDone, Reads}
use Rattle.giop_decode.specs.DecoderSteps.{decoder_step}
use Rattle.giop_decode.specs.NameBuffer.{NameBufferFits, string_offset}
use Rattle.giop_decode.specs.Passes.{AreStepLines, NotesAndAdvances}
use Rattle.giop_decode.specs.ReadResult.{Coding, ValueAt}
use Rattle.giop_decode.specs.Runs.{TakenTogether, TakesSome}
use Rattle.giop_decode.specs.Spelling.{lines_text}
use Rattle.giop_decode.specs.Transitions.{Link, leaf_type, tree_in}
use Rattle.giop_decode.proofs.Advancing.{goes, own_coding, own_stands, step_fits}
use Rattle.giop_decode.proofs.FirstTaken.{NextLinesSatisfy, TakesNextOctet, HasTakenFirst, gathered_so_far, step_says, then_one, then_one_broken}
use Rattle.giop_decode.proofs.Taking.{done, takes_to}
use Rattle.giop_decode.proofs.Whole.{IsAtLast, before_last, fits_then, gathered_whole, keeps_noted_whole, lines_at, lines_whole, name_whole, same_type, says_at, stands_then, told_whole}
use Rattle.giop_print.specs.Output.{OutLog, Wrote, WroteFront}
use Rattle.giop_print.specs.declared.path.Root.{Root}
use Rattle.giop_sig.specs.Types.{Ty}
use Rattle.giop_sig.specs.Table.{Table}
use Rattle.giop_sig.specs.declared.types.TypeId.{TypeId}

-- a decoder before these octets, and one at the last of them
module _ (C : Table) (d : Decoder) (octets : List ℕ) (of : TypeId) (count : ℕ) (step : Step)
    (rest : List ℕ) (f : Fits C d) (m : Decoder)
    (h : TakenTogether C d octets of count step rest m.carry m.piece.items)
    (on : IsAtLast d m count) where
  abbrev octet : ℕ
  octet = get_or octets (count - 1) 0

  abbrev before : Decoder
  before = before_last C d octets of count step rest f m h on

  abbrev lines : (coding : Coding) (here : ℕ) → List ValueAt
  lines coding here = lines_at C d octets of count step rest f m h on coding here

  abbrev says : (coding : Coding) (here : ℕ) →
      AreStepLines C m of.0 step rest here (here + 1) (lines coding here)
  says coding here = says_at C d octets of count step rest f m h on coding here

  abbrev fits_before : Fits C before
  fits_before = fits_then C d octets of count step rest f m h on

  stands_m : (coding : Coding) (here : ℕ) → CanStandAt coding before here → CanStandAt coding m here
  stands_m coding here stands =
      stands_then C d octets of count step rest f m h on coding here stands

  reads_before : (T : Ty) (coding : Coding) (at message : ℕ) (root : Root) (s : List ℕ) →
      Reads C T coding at message root d s →
      Reads C T coding at message root before (s ++ take (count - 1) octets)
  reads_before T coding at message root s r =
      let all = (gathered_whole C d octets of count step rest f m h on).1 in
      let held = all T coding at message root s r in
      held.takes.reads (λ fault. fault)

  below : count - 1 < length octets
  below = search (arith)

  -- all octets but the last are taken
  pub before_so_far : (a : OutLog) → HasTakenFirst C d before octets (count - 1) a a
  before_so_far a =
      gathered_so_far C d before octets (count - 1) a (let b = below in omega (arith, b))
      fits_before
      (gathered_whole C d octets of count step rest f m h on).1

  pub last_says : (Says : List ℕ → Type 0) →
      ((here at : ℕ) (lines : List ValueAt) → AreStepLines C m of.0 step rest here at lines →
      Says (lines_text m.head.message m.head.root lines)) →
      NextLinesSatisfy C d octets (count - 1) Says
  last_says Says w =
      step_says C d before octets (count - 1) fits_before reads_before Says (λ coding here stands.
      rw (lines_whole C d octets of count step rest f m h on coding here stands)
      (w here (here + 1) (lines coding here) (says coding here)))

  module _ (new : Decoder) (p : Progress) (e : NotesAndAdvances C m new of.0 step rest p) where
    pub last_takes : TakesNextOctet C d new octets (count - 1) p
    last_takes T coding at message root s r =
        takes_to C T coding at message root before new (s ++ take (count - 1) octets) octet p
        fits_before e.head e.forbids_wide
        (λ here stands. e.here coding here (stands_m coding here stands))
        (λ here stands.
        rw (told_whole C d octets of count step rest f m h on coding here stands)
        (e.steps coding here (lines coding here) (says coding here)))
        (λ here front stands old.
        keeps_noted_whole C d octets of count step rest f m h on new coding here front stands
        (e.inside coding here (lines coding here) (says coding here))
        (λ o held. e.notes true o here (here + 1) (lines coding here) held (says coding here)) old)
        (reads_before T coding at message root s r)

    pub last_done : p ≡ progress.Done → IsDone new
    last_done =
        let g = fits_before in
        let own = own_coding before g.here in
        done C new p (g.here + 1) _ (e.steps own g.here (lines own g.here) (says own g.here))

    pub last_fits : GoesOn p → Fits C new
    last_fits goes_on =
        let g = fits_before in
        let own = own_coding before g.here in
        let stands = own_stands C before g in
        let told = told_whole C d octets of count step rest f m h on own g.here stands in
        let k = goes C new p (g.here + 1) (decoder_step own C before g.here octet)
        (rw told (e.steps own g.here (lines own g.here) (says own g.here))) goes_on in
        let next = e.next goes_on in
        let link : Link C g.root m.outer.items of.0 =
        let same = same_type C d octets of count step rest f m h on in
        subst (Link C g.root m.outer.items) same g.link in
        step_fits C before new g octet own k (e.forbids_wide ∙ g.forbids_wide)
        (e.here own g.here (stands_m own g.here stands)) next.ahead
        next.inside
        (next.link g.root k.leaf link k.goes_on) next.known_outer (next.known k.leaf k.goes_on)
        (next.clean k.leaf k.goes_on)
        (subst (λ h. NotesFitRoot C h.root new.notes) (sym e.head) (e.of_root g.of_root))
        (subst (λ r. NameBufferFits r (string_offset (tree_in C new.outer.items (leaf_type k.leaf))
        k.leaf)
        new.notes.buffer new.notes.name.items) (sym (ap (λ h. h.root) e.head))
        (name_whole C d octets of count step rest f m h on own g.here _ new.notes next.going
        (next.offset k.leaf k.goes_on)
        (λ o held. e.notes false o g.here (g.here + 1) (lines own g.here) held
        (says own g.here))))

    pub passed_some : {E : Type 0} (a c : OutLog) →
        NextLinesSatisfy C d octets (count - 1) (Wrote a c) →
        TakesSome {E = E} C d new octets a c (Ok (count, p))
    passed_some {E = E} a c said =
        let all : count - 1 + 1 ≡ count = omega (arith, h.some) in
        subst (λ n. TakesSome {E = E} C d new octets a c (Ok (n, p))) all
        (then_one C d before octets (count - 1) a a (before_so_far a) new c p below last_takes said
        last_fits last_done)

  pub passed_broken : {E : Type 0} (r : Result (ℕ × Progress) E) (new : Decoder) (a c : OutLog) →
      IsErr r → NextLinesSatisfy C d octets (count - 1) (WroteFront a c) →
      TakesSome C d new octets a c r
  passed_broken r new a c is said =
      then_one_broken C d before octets (count - 1) a a (before_so_far a) new c r is below said
