use Rattle.std.proofs.Common.{◌≡◌, false, ℕ, ◌+◌, ◌-◌, ◌≤◌, List, ◌++◌, length, take}
use Rattle.giop_print.specs.Output.{Wrote}
use Rattle.giop_message.specs.Phases.{Phase}
use Rattle.giop_message.specs.Signatures.{Answers, signatures_of}
use Rattle.giop_message.specs.HeaderEnds.{AgreesAtEnds, header_ends, after_ends}
use Rattle.giop_message.specs.DueOctets.{StaysUndue}
use Rattle.giop_message.specs.MessageState.{AreKnown, Fits, Follows, more_lines_text}
use Rattle.giop_message.proofs.message.Message.take.Given as goal

abbrev pub invariant-loop-taken : goal.invariant-loop-taken
invariant-loop-taken g l =
    record {
      within : l.taken ≤ length l.octets;
      fits : Fits l.catalogue l.self;
      at : l.self.at ≡ l.initial.self.at + l.taken;
      known : AreKnown l.catalogue (g.Q.Correspondent.answer
          (g.Q.Correspondent.state l.correspondent));
      follows : (answers : Answers) (phase : Phase) (number : ℕ) (header s : List ℕ) →
          Follows l.catalogue answers phase number header l.initial.self s →
          AgreesAtEnds g.Q.Correspondent.answer g.Q.Correspondent.notified l.catalogue
          (g.Q.Correspondent.state l.initial.correspondent)
          answers (header_ends phase number header s l.octets) →
          Follows l.catalogue answers phase number header l.self (s ++ take l.taken l.octets);
      text : (answers : Answers) (phase : Phase) (number : ℕ) (header s : List ℕ) →
          Follows l.catalogue answers phase number header l.initial.self s →
          AgreesAtEnds g.Q.Correspondent.answer g.Q.Correspondent.notified l.catalogue
          (g.Q.Correspondent.state l.initial.correspondent)
          answers (header_ends phase number header s l.octets) →
          Wrote (g.O.Out.log l.initial.out) (g.O.Out.log l.out)
          (more_lines_text (signatures_of l.catalogue (answers number) phase) number l.place header
          s
          (take l.taken l.octets));
      calm : g.Q.Correspondent.due (g.Q.Correspondent.state l.initial.correspondent) ≡ false →
          g.Q.Correspondent.due (g.Q.Correspondent.state l.correspondent) ≡ false;
      fronts : (answers : Answers) (phase : Phase) (number : ℕ) (header s : List ℕ) →
          Follows l.catalogue answers phase number header l.initial.self s →
          AgreesAtEnds g.Q.Correspondent.answer g.Q.Correspondent.notified l.catalogue
          (g.Q.Correspondent.state l.initial.correspondent)
          answers (header_ends phase number header s l.octets) → (k : ℕ) → k ≤ l.taken →
          StaysUndue g.Q.Correspondent.due g.Q.Correspondent.notified l.catalogue
          (g.Q.Correspondent.state l.initial.correspondent) (header_ends phase number header s)
          (take k l.octets);
      told : (answers : Answers) (phase : Phase) (number : ℕ) (header s : List ℕ) →
          Follows l.catalogue answers phase number header l.initial.self s →
          AgreesAtEnds g.Q.Correspondent.answer g.Q.Correspondent.notified l.catalogue
          (g.Q.Correspondent.state l.initial.correspondent)
          answers (header_ends phase number header s l.octets) →
          g.Q.Correspondent.state l.correspondent
          ≡ after_ends g.Q.Correspondent.notified l.catalogue
          (g.Q.Correspondent.state l.initial.correspondent)
          (header_ends phase number header s (take l.taken l.octets));
    }

abbrev pub decreases-loop-taken : goal.decreases-loop-taken
decreases-loop-taken g l = length l.octets - l.taken
