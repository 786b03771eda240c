use Rattle.std.proofs.Common.{◌≡◌, ℕ, false, ◌+◌, ◌-◌, ◌≤◌, length, take}
use Rattle.giop_print.specs.Output.{Wrote}
use Rattle.giop_message.specs.Signatures.{Answers}
use Rattle.giop_message.specs.MessageState.{AreKnown}
use Rattle.giop_message.specs.HeaderEnds.{AgreesAtEnds, after_ends}
use Rattle.giop_stream.specs.Rules.{rules_by}
use Rattle.giop_stream.specs.SlotsRepresent.{AreReady}
use Rattle.giop_stream.specs.DueOctets.{is_due_after}
use Rattle.giop_stream.specs.EngineState.{State}
use Rattle.giop_stream.specs.EngineStep.{lines_of_run, run_state}
use Rattle.giop_stream.specs.Text.{lines_text}
use Rattle.giop_stream.specs.HeaderEndsOfStream.{header_ends_from}
use Rattle.giop_stream.specs.FramingView.{framing_view}
use Rattle.giop_stream.specs.ViewOfState.{IsReached, Shows}
use Rattle.giop_stream.proofs.framing.Framing.take_piece.Given as goal

abbrev pub invariant-loop-taken : goal.invariant-loop-taken
invariant-loop-taken g l =
    record {
      within : l.taken ≤ length l.piece;
      most : l.self.slots.slots.most ≡ l.initial.self.slots.slots.most;
      known : AreKnown l.catalogue (g.Q.Correspondent.answer
          (g.Q.Correspondent.state l.correspondent));
      ready : AreReady l.catalogue (l.self.totals.octets + 1) l.self.slots;
      so_far : (a : Answers) (s : State) (r : IsReached l.catalogue a
          l.initial.self.slots.slots.most s) →
          Shows l.catalogue a (framing_view l.initial.self) s →
          AgreesAtEnds g.Q.Correspondent.answer g.Q.Correspondent.notified l.catalogue
          (g.Q.Correspondent.state l.initial.correspondent) a
          (header_ends_from (rules_by l.catalogue a l.initial.self.slots.slots.most) r.stream
          l.piece) →
          record {
            shows : Shows l.catalogue a (framing_view l.self)
                (run_state (rules_by l.catalogue a l.initial.self.slots.slots.most) s
                (take l.taken l.piece));
            text : Wrote (g.O.Out.log l.initial.out) (g.O.Out.log l.out)
                (lines_text (lines_of_run (rules_by l.catalogue a l.initial.self.slots.slots.most) s
                (take l.taken l.piece)));
            told : g.Q.Correspondent.state l.correspondent
                ≡ after_ends g.Q.Correspondent.notified l.catalogue
                (g.Q.Correspondent.state l.initial.correspondent)
                (header_ends_from (rules_by l.catalogue a l.initial.self.slots.slots.most) r.stream
                (take l.taken l.piece));
            fronts : (k : ℕ) → k ≤ l.taken →
                g.Q.Correspondent.due (g.Q.Correspondent.state l.initial.correspondent) ≡ false →
                is_due_after g.Q.Correspondent.due g.Q.Correspondent.notified
                g.Q.Correspondent.awaits_messages l.catalogue
                (g.Q.Correspondent.state l.initial.correspondent)
                (rules_by l.catalogue a l.initial.self.slots.slots.most) r.stream
                (take k l.piece) ≡ false;
          };
    }

abbrev pub decreases-loop-taken : goal.decreases-loop-taken
decreases-loop-taken g l = length l.piece - l.taken
