use Rattle.std.proofs.Common.{ℕ, List, Option, Some, set, ap, ◌∙◌}
use Rattle.tcp_connections.specs.declared.syns.KeptSyn.{KeptSyn}
use Rattle.tcp_connections.specs.Connections.{State, syn_kept, with_segment}
use Rattle.tcp_connections.specs.State.{state_of}
use Rattle.tcp_connections.proofs.connections.Connections.keep_syn.Goals as goal

pub returns-clause-kept : goal.returns-clause-kept
unfolding syn_kept
returns-clause-kept c events =
    let w : State = state_of c.args.self.now events in
    ap (λ (u : State). record u { syns = c.set.new.self.kept.items }) (c.note.ensures.noted events)
    ∙ ap (λ (ss : List (Option KeptSyn)). record (with_segment w c.args.slot c.args.flow) {
      syns = ss;
    }) (c.set.ensures
    ∙ ap (λ (ss : List (Option KeptSyn)). set ss c.args.slot (Some (record {
      flow = c.args.flow;
      number = c.onward-number.result;
    }))) (ap (λ (u : State). u.syns) (c.note.ensures.noted events))
    ∙ ap (λ (n : ℕ). set c.args.self.now.syns.kept.items c.args.slot
    (Some (record { flow = c.args.flow; number = n }))) c.onward-number.ensures)
