use Rattle.std.proofs.Common.{◌≡◌, ℕ, List, length, ◌+◌, ◌≤◌}
use Rattle.giop_conversation.specs.TaggedText.{StandsTaggedIn}
use Rattle.giop_conversation.proofs.tagged.put_tag.Given as goal

abbrev pub invariant-loop-due : goal.invariant-loop-due
invariant-loop-due g l =
    record {
      within : l.due ≤ length l.tag;
      count : l.since + l.due ≡ l.initial.since + l.initial.due;
      none : (g.O.Out.log l.out).failures ≡ (g.O.Out.log l.initial.out).failures;
      stands : (before text : List ℕ) →
          StandsTaggedIn (g.O.Out.log l.initial.out).written before l.tag l.initial.since text
          l.initial.due →
          StandsTaggedIn (g.O.Out.log l.out).written before l.tag l.since text l.due;
    }

abbrev pub decreases-loop-due : goal.decreases-loop-due
decreases-loop-due g l = l.due
